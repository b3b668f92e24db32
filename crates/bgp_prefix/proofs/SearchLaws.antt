-- What a search finds in a list in the order of its keys, and what an edit at that position does.
use Rattle.std.proofs.Common.{◌≡◌, ℕ, zero, suc, ◌<◌, ◌≤◌, Bool, true, false, cond, not, ◌&&◌, List, [], ◌∷◌, length, get_or, set, Some, None, Result, Ok, Err, IfOk, IfErr, refl, sym, ap, ◌∙◌, T, arith, inl, inr}
use Rattle.std.specs.List.{insert, remove}
use Rattle.std.specs.List.Sorted.{IsSearchInRange, IsBinarySearchResult, IsNonDecreasingBy}
use Rattle.std.specs.declared.cmp.Ordering.{Ordering}
use Rattle.std.specs.declared.cmp.Ordering.TheVariants.{Less, Equal, Greater}
use Rattle.std.specs.Ordering.{is_lt, is_eq, eq_by_cmp, ordering_index, ordering_reverse}
use Rattle.std.specs.Cmp.{IsTotalOrder}
use Rattle.std.specs.FinMap.{find, put, is_sorted}
use Rattle.std.specs.FinMap.Entries.{below_all, where_key, by_order}
use Rattle.std.proofs.lemmas.Bool.{cases_order}
use Rattle.bgp_prefix.specs.Searches.{IsAt, IsGap}

pub both : (a b : Bool) → T a → T b → T (a && b)
both true b p q = q
both false b p q = p

pub first : (a b : Bool) → T (a && b) → T a
first true b p = tt
first false b p = p

pub second : (a b : Bool) → T (a && b) → T b
second true b p = p
second false b p = absurd p

pub less : (o : Ordering) → T (is_lt o) → o ≡ Less
less Less p = refl
less Equal p = absurd p
less Greater p = absurd p

module _ {K : Type 0} (cmp : K → K → Ordering) (o : IsTotalOrder cmp) where
  pub turn : (x y : K) (r : Ordering) → cmp x y ≡ r → cmp y x ≡ ordering_reverse r
  turn x y r e = o.antisymm y x ∙ ap ordering_reverse e

  pub index_le : (a b k : K) → cmp a b ≡ Less → ordering_index (cmp a k) ≤ ordering_index (cmp b k)
  index_le a b k h = elim (cmp a k) as (λ r. cmp a k ≡ r → ordering_index r ≤ ordering_index (cmp b k)) [
    | Less ↦ λ e. omega arith
    | Equal ↦ λ e.
        let same : cmp b k ≡ Greater = turn k b Less (sym (o.congr a k b e) ∙ h) in
        rw same (omega arith)
    | Greater ↦ λ e.
        let later : cmp b k ≡ Greater = turn k b Less (o.trans k a b (turn a k Greater e) h) in
        rw later (omega arith)
  ] refl

  pub tied_less : (a k : K) → cmp a k ≡ Less → eq_by_cmp cmp k a ≡ false
  tied_less a k e = ap is_eq (turn a k Less e)

  pub tied_greater : (a k : K) → cmp a k ≡ Greater → eq_by_cmp cmp k a ≡ false
  tied_greater a k e = ap is_eq (turn a k Greater e)

module _ {K V : Type 0} (cmp : K → K → Ordering) (o : IsTotalOrder cmp) where
  below_at : (x : K) (es : List (K × V)) (j : ℕ) (d : K × V) → T (below_all cmp x es) → j < length es → cmp x (get_or es j d).0 ≡ Less
  below_at x [] j d h lt = absurd (omega (arith, lt))
  below_at x (e ∷ es) zero d h lt = less _ (first _ _ h)
  below_at x (e ∷ es) (suc j) d h lt = below_at x es j d (second _ _ h) (omega (arith, lt))

  pub sorted_at : (es : List (K × V)) (i j : ℕ) (d : K × V) → T (is_sorted cmp es) → i < j → j < length es → cmp (get_or es i d).0 (get_or es j d).0 ≡ Less
  sorted_at [] i j d h lt in_range = absurd (omega (arith, in_range))
  sorted_at (e ∷ es) i zero d h lt in_range = absurd (omega (arith, lt))
  sorted_at (e ∷ es) zero (suc j) d h lt in_range = below_at e.0 es j d (first _ _ h) (omega (arith, in_range))
  sorted_at (e ∷ es) (suc i) (suc j) d h lt in_range = sorted_at es i j d (second _ _ h) (omega (arith, lt)) (omega (arith, in_range))

  comparisons_rise : (es : List (K × V)) (k : K) → T (is_sorted cmp es) → IsNonDecreasingBy (λ e. ordering_index (cmp e.0 k)) es
  comparisons_rise es k h i j d le in_range = elim (cases_order i j) [
    | inl same ↦ rw same (omega arith)
    | inr (inl lt) ↦ index_le cmp o _ _ k (sorted_at es i j d h lt in_range)
    | inr (inr gt) ↦ absurd (omega (arith, le, gt))
  ]

  -- what a binary search by key ends at
  pub searched : (es : List (K × V)) (k : K) (r : Result ℕ ℕ) → T (is_sorted cmp es) → IsSearchInRange r (length es) → IsBinarySearchResult (λ e. cmp e.0 k) es r → record { found : IfOk r (IsAt cmp es k); absent : IfErr r (IsGap cmp es k) }
  searched es k (Ok i) h in_range equal = record { found = record { in_range = in_range; has_key = λ d. equal d }; absent = tt }
  searched es k (Err i) h in_range parted = record {
    found = tt;
    absent = record {
      in_range = in_range;
      before = λ j d lt. (parted (comparisons_rise es k h)).0 j d (omega (arith, lt, in_range)) lt;
      after = λ j d le lt. (parted (comparisons_rise es k h)).1 j d le lt;
    };
  }

  gap_tail : (e : K × V) (es : List (K × V)) (k : K) (i : ℕ) → IsGap cmp (e ∷ es) k (suc i) → IsGap cmp es k i
  gap_tail e es k i gap = record {
    in_range = omega (arith, gap.in_range);
    before = λ j d lt. gap.before (suc j) d (omega (arith, lt));
    after = λ j d le lt. gap.after (suc j) d (omega (arith, le)) (omega (arith, lt));
  }

  pub gap_put : (es : List (K × V)) (k : K) (v : V) (i : ℕ) → IsGap cmp es k i → put cmp k v es ≡ insert es i (k, v)
  gap_put [] k v zero gap = refl
  gap_put [] k v (suc i) gap = refl
  gap_put (e ∷ es) k v zero gap = ap (λ r. by_order r ((k, v) ∷ e ∷ es) ((e.0, v) ∷ es) (e ∷ put cmp k v es)) (turn cmp o e.0 k Greater (gap.after 0 e (omega arith) (omega arith)))
  gap_put (e ∷ es) k v (suc i) gap = ap (λ r. by_order r ((k, v) ∷ e ∷ es) ((e.0, v) ∷ es) (e ∷ put cmp k v es)) (turn cmp o e.0 k Less (gap.before 0 e (omega arith))) ∙ ap (λ t. e ∷ t) (gap_put es k v i (gap_tail e es k i gap))

  none_after : (es : List (K × V)) (k : K) → ((j : ℕ) (d : K × V) → j < length es → cmp (get_or es j d).0 k ≡ Greater) → (find cmp k es ≡ None) × (where_key cmp (λ x. not (eq_by_cmp cmp k x)) es ≡ es)
  none_after [] k h = (refl, refl)
  none_after (e ∷ es) k h =
      let rest = none_after es k (λ j d lt. h (suc j) d (omega (arith, lt))) in
      let other = tied_greater cmp o e.0 k (h 0 e (omega arith)) in
      (ap (λ b. cond b (Some e.1) (find cmp k es)) other ∙ rest.0, ap (λ b. cond (not b) (e ∷ where_key cmp (λ x. not (eq_by_cmp cmp k x)) es) (where_key cmp (λ x. not (eq_by_cmp cmp k x)) es)) other ∙ ap (λ t. e ∷ t) rest.1)

  pub gap_absent : (es : List (K × V)) (k : K) (i : ℕ) → IsGap cmp es k i → (find cmp k es ≡ None) × (where_key cmp (λ x. not (eq_by_cmp cmp k x)) es ≡ es)
  gap_absent [] k i gap = (refl, refl)
  gap_absent (e ∷ es) k zero gap = none_after (e ∷ es) k (λ j d lt. gap.after j d (omega arith) lt)
  gap_absent (e ∷ es) k (suc i) gap =
      let rest = gap_absent es k i (gap_tail e es k i gap) in
      let other = tied_less cmp o e.0 k (gap.before 0 e (omega arith)) in
      (ap (λ b. cond b (Some e.1) (find cmp k es)) other ∙ rest.0, ap (λ b. cond (not b) (e ∷ where_key cmp (λ x. not (eq_by_cmp cmp k x)) es) (where_key cmp (λ x. not (eq_by_cmp cmp k x)) es)) other ∙ ap (λ t. e ∷ t) rest.1)

  at_tail : (e : K × V) (es : List (K × V)) (k : K) (i : ℕ) → IsAt cmp (e ∷ es) k (suc i) → IsAt cmp es k i
  at_tail e es k i at = record { in_range = omega (arith, at.in_range); has_key = λ d. at.has_key d }

  -- the first key is below one that stands later
  first_below : (e : K × V) (es : List (K × V)) (k : K) (i : ℕ) → T (is_sorted cmp (e ∷ es)) → IsAt cmp (e ∷ es) k (suc i) → cmp k e.0 ≡ Greater
  first_below e es k i h at = sym (o.congr _ k e.0 (at.has_key e)) ∙ turn cmp o e.0 _ Less (sorted_at (e ∷ es) 0 (suc i) e h (omega arith) at.in_range)

  pub at_put : (es : List (K × V)) (k : K) (v : V) (i : ℕ) (d : K × V) → T (is_sorted cmp es) → IsAt cmp es k i → put cmp k v es ≡ set es i ((get_or es i d).0, v)
  at_put [] k v i d h at = absurd (omega (arith, at.in_range))
  at_put (e ∷ es) k v zero d h at = ap (λ r. by_order r ((k, v) ∷ e ∷ es) ((e.0, v) ∷ es) (e ∷ put cmp k v es)) (turn cmp o e.0 k Equal (at.has_key e))
  at_put (e ∷ es) k v (suc i) d h at = ap (λ r. by_order r ((k, v) ∷ e ∷ es) ((e.0, v) ∷ es) (e ∷ put cmp k v es)) (first_below e es k i h at) ∙ ap (λ t. e ∷ t) (at_put es k v i d (second _ _ h) (at_tail e es k i at))

  pub at_find : (es : List (K × V)) (k : K) (i : ℕ) (d : K × V) → T (is_sorted cmp es) → IsAt cmp es k i → find cmp k es ≡ Some (get_or es i d).1
  at_find [] k i d h at = absurd (omega (arith, at.in_range))
  at_find (e ∷ es) k zero d h at = ap (λ r. cond (is_eq r) (Some e.1) (find cmp k es)) (turn cmp o e.0 k Equal (at.has_key e))
  at_find (e ∷ es) k (suc i) d h at = ap (λ r. cond (is_eq r) (Some e.1) (find cmp k es)) (first_below e es k i h at) ∙ at_find es k i d (second _ _ h) (at_tail e es k i at)

  all_above : (x k : K) (es : List (K × V)) → cmp x k ≡ Equal → T (below_all cmp x es) → (j : ℕ) (d : K × V) → j < length es → cmp (get_or es j d).0 k ≡ Greater
  all_above x k es same h j d lt = turn cmp o k _ Less (sym (o.congr x k _ same) ∙ below_at x es j d h lt)

  pub at_without : (es : List (K × V)) (k : K) (i : ℕ) → T (is_sorted cmp es) → IsAt cmp es k i → where_key cmp (λ x. not (eq_by_cmp cmp k x)) es ≡ remove es i
  at_without [] k i h at = absurd (omega (arith, at.in_range))
  at_without (e ∷ es) k zero h at =
      ap (λ r. cond (not (is_eq r)) (e ∷ where_key cmp (λ x. not (eq_by_cmp cmp k x)) es) (where_key cmp (λ x. not (eq_by_cmp cmp k x)) es)) (turn cmp o e.0 k Equal (at.has_key e))
      ∙ (none_after es k (all_above e.0 k es (at.has_key e) (first _ _ h))).1
  at_without (e ∷ es) k (suc i) h at =
      ap (λ r. cond (not (is_eq r)) (e ∷ where_key cmp (λ x. not (eq_by_cmp cmp k x)) es) (where_key cmp (λ x. not (eq_by_cmp cmp k x)) es)) (first_below e es k i h at)
      ∙ ap (λ t. e ∷ t) (at_without es k i (second _ _ h) (at_tail e es k i at))
