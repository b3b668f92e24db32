-- Steps of the merge: the first peer that has a prefix, and the heap of the first prefixes of all peers.
use Rattle.std.proofs.Common.{◌≡◌, ◌⊎◌, inl, inr, ℕ, zero, suc, ◌+◌, ◌<◌, ◌≤◌, Bool, true, false, cond, not, ◌&&◌, ◌||◌, eqb, List, [], ◌∷◌, ◌++◌, length, map, get_or, Some, None, T, refl, sym, ap, subst, ◌∙◌, arith}
use Rattle.std.proofs.Math.ListN.{set}
use Rattle.std.specs.List.{filter, list_any, AllByRecursion}
use Rattle.std.specs.List.Sorted.{IsPermutation}
use Rattle.std.specs.Ordering.{is_lt, nat_cmp, ordering_then, ordering_reverse}
use Rattle.std.specs.declared.cmp.Ordering.{Ordering}
use Rattle.std.specs.declared.cmp.Ordering.TheVariants.{Less, Equal, Greater}
use Rattle.std.specs.declared.cmp.Reverse.{Reverse}
use Rattle.std.specs.FinMap.Entries.{is_sorted, below_all}
use Rattle.std.proofs.lemmas.List.Folds.{list_any-append}
use Rattle.std.proofs.lemmas.List.Sums.{sum_by-cons, sum_by-set}
use Rattle.std.proofs.lemmas.List.Sorted.{sum_by_pushed, sum_by_popped}
use Rattle.std.proofs.lemmas.Bool.{ne_eqb, eq-eqb, eqb-true}
use Rattle.std.specs.Cmp.{tied_itself}
use borrow.Author.Tests.{both_ways, lt-ltb}
use Rattle.bgp_prefix.specs.Prefixes.{IpPrefix, prefix_cmp, prefix_eq}
use Rattle.bgp_prefix.specs.Keys.{RouteKey, key_cmp, begins_with}
use Rattle.bgp_prefix.proofs.KeyLaws.{prefix_cmp_total, prefix_cmp_exact, same_prefix}
use Rattle.bgp_update.specs.declared.route.Route.{Route}
use Rattle.table_dumps.specs.Checkpoints.{prefix_route}
use Rattle.checkpoint_writing.specs.Merging.{Entries, has_prefix, first_prefix, prefixes_among, routes_among, others_of, without, AtOrAbove, AreAbove, NoneHas, entries_count, Head, head_cmp, head_eq, count_of, is_head}
use Rattle.checkpoint_writing.proofs.StepLaws.{first_of, second_of, prefix_itself, apart_of}

less_of : (r : Ordering) → T (is_lt r) → r ≡ Less
less_of Less h = refl
less_of Equal h = absurd h
less_of Greater h = absurd h

-- ---- the entries of one peer

-- what is above q stays above it for a later key
later_above : (q : IpPrefix) (j k : RouteKey) → prefix_cmp q j.prefix ≡ Less → T (is_lt (key_cmp j k)) → prefix_cmp q k.prefix ≡ Less
later_above q j k above h = by_order (prefix_cmp j.prefix k.prefix) refl h
  where
    by_order : (r : Ordering) → prefix_cmp j.prefix k.prefix ≡ r → T (is_lt (ordering_then r (nat_cmp j.id k.id))) → prefix_cmp q k.prefix ≡ Less
    by_order Less e t = prefix_cmp_total.trans q j.prefix k.prefix above e
    by_order Equal e t = ap (prefix_cmp q) (sym (prefix_cmp_exact j.prefix k.prefix e)) ∙ above
    by_order Greater e t = absurd t

none_later : (q : IpPrefix) (k : RouteKey) (es : Entries) → prefix_cmp q k.prefix ≡ Less → T (below_all key_cmp k es) → (filter (has_prefix q) es ≡ []) × (others_of q es ≡ es)
none_later q k [] above h = (refl, refl)
none_later q k (e ∷ es) above h =
    let now : prefix_eq q e.0.prefix ≡ false = apart_of q e.0.prefix (later_above q k e.0 above (first_of (is_lt (key_cmp k e.0)) (below_all key_cmp k es) h)) in
    let more = none_later q k es above (second_of (is_lt (key_cmp k e.0)) (below_all key_cmp k es) h) in (
      ap (λ (b : Bool). cond b (e ∷ filter (has_prefix q) es) (filter (has_prefix q) es)) now ∙ more.0,
      ap (λ (b : Bool). cond (not b) (e ∷ others_of q es) (others_of q es)) now ∙ ap (λ (l : Entries). e ∷ l) more.1,
    )

-- entries at or above a prefix that don't begin with it don't have it
pub none_begins : (q : IpPrefix) (es : Entries) → T (is_sorted key_cmp es) → AllByRecursion (AtOrAbove q) es → begins_with q es ≡ false → (filter (has_prefix q) es ≡ []) × (others_of q es ≡ es)
none_begins q [] h above other = (refl, refl)
none_begins q (e ∷ es) h above other = by_head above.0
  where
    by_head : AtOrAbove q e → (filter (has_prefix q) (e ∷ es) ≡ []) × (others_of q (e ∷ es) ≡ e ∷ es)
    by_head (inl same) = absurd (both_ways (prefix_eq q e.0.prefix) other same)
    by_head (inr less) =
        let more = none_later q e.0 es less (first_of (below_all key_cmp e.0 es) (is_sorted key_cmp es) h) in (
          ap (λ (b : Bool). cond b (e ∷ filter (has_prefix q) es) (filter (has_prefix q) es)) other ∙ more.0,
          ap (λ (b : Bool). cond (not b) (e ∷ others_of q es) (others_of q es)) other ∙ ap (λ (l : Entries). e ∷ l) more.1,
        )

own_gone : (q : IpPrefix) (es : Entries) → filter (has_prefix q) (others_of q es) ≡ []
own_gone q [] = refl
own_gone q (e ∷ es) = by_test (prefix_eq q e.0.prefix) refl (own_gone q es)
  where
    by_test : (b : Bool) → prefix_eq q e.0.prefix ≡ b → filter (has_prefix q) (others_of q es) ≡ [] → filter (has_prefix q) (cond (not b) (e ∷ others_of q es) (others_of q es)) ≡ []
    by_test true t more = more
    by_test false t more = ap (λ (b : Bool). cond b (e ∷ filter (has_prefix q) (others_of q es)) (filter (has_prefix q) (others_of q es))) t ∙ more

others_again : (q : IpPrefix) (es : Entries) → others_of q (others_of q es) ≡ others_of q es
others_again q [] = refl
others_again q (e ∷ es) = by_test (prefix_eq q e.0.prefix) refl (others_again q es)
  where
    by_test : (b : Bool) → prefix_eq q e.0.prefix ≡ b → others_of q (others_of q es) ≡ others_of q es → others_of q (cond (not b) (e ∷ others_of q es) (others_of q es)) ≡ cond (not b) (e ∷ others_of q es) (others_of q es)
    by_test true t more = more
    by_test false t more = ap (λ (b : Bool). cond (not b) (e ∷ others_of q (others_of q es)) (others_of q (others_of q es))) t ∙ ap (λ (l : Entries). e ∷ l) more

pub others_above : (q : IpPrefix) (es : Entries) → AllByRecursion (AtOrAbove q) es → AllByRecursion (AtOrAbove q) (others_of q es)
others_above q [] h = tt
others_above q (e ∷ es) h = by_test (prefix_eq q e.0.prefix) (others_above q es h.1)
  where
    by_test : (b : Bool) → AllByRecursion (AtOrAbove q) (others_of q es) → AllByRecursion (AtOrAbove q) (cond (not b) (e ∷ others_of q es) (others_of q es))
    by_test true more = more
    by_test false more = (h.0, more)

others_fewer : (q : IpPrefix) (es : Entries) → length (others_of q es) ≤ length es
others_fewer q [] = omega arith
others_fewer q (e ∷ es) = by_test (prefix_eq q e.0.prefix) (others_fewer q es)
  where
    by_test : (b : Bool) → length (others_of q es) ≤ length es → length (cond (not b) (e ∷ others_of q es) (others_of q es)) ≤ length (e ∷ es)
    by_test true more = omega (arith, more)
    by_test false more = omega (arith, more)

-- entries that begin with a prefix are more than those without it
begun_fewer : (q : IpPrefix) (es : Entries) → begins_with q es ≡ true → length (others_of q es) < length es
begun_fewer q [] h = absurd cc
begun_fewer q (e ∷ es) h =
    subst (λ (b : Bool). length (cond (not b) (e ∷ others_of q es) (others_of q es)) < length (e ∷ es)) (sym h) (omega (arith, others_fewer q es))

-- ---- lists of lists

pub set_all : {A : Type 0} (P : A → Type 0) (xs : List A) (i : ℕ) (x : A) → AllByRecursion P xs → P x → AllByRecursion P (set xs i x)
set_all P [] i x h p = tt
set_all P (y ∷ xs) zero x h p = (p, h.1)
set_all P (y ∷ xs) (suc i) x h p = (h.0, set_all P xs i x h.1 p)

pub get_all : {A : Type 0} (P : A → Type 0) (xs : List A) (i : ℕ) (d : A) → AllByRecursion P xs → i < length xs → P (get_or xs i d)
get_all P [] i d h below = absurd (omega arith)
get_all P (y ∷ xs) zero d h below = h.0
get_all P (y ∷ xs) (suc i) d h below = get_all P xs i d h.1 (omega arith)

abbrev pub AreSorted : List Entries → Type 0
AreSorted lists = AllByRecursion (λ (es : Entries). T (is_sorted key_cmp es)) lists

-- a head doesn't come before x
abbrev pub IsBound : ℕ → List Entries → Head → Type 0
IsBound number lists x = (k : Head) → is_head number lists k ≡ true → is_lt (head_cmp k x) ≡ false

-- ---- which heads there are

split_if : (b : Bool) (x y z : Bool) → b ≡ false → cond b x y ≡ z → y ≡ z
split_if true x y z f e = absurd cc
split_if false x y z f e = e

-- the list of a head, by its place
pub record HeadAt (number : ℕ) (lists : List Entries) (k : Head) : Type 0 where
  pub at : ℕ
  pub place : k.1 ≡ number + at
  pub within : at < length lists
  pub begins : begins_with k.0 (get_or lists at []) ≡ true

pub head_at : (number : ℕ) (lists : List Entries) (k : Head) → is_head number lists k ≡ true → HeadAt number lists k
head_at number [] k h = absurd cc
head_at number (es ∷ lists) k h = by_test (eqb k.1 number) refl h (λ f. head_at (number + 1) lists k f)
  where
    later : HeadAt (number + 1) lists k → HeadAt number (es ∷ lists) k
    later found = record {
      at = suc found.at;
      place = omega (arith, found.place);
      within = omega (arith, found.within);
      begins = found.begins;
    }

    by_test : (b : Bool) → eqb k.1 number ≡ b → cond b (begins_with k.0 es) (is_head (number + 1) lists k) ≡ true → (is_head (number + 1) lists k ≡ true → HeadAt (number + 1) lists k) → HeadAt number (es ∷ lists) k
    by_test true t f more = record { at = zero; place = omega (arith, eqb-true k.1 number t); within = omega arith; begins = f }
    by_test false t f more = later (more f)

-- a number past the lists has no head
pub none_past : (number : ℕ) (lists : List Entries) (k : Head) → number + length lists ≤ k.1 → is_head number lists k ≡ false
none_past number lists k past = by_test (is_head number lists k) refl
  where
    by_test : (b : Bool) → is_head number lists k ≡ b → b ≡ false
    by_test false t = refl
    by_test true t =
        let found = head_at number lists k t in
        absurd (omega (arith, past, found.place, found.within))

-- whether a head is that of the list in its place
pub head_is : (number at : ℕ) (lists : List Entries) (k : Head) → k.1 ≡ number + at → at < length lists → is_head number lists k ≡ begins_with k.0 (get_or lists at [])
head_is number at [] k place within = absurd (omega arith)
head_is number zero (es ∷ lists) k place within =
    ap (λ (b : Bool). cond b (begins_with k.0 es) (is_head (number + 1) lists k)) (eq-eqb k.1 number (omega (arith, place)))
head_is number (suc at) (es ∷ lists) k place within =
    ap (λ (b : Bool). cond b (begins_with k.0 es) (is_head (number + 1) lists k)) (ne_eqb k.1 number (λ e. absurd (omega (arith, place, e))))
    ∙ head_is (number + 1) at lists k (omega (arith, place)) (omega arith)

-- the heads once a list is another one
pub head_set : (number at : ℕ) (lists : List Entries) (es : Entries) (k : Head) → at < length lists
    → is_head number (set lists at es) k ≡ cond (eqb k.1 (number + at)) (begins_with k.0 es) (is_head number lists k)
head_set number at [] es k within = absurd (omega arith)
head_set number zero (fs ∷ lists) es k within = by_test (eqb k.1 number) refl
  where
    by_test : (b : Bool) → eqb k.1 number ≡ b → cond b (begins_with k.0 es) (is_head (number + 1) lists k) ≡ cond (eqb k.1 (number + 0)) (begins_with k.0 es) (cond b (begins_with k.0 fs) (is_head (number + 1) lists k))
    by_test true t = sym (ap (λ (c : Bool). cond c (begins_with k.0 es) (begins_with k.0 fs)) (eq-eqb k.1 (number + 0) (omega (arith, eqb-true k.1 number t))))
    by_test false t = sym (ap (λ (c : Bool). cond c (begins_with k.0 es) (is_head (number + 1) lists k)) (ap (eqb k.1) (omega arith) ∙ t))
head_set number (suc at) (fs ∷ lists) es k within =
    ap (λ (b : Bool). cond (eqb k.1 number) (begins_with k.0 fs) b) (head_set (number + 1) at lists es k (omega arith))
    ∙ by_test (eqb k.1 number) refl
  where
    by_test : (b : Bool) → eqb k.1 number ≡ b → cond b (begins_with k.0 fs) (cond (eqb k.1 ((number + 1) + at)) (begins_with k.0 es) (is_head (number + 1) lists k))
        ≡ cond (eqb k.1 (number + suc at)) (begins_with k.0 es) (cond b (begins_with k.0 fs) (is_head (number + 1) lists k))
    by_test true t = sym (ap (λ (c : Bool). cond c (begins_with k.0 es) (begins_with k.0 fs)) (ne_eqb k.1 (number + suc at) (λ e. absurd (omega (arith, eqb-true k.1 number t, e)))))
    by_test false t = ap (λ (n : ℕ). cond (eqb k.1 n) (begins_with k.0 es) (is_head (number + 1) lists k)) (omega arith)

-- the heads once there is one list more
pub head_more : (number : ℕ) (lists : List Entries) (es : Entries) (k : Head)
    → is_head number (lists ++ es ∷ []) k ≡ cond (eqb k.1 (number + length lists)) (begins_with k.0 es) (is_head number lists k)
head_more number [] es k = ap (λ (n : ℕ). cond (eqb k.1 n) (begins_with k.0 es) false) (omega arith)
head_more number (fs ∷ lists) es k =
    ap (λ (b : Bool). cond (eqb k.1 number) (begins_with k.0 fs) b) (head_more (number + 1) lists es k)
    ∙ by_test (eqb k.1 number) refl
  where
    by_test : (b : Bool) → eqb k.1 number ≡ b → cond b (begins_with k.0 fs) (cond (eqb k.1 ((number + 1) + length lists)) (begins_with k.0 es) (is_head (number + 1) lists k))
        ≡ cond (eqb k.1 (number + suc (length lists))) (begins_with k.0 es) (cond b (begins_with k.0 fs) (is_head (number + 1) lists k))
    by_test true t = sym (ap (λ (c : Bool). cond c (begins_with k.0 es) (begins_with k.0 fs)) (ne_eqb k.1 (number + suc (length lists)) (λ e. absurd (omega (arith, eqb-true k.1 number t, e)))))
    by_test false t = ap (λ (n : ℕ). cond (eqb k.1 n) (begins_with k.0 es) (is_head (number + 1) lists k)) (omega arith)

-- a head of the lists behind the first one is a head of all
pub head_later : (number : ℕ) (es : Entries) (lists : List Entries) (k : Head) → is_head (number + 1) lists k ≡ true → is_head number (es ∷ lists) k ≡ true
head_later number es lists k h =
    let found = head_at (number + 1) lists k h in
    ap (λ (b : Bool). cond b (begins_with k.0 es) (is_head (number + 1) lists k)) (ne_eqb k.1 number (λ e. absurd (omega (arith, found.place, e)))) ∙ h

-- the first prefix of the first list is a head
pub head_here : (number : ℕ) (e : RouteKey × Route) (es : Entries) (lists : List Entries) → is_head number ((e ∷ es) ∷ lists) (e.0.prefix, number) ≡ true
head_here number e es lists =
    ap (λ (b : Bool). cond b (prefix_eq e.0.prefix e.0.prefix) (is_head (number + 1) lists (e.0.prefix, number))) (eq-eqb number number refl) ∙ prefix_itself e.0.prefix

-- ---- a step

-- before the first peer that has a prefix none has it
first_hasnt : (p : IpPrefix) (number other : ℕ) (e : RouteKey × Route) (es : Entries) → number < other → is_lt (head_cmp (e.0.prefix, number) (p, other)) ≡ false → AtOrAbove p e → prefix_eq p e.0.prefix ≡ false
first_hasnt p number other e es before bound (inr less) = apart_of p e.0.prefix less
first_hasnt p number other e es before bound (inl same) =
    absurd (both_ways (is_lt (head_cmp (e.0.prefix, number) (p, other))) bound
    (ap (λ (q : IpPrefix). is_lt (ordering_then (prefix_cmp q p) (nat_cmp number other))) (sym (same_prefix p e.0.prefix same))
    ∙ ap (λ (r : Ordering). is_lt (ordering_then r (nat_cmp number other))) (tied_itself prefix_cmp_total p)
    ∙ before_less))
  where
    before_less : is_lt (nat_cmp number other) ≡ true
    before_less = ap (λ (b : Bool). is_lt (cond b Less (cond (eqb number other) Equal Greater))) (lt-ltb number other before)

pub routes_step : (p : IpPrefix) (number at : ℕ) (lists : List Entries) → at < length lists → IsBound number lists (p, number + at) → AreAbove p lists → AreSorted lists
    → routes_among p number lists ≡ map (prefix_route (number + at)) (filter (has_prefix p) (get_or lists at [])) ++ routes_among p number (set lists at (others_of p (get_or lists at [])))
routes_step p number at [] within bound above sorted = absurd (omega arith)
routes_step p number zero (es ∷ lists) within bound above sorted =
    λ i. map (prefix_route (sym (here number) i)) (filter (has_prefix p) es) ++ (map (prefix_route number) (sym (own_gone p es) i) ++ routes_among p (number + 1) lists)
  where
    here : (n : ℕ) → n + 0 ≡ n
    here n = omega arith
routes_step p number (suc at) (es ∷ lists) within bound above sorted =
    (λ i. map (prefix_route number) (none es above.0 sorted.0 (bound_here es bound) i) ++ routes_among p (number + 1) lists)
    ∙ routes_step p (number + 1) at lists (omega arith) (λ k h. ap (λ (n : ℕ). is_lt (head_cmp k (p, n))) (omega arith) ∙ bound k (head_later number es lists k h)) above.1 sorted.1
    ∙ (λ i. map (prefix_route (place i)) (filter (has_prefix p) (get_or lists at [])) ++ (map (prefix_route number) (sym (none es above.0 sorted.0 (bound_here es bound)) i) ++ routes_among p (number + 1) (set lists at (others_of p (get_or lists at [])))))
  where
    place : (number + 1) + at ≡ number + suc at
    place = omega arith

    bound_here : (fs : Entries) → IsBound number (fs ∷ lists) (p, number + suc at) → AllByRecursion (AtOrAbove p) fs → begins_with p fs ≡ false
    bound_here [] b a = refl
    bound_here (e ∷ fs) b a = first_hasnt p number (number + suc at) e fs (omega arith) (b (e.0.prefix, number) (head_here number e fs lists)) a.0

    none : (fs : Entries) → AllByRecursion (AtOrAbove p) fs → T (is_sorted key_cmp fs) → (AllByRecursion (AtOrAbove p) fs → begins_with p fs ≡ false) → filter (has_prefix p) fs ≡ []
    none fs a s b = (none_begins p fs s a (b a)).0

pub without_step : (p : IpPrefix) (at : ℕ) (lists : List Entries) → without p (set lists at (others_of p (get_or lists at []))) ≡ without p lists
without_step p at [] = refl
without_step p zero (es ∷ lists) = ap (λ (l : Entries). l ∷ without p lists) (others_again p es)
without_step p (suc at) (es ∷ lists) = ap (λ (ls : List Entries). others_of p es ∷ ls) (without_step p at lists)

-- ---- none has the prefix

pub none_has : (p : IpPrefix) (number : ℕ) (lists : List Entries) → ((k : Head) → is_head number lists k ≡ true → prefix_eq p k.0 ≡ false) → AreAbove p lists → AreSorted lists → NoneHas p lists
none_has p number [] other above sorted = tt
none_has p number (es ∷ lists) other above sorted =
    (none_begins p es sorted.0 above.0 (begins es other), none_has p (number + 1) lists (λ k h. other k (head_later number es lists k h)) above.1 sorted.1)
  where
    begins : (fs : Entries) → ((k : Head) → is_head number (fs ∷ lists) k ≡ true → prefix_eq p k.0 ≡ false) → begins_with p fs ≡ false
    begins [] o = refl
    begins (e ∷ fs) o = o (e.0.prefix, number) (head_here number e fs lists)

pub no_routes : (p : IpPrefix) (number : ℕ) (lists : List Entries) → NoneHas p lists → routes_among p number lists ≡ []
no_routes p number [] h = refl
no_routes p number (es ∷ lists) h = λ i. map (prefix_route number) (h.0.0 i) ++ no_routes p (number + 1) lists h.1 i

pub all_left : (p : IpPrefix) (lists : List Entries) → NoneHas p lists → without p lists ≡ lists
all_left p [] h = refl
all_left p (es ∷ lists) h = λ i. h.0.1 i ∷ all_left p lists h.1 i

-- ---- the least prefix

at_or_above : (p : IpPrefix) (e : RouteKey × Route) → is_lt (prefix_cmp e.0.prefix p) ≡ false → AtOrAbove p e
at_or_above p e h = by_order (prefix_cmp e.0.prefix p) refl h
  where
    by_order : (r : Ordering) → prefix_cmp e.0.prefix p ≡ r → is_lt r ≡ false → AtOrAbove p e
    by_order Less t f = absurd cc
    by_order Equal t f = inl (ap (prefix_eq p) (prefix_cmp_exact e.0.prefix p t) ∙ prefix_itself p)
    by_order Greater t f = inr (prefix_cmp_total.antisymm p e.0.prefix ∙ ap ordering_reverse t)

rest_above : (p : IpPrefix) (k : RouteKey) (es : Entries) → (prefix_eq p k.prefix ≡ true) ⊎ (prefix_cmp p k.prefix ≡ Less) → T (below_all key_cmp k es) → AllByRecursion (AtOrAbove p) es
rest_above p k [] first h = tt
rest_above p k (e ∷ es) first h =
    (by_first first, rest_above p k es first (second_of (is_lt (key_cmp k e.0)) (below_all key_cmp k es) h))
  where
    by_order : (r : Ordering) → prefix_cmp k.prefix e.0.prefix ≡ r → T (is_lt (ordering_then r (nat_cmp k.id e.0.id))) → p ≡ k.prefix → AtOrAbove p e
    by_order Less t f same = inr (ap (λ (q : IpPrefix). prefix_cmp q e.0.prefix) same ∙ t)
    by_order Equal t f same = inl (ap (prefix_eq p) (sym (prefix_cmp_exact k.prefix e.0.prefix t) ∙ sym same) ∙ prefix_itself p)
    by_order Greater t f same = absurd f

    by_first : (prefix_eq p k.prefix ≡ true) ⊎ (prefix_cmp p k.prefix ≡ Less) → AtOrAbove p e
    by_first (inl same) = by_order (prefix_cmp k.prefix e.0.prefix) refl (first_of (is_lt (key_cmp k e.0)) (below_all key_cmp k es) h) (same_prefix p k.prefix same)
    by_first (inr less) = inr (later_above p k e.0 less (first_of (is_lt (key_cmp k e.0)) (below_all key_cmp k es) h))

head_not_less : (q p : IpPrefix) (j k : ℕ) → is_lt (head_cmp (q, j) (p, k)) ≡ false → is_lt (prefix_cmp q p) ≡ false
head_not_less q p j k h = by_order (prefix_cmp q p) h
  where
    by_order : (r : Ordering) → is_lt (ordering_then r (nat_cmp j k)) ≡ false → is_lt r ≡ false
    by_order Less f = absurd cc
    by_order Equal f = refl
    by_order Greater f = refl

pub all_above : (p : IpPrefix) (peer number : ℕ) (lists : List Entries) → IsBound number lists (p, peer) → AreSorted lists → AreAbove p lists
all_above p peer number [] bound sorted = tt
all_above p peer number (es ∷ lists) bound sorted =
    (own es sorted.0 bound, all_above p peer (number + 1) lists (λ k h. bound k (head_later number es lists k h)) sorted.1)
  where
    own : (fs : Entries) → T (is_sorted key_cmp fs) → IsBound number (fs ∷ lists) (p, peer) → AllByRecursion (AtOrAbove p) fs
    own [] s b = tt
    own (e ∷ fs) s b =
        let first : AtOrAbove p e = at_or_above p e (head_not_less e.0.prefix p number peer (b (e.0.prefix, number) (head_here number e fs lists))) in
        (first, rest_above p e.0 fs first (first_of (below_all key_cmp e.0 fs) (is_sorted key_cmp fs) s))

begins_stands : (p : IpPrefix) (es : Entries) → begins_with p es ≡ true → list_any (prefix_eq p) (map (λ (e : RouteKey × Route). e.0.prefix) es) ≡ true
begins_stands p [] h = absurd cc
begins_stands p (e ∷ es) h = ap (λ (b : Bool). b || list_any (prefix_eq p) (map (λ (x : RouteKey × Route). x.0.prefix) es)) h

or_true : (a b : Bool) → b ≡ true → (a || b) ≡ true
or_true true b h = refl
or_true false b h = h

pub head_stands : (p : IpPrefix) (at : ℕ) (lists : List Entries) → at < length lists → begins_with p (get_or lists at []) ≡ true → list_any (prefix_eq p) (prefixes_among lists) ≡ true
head_stands p at [] within begins = absurd (omega arith)
head_stands p zero (es ∷ lists) within begins =
    list_any-append (prefix_eq p) (map (λ (e : RouteKey × Route). e.0.prefix) es) (prefixes_among lists)
    ∙ ap (λ (b : Bool). b || list_any (prefix_eq p) (prefixes_among lists)) (begins_stands p es begins)
head_stands p (suc at) (es ∷ lists) within begins =
    list_any-append (prefix_eq p) (map (λ (e : RouteKey × Route). e.0.prefix) es) (prefixes_among lists)
    ∙ or_true (list_any (prefix_eq p) (map (λ (e : RouteKey × Route). e.0.prefix) es)) (list_any (prefix_eq p) (prefixes_among lists)) (head_stands p at lists (omega arith) begins)

-- ---- the heap

same_head : (j k : Head) → head_eq j k ≡ true → j ≡ k
same_head j k h = by_prefix (prefix_eq j.0 k.0) refl h
  where
    by_prefix : (b : Bool) → prefix_eq j.0 k.0 ≡ b → (b && eqb j.1 k.1) ≡ true → j ≡ k
    by_prefix false t f = absurd cc
    by_prefix true t f = λ i. (same_prefix j.0 k.0 t i, eqb-true j.1 k.1 f i)

pub head_itself : (k : Head) → head_eq k k ≡ true
head_itself k = ap (λ (b : Bool). b && eqb k.1 k.1) (prefix_itself k.0) ∙ eq-eqb k.1 k.1 refl

abbrev one_if : Bool → ℕ
one_if b = cond b 1 0

abbrev is_of : Head → Reverse Head → ℕ
is_of k h = one_if (head_eq k h.0)

-- what stands in a heap isn't before its top
pub bound_of_top : (x : Reverse Head) (k : Head) (heads : List (Reverse Head)) → AllByRecursion (λ (y : Reverse Head). is_lt (head_cmp y.0 x.0) ≡ false) heads → 1 ≤ count_of k heads → is_lt (head_cmp k x.0) ≡ false
bound_of_top x k [] bound some = absurd (omega arith)
bound_of_top x k (y ∷ heads) bound some = by_test (head_eq k y.0) refl (λ more. bound_of_top x k heads bound.1 more)
  where
    by_test : (b : Bool) → head_eq k y.0 ≡ b → (1 ≤ count_of k heads → is_lt (head_cmp k x.0) ≡ false) → is_lt (head_cmp k x.0) ≡ false
    by_test true t more = ap (λ (j : Head). is_lt (head_cmp j x.0)) (same_head k y.0 t) ∙ bound.0
    by_test false t more = more (omega (arith, some, sum_by-cons (is_of k) y heads, ap one_if t))

pub top_counts : (x : Reverse Head) (heads : List (Reverse Head)) → 1 ≤ count_of x.0 (x ∷ heads)
top_counts x heads = omega (arith, sum_by-cons (is_of x.0) x heads, ap one_if (head_itself x.0))

one_or_none : (b : Bool) → 1 ≤ one_if b → b ≡ true
one_or_none true h = refl
one_or_none false h = absurd (omega arith)

-- each head stands in the heap once
abbrev pub AreCounted : List Entries → List (Reverse Head) → Type 0
AreCounted lists heads = (k : Head) → count_of k heads ≡ one_if (is_head 0 lists k)

-- the top is the head of a list, and no head is before it
pub top_is_head : (lists : List Entries) (x : Reverse Head) (heads : List (Reverse Head)) → AreCounted lists (x ∷ heads) → is_head 0 lists x.0 ≡ true
top_is_head lists x heads counted = one_or_none (is_head 0 lists x.0) (omega (arith, counted x.0, top_counts x heads))

pub top_is_least : (lists : List Entries) (x : Reverse Head) (heads : List (Reverse Head)) → AreCounted lists heads → AllByRecursion (λ (y : Reverse Head). is_lt (head_cmp y.0 x.0) ≡ false) heads → IsBound 0 lists x.0
top_is_least lists x heads counted bound k h = bound_of_top x k heads bound (omega (arith, counted k, ap one_if h))

-- without heads, no list has entries
pub none_counted : (lists : List Entries) (k : Head) → AreCounted lists [] → is_head 0 lists k ≡ true → ⊥
none_counted lists k counted h = absurd (omega (arith, counted k, ap one_if h))

-- ---- a list more

head_eq_at : (k : Head) (p : IpPrefix) (at : ℕ) → k.1 ≡ at → head_eq k (p, at) ≡ prefix_eq k.0 p
head_eq_at k p at e = by_prefix (prefix_eq k.0 p)
  where
    by_prefix : (b : Bool) → (b && eqb k.1 at) ≡ b
    by_prefix true = eq-eqb k.1 at e
    by_prefix false = refl

head_eq_other : (k : Head) (p : IpPrefix) (at : ℕ) → eqb k.1 at ≡ false → head_eq k (p, at) ≡ false
head_eq_other k p at e = by_prefix (prefix_eq k.0 p)
  where
    by_prefix : (b : Bool) → (b && eqb k.1 at) ≡ false
    by_prefix true = e
    by_prefix false = refl

at_end : (n : ℕ) → 0 + n ≡ n
at_end n = omega arith

pub counted_more : (lists : List Entries) (e : RouteKey × Route) (es : Entries) (heads more : List (Reverse Head)) → AreCounted lists heads → IsPermutation (record { 0 = (e.0.prefix, length lists) } ∷ heads) more → AreCounted (lists ++ (e ∷ es) ∷ []) more
counted_more lists e es heads more counted moved k =
    let x : Reverse Head = record { 0 = (e.0.prefix, length lists) } in
    by_place (eqb k.1 (length lists)) refl (sum_by_pushed (is_of k) x heads more moved)
    ∙ sym (ap one_if (head_more 0 lists (e ∷ es) k ∙ ap (λ (n : ℕ). cond (eqb k.1 n) (prefix_eq k.0 e.0.prefix) (is_head 0 lists k)) (at_end (length lists))))
  where
    by_place : (b : Bool) → eqb k.1 (length lists) ≡ b → count_of k more ≡ one_if (head_eq k (e.0.prefix, length lists)) + count_of k heads → count_of k more ≡ one_if (cond b (prefix_eq k.0 e.0.prefix) (is_head 0 lists k))
    by_place true t pushed =
        let place = eqb-true k.1 (length lists) t in
        omega (arith, pushed, counted k, ap one_if (head_eq_at k e.0.prefix (length lists) place), ap one_if (none_past 0 lists k (omega (arith, place))))
    by_place false t pushed = omega (arith, pushed, counted k, ap one_if (head_eq_other k e.0.prefix (length lists) t))

pub counted_same : (lists : List Entries) (heads : List (Reverse Head)) → AreCounted lists heads → AreCounted (lists ++ [] ∷ []) heads
counted_same lists heads counted k =
    by_place (eqb k.1 (length lists)) refl
    ∙ sym (ap one_if (head_more 0 lists [] k ∙ ap (λ (n : ℕ). cond (eqb k.1 n) false (is_head 0 lists k)) (at_end (length lists))))
  where
    by_place : (b : Bool) → eqb k.1 (length lists) ≡ b → count_of k heads ≡ one_if (cond b false (is_head 0 lists k))
    by_place true t = omega (arith, counted k, ap one_if (none_past 0 lists k (omega (arith, eqb-true k.1 (length lists) t))))
    by_place false t = counted k

-- ---- a head of a peer, and the next one

begins_as : (p q : IpPrefix) (es : Entries) → begins_with p es ≡ true → begins_with q es ≡ prefix_eq q p
begins_as p q [] h = absurd cc
begins_as p q (e ∷ es) h = ap (prefix_eq q) (sym (same_prefix p e.0.prefix h))

none_first : (q : IpPrefix) (es : Entries) → first_prefix es ≡ None → begins_with q es ≡ false
none_first q [] h = refl
none_first q (e ∷ es) h = absurd cc

some_first : (p q : IpPrefix) (es : Entries) → first_prefix es ≡ Some p → begins_with q es ≡ prefix_eq q p
some_first p q [] h = absurd cc
some_first p q (e ∷ es) h =
    let same : e.0.prefix ≡ p = cc in
    ap (prefix_eq q) same

module _ (lists : List Entries) (p : IpPrefix) (at : ℕ) (es : Entries) (heads mid : List (Reverse Head)) (within : at < length lists)
    (begins : begins_with p (get_or lists at []) ≡ true) (counted : AreCounted lists heads) (popped : IsPermutation heads (record { 0 = (p, at) } ∷ mid)) where
  mid_at : (k : Head) → k.1 ≡ at → count_of k mid ≡ 0
  mid_at k place =
      omega (
        arith,
        sum_by_popped (is_of k) (record { 0 = (p, at) }) heads mid popped,
        counted k,
        ap one_if (head_is 0 at lists k (omega (arith, place)) within ∙ begins_as p k.0 (get_or lists at []) begins),
        ap one_if (head_eq_at k p at place),
      )

  mid_other : (k : Head) → eqb k.1 at ≡ false → count_of k mid ≡ one_if (is_head 0 lists k)
  mid_other k other =
      omega (arith, sum_by_popped (is_of k) (record { 0 = (p, at) }) heads mid popped, counted k, ap one_if (head_eq_other k p at other))

  set_is : (k : Head) → is_head 0 (set lists at es) k ≡ cond (eqb k.1 at) (begins_with k.0 es) (is_head 0 lists k)
  set_is k = head_set 0 at lists es k within ∙ ap (λ (n : ℕ). cond (eqb k.1 n) (begins_with k.0 es) (is_head 0 lists k)) (at_end at)

  pub counted_left : first_prefix es ≡ None → AreCounted (set lists at es) mid
  counted_left none k = by_place (eqb k.1 at) refl ∙ sym (ap one_if (set_is k))
    where
      by_place : (b : Bool) → eqb k.1 at ≡ b → count_of k mid ≡ one_if (cond b (begins_with k.0 es) (is_head 0 lists k))
      by_place true t = omega (arith, mid_at k (eqb-true k.1 at t), ap one_if (none_first k.0 es none))
      by_place false t = mid_other k t

  pub counted_next : (q : IpPrefix) (new : List (Reverse Head)) → first_prefix es ≡ Some q → IsPermutation (record { 0 = (q, at) } ∷ mid) new → AreCounted (set lists at es) new
  counted_next q new some moved k = by_place (eqb k.1 at) refl (sum_by_pushed (is_of k) (record { 0 = (q, at) }) mid new moved) ∙ sym (ap one_if (set_is k))
    where
      by_place : (b : Bool) → eqb k.1 at ≡ b → count_of k new ≡ one_if (head_eq k (q, at)) + count_of k mid → count_of k new ≡ one_if (cond b (begins_with k.0 es) (is_head 0 lists k))
      by_place true t pushed =
          let place = eqb-true k.1 at t in
          omega (arith, pushed, mid_at k place, ap one_if (head_eq_at k q at place), ap one_if (some_first q k.0 es some))
      by_place false t pushed = omega (arith, pushed, mid_other k t, ap one_if (head_eq_other k q at t))

-- ---- how many entries are left

count_set : (lists : List Entries) (at : ℕ) (es : Entries) → at < length lists → entries_count (set lists at es) + length (get_or lists at []) ≡ entries_count lists + length es
count_set lists at es within = sum_by-set length lists at es [] within

pub step_fewer : (p : IpPrefix) (lists : List Entries) (at : ℕ) → at < length lists → begins_with p (get_or lists at []) ≡ true → entries_count (set lists at (others_of p (get_or lists at []))) < entries_count lists
step_fewer p lists at within begins =
    omega (arith, count_set lists at (others_of p (get_or lists at [])) within, begun_fewer p (get_or lists at []) begins)

without_most : (p : IpPrefix) (lists : List Entries) → entries_count (without p lists) ≤ entries_count lists
without_most p [] = omega arith
without_most p (es ∷ lists) =
    omega (arith, without_most p lists, others_fewer p es, sum_by-cons length es lists, sum_by-cons length (others_of p es) (without p lists))

pub without_fewer : (p : IpPrefix) (at : ℕ) (lists : List Entries) → at < length lists → begins_with p (get_or lists at []) ≡ true → entries_count (without p lists) < entries_count lists
without_fewer p at [] within begins = absurd (omega arith)
without_fewer p zero (es ∷ lists) within begins =
    omega (arith, without_most p lists, begun_fewer p es begins, sum_by-cons length es lists, sum_by-cons length (others_of p es) (without p lists))
without_fewer p (suc at) (es ∷ lists) within begins =
    omega (arith, without_fewer p at lists (omega arith) begins, others_fewer p es, sum_by-cons length es lists, sum_by-cons length (others_of p es) (without p lists))
