-- Keys of peers' tables, each with the number of peers that have it.
use Rattle.std.proofs.Common.{◌≡◌, ℕ, ◌+◌, ◌<◌, ◌≤◌, ◌^◌, Bool, true, false, cond, ◌||◌, List, [], ◌∷◌, ◌++◌, Some, None, refl, sym, ap, ◌∙◌, subst, map, length, T, arith, append-nil, add-zero}
use Rattle.std.specs.Prelude.{IsTrue, ◌↔◌}
use Rattle.std.specs.declared.cmp.Ordering.{Ordering}
use Rattle.std.specs.declared.cmp.Ordering.TheVariants.{Equal}
use Rattle.std.specs.Ordering.{eq_by_cmp}
use Rattle.std.specs.Cmp.{IsTotalOrder}
use Rattle.std.specs.List.{flat_map, count_by, list_any}
use Rattle.std.specs.FinMap.Entries.{find, is_sorted, same_entries}
use Rattle.std.proofs.lemmas.Bool.{false≢true, or_parts}
use Rattle.std.proofs.lemmas.Grind.{flat_map-append}
use Rattle.std.proofs.lemmas.List.Folds.{list_any-append}
use Rattle.std.proofs.lemmas.List.Sums.{sum_by-cons, sum_by-append, count_by-le-length}
use Rattle.bgp_prefix.specs.Ordered.{in_order}
use Rattle.bgp_prefix.proofs.OrderedLaws.{is_sorted-tabulated}
use Rattle.rib_report.specs.Merges.{add_counts}
use Rattle.rib_report.proofs.MergeLaws.{plus, joined, tallied, find_valued, joined_tallied, valued_in_order}
use Rattle.rib_report.proofs.RunLaws.{hit}

pub true_of : (b : Bool) → T b → b ≡ true
true_of true h = refl
true_of false h = absurd h

where_any : (a b : Bool) (n : ℕ) → a ≡ b → n ≡ hit b → cond a (Some 1) None ≡ cond a (Some n) None
where_any true true n e is = ap Some (sym is)
where_any true false n e is = absurd (false≢true (sym e))
where_any false b n e is = refl

-- the sum of two counts, where either key may be missing
sum_where : (a b : Bool) (m n : ℕ) → (a ≡ false → m ≡ 0) → (b ≡ false → n ≡ 0) → add_counts m n ≡ m + n → plus add_counts (cond a (Some m) None) (cond b (Some n) None) ≡ cond (a || b) (Some (m + n)) None
sum_where true true m n p q fits = ap Some fits
sum_where true false m n p q fits = ap Some (omega (arith, q refl))
sum_where false true m n p q fits = ap Some (omega (arith, p refl))
sum_where false false m n p q fits = refl

counted_or : (b c : Bool) (n m : ℕ) → (c ≡ true → 1 ≤ n) → (1 ≤ n → c ≡ true) → m ≡ cond b 1 0 + n → ((b || c) ≡ true → 1 ≤ m) × (1 ≤ m → (b || c) ≡ true)
counted_or true c n m there back e = ((λ h. omega arith), (λ h. refl))
counted_or false c n m there back e = ((λ h. let low = there h in omega arith), (λ h. back (omega arith)))

counted_where : (b : Bool) (m n : ℕ) → (b ≡ true → 1 ≤ m) → cond b (Some m) None ≡ Some n → (m ≡ n) × (1 ≤ n)
counted_where true m n low e =
    let same : m ≡ n = cc in
    let least : 1 ≤ m = low refl in
    (same, omega (arith, same, least))
counted_where false m n low e = absurd cc

module _ {K S : Type 0} {cmp : K → K → Ordering} (o : IsTotalOrder cmp) (exact : (x y : K) → cmp x y ≡ Equal → x ≡ y) (eq : K → K → Bool) (tied : (x y : K) → eq_by_cmp cmp x y ≡ eq x y) (keys : S → List K) where
  abbrev has : K → S → Bool
  has k seat = list_any (eq k) (keys seat)

  abbrev count_in : List S → K → ℕ
  count_in seats k = count_by (has k) seats

  -- the keys of these peers in order, and how many of them have each
  abbrev counted_among : List S → List (K × ℕ)
  counted_among seats = map (λ k. (k, count_in seats k)) (in_order cmp (flat_map keys seats))

  any_tied : (q : K) (ks : List K) → list_any (eq_by_cmp cmp q) ks ≡ list_any (eq q) ks
  any_tied q ks = λ i. list_any (λ k. tied q k i) ks

  abbrev tally : List S → List (K × ℕ)
  tally seats = tallied cmp (count_in seats) (flat_map keys seats)

  among_tally : (seats : List S) → counted_among seats ≡ tally seats
  among_tally seats = valued_in_order exact (count_in seats) (flat_map keys seats)

  -- the keys of one peer, in order and each with a count of 1
  one_counted : (es : List (K × ℕ)) (s : S) → T (is_sorted cmp es) → ((q : K) → find cmp q es ≡ cond (list_any (eq_by_cmp cmp q) (keys s)) (Some 1) None) → es ≡ counted_among (s ∷ [])
  one_counted es s up at =
      let ks = keys s in
      let all = flat_map keys (s ∷ []) in
      let same : all ≡ ks = append-nil ks in
      let count : (q : K) → count_in (s ∷ []) q ≡ hit (list_any (eq q) ks) = λ q. sum_by-cons (λ t. hit (has q t)) s [] ∙ add-zero _ in
      same_entries cmp o exact es (tally (s ∷ [])) up (is_sorted-tabulated o (λ k. Some (count_in (s ∷ []) k)) all)
      (λ q. at q
      ∙ where_any (list_any (eq_by_cmp cmp q) ks) (list_any (eq q) ks) (count_in (s ∷ []) q) (any_tied q ks) (count q)
      ∙ ap (λ l. cond (list_any (eq_by_cmp cmp q) l) (Some (count_in (s ∷ []) q)) None) (sym same)
      ∙ sym (find_valued exact (count_in (s ∷ [])) o q all))
      ∙ sym (among_tally (s ∷ []))

  pub once_counted : (s : S) → map (λ k. (k, 1)) (in_order cmp (keys s)) ≡ counted_among (s ∷ [])
  once_counted s =
      valued_in_order exact (λ _. 1) (keys s)
      ∙ one_counted (tallied cmp (λ _. 1) (keys s)) s (is_sorted-tabulated o (λ _. Some 1) (keys s)) (λ q. find_valued exact (λ _. 1) o q (keys s))

  -- no peer has a key of no table
  none_counted : (q : K) (seats : List S) → list_any (eq_by_cmp cmp q) (flat_map keys seats) ≡ false → count_in seats q ≡ 0
  none_counted q [] e = refl
  none_counted q (s ∷ seats) e =
      let parts = or_parts (list_any (eq_by_cmp cmp q) (keys s)) (list_any (eq_by_cmp cmp q) (flat_map keys seats)) (sym (list_any-append (eq_by_cmp cmp q) (keys s) (flat_map keys seats)) ∙ e) in
      let here : hit (has q s) ≡ 0 = ap hit (sym (any_tied q (keys s)) ∙ parts.0) in
      let later : count_in seats q ≡ 0 = none_counted q seats parts.1 in
      omega (arith, here, later, sum_by-cons (λ t. hit (has q t)) s seats)

  -- the counted keys of two groups of peers are those of both
  pub merged_counted : (xs ys : List S) → length xs + length ys < 2 ^ 64 → joined cmp add_counts (counted_among xs) (counted_among ys) ≡ counted_among (xs ++ ys)
  merged_counted xs ys few =
      let count : (q : K) → count_in xs q + count_in ys q ≡ count_in (xs ++ ys) q = λ q. sym (sum_by-append (λ t. hit (has q t)) xs ys) in
      let fits : (q : K) → add_counts (count_in xs q) (count_in ys q) ≡ count_in xs q + count_in ys q =
      λ q. omega (arith, few, count_by-le-length (has q) xs, count_by-le-length (has q) ys) in
      ap (λ l. joined cmp add_counts l (counted_among ys)) (among_tally xs) ∙ ap (joined cmp add_counts (tally xs)) (among_tally ys)
      ∙ joined_tallied o add_counts exact (count_in xs) (count_in ys) (λ q. count_in xs q + count_in ys q) (flat_map keys xs) (flat_map keys ys)
      (λ q. sum_where (list_any (eq_by_cmp cmp q) (flat_map keys xs)) (list_any (eq_by_cmp cmp q) (flat_map keys ys)) (count_in xs q) (count_in ys q) (none_counted q xs) (none_counted q ys) (fits q))
      ∙ ap (λ n. tallied cmp n (flat_map keys xs ++ flat_map keys ys)) (λ i q. count q i)
      ∙ ap (tallied cmp (count_in (xs ++ ys))) (sym (flat_map-append keys xs ys))
      ∙ sym (among_tally (xs ++ ys))

  -- ---- what the counted keys say

  found : (seats : List S) (q : K) → find cmp q (counted_among seats) ≡ cond (list_any (eq_by_cmp cmp q) (flat_map keys seats)) (Some (count_in seats q)) None
  found seats q = ap (find cmp q) (among_tally seats) ∙ find_valued exact (count_in seats) o q (flat_map keys seats)

  -- some peer has a key of some table
  counted_somewhere : (q : K) (seats : List S)
      → (list_any (eq q) (flat_map keys seats) ≡ true → 1 ≤ count_in seats q)
      × (1 ≤ count_in seats q → list_any (eq q) (flat_map keys seats) ≡ true)
  counted_somewhere q [] = ((λ h. absurd cc), (λ h. absurd (omega arith)))
  counted_somewhere q (s ∷ seats) =
      let later = counted_somewhere q seats in
      let split = list_any-append (eq q) (keys s) (flat_map keys seats) in
      let both = counted_or (has q s) (list_any (eq q) (flat_map keys seats)) (count_in seats q) (count_in (s ∷ seats) q) later.0 later.1 (sum_by-cons (λ t. cond (has q t) 1 0) s seats) in
      ((λ h. both.0 (sym split ∙ h)), (λ h. split ∙ both.1 h))

  count_from_entry : (seats : List S) (q : K) (n : ℕ) → find cmp q (counted_among seats) ≡ Some n → (count_in seats q ≡ n) × (1 ≤ n)
  count_from_entry seats q n e =
      counted_where (list_any (eq_by_cmp cmp q) (flat_map keys seats)) (count_in seats q) n
      (λ h. (counted_somewhere q seats).0 (sym (any_tied q (flat_map keys seats)) ∙ h)) (sym (found seats q) ∙ e)

  entry_from_count : (seats : List S) (q : K) (n : ℕ) → (count_in seats q ≡ n) × (1 ≤ n) → find cmp q (counted_among seats) ≡ Some n
  entry_from_count seats q n h =
      let low : 1 ≤ count_in seats q = omega (arith, h.0, h.1) in
      let shown = any_tied q (flat_map keys seats) ∙ (counted_somewhere q seats).1 low in
      found seats q ∙ ap (λ b. cond b (Some (count_in seats q)) None) shown ∙ ap Some h.0

  -- entries that are these tell the counts
  pub entries_tell : (seats : List S) (es : List (K × ℕ)) → es ≡ counted_among seats → (q : K) (n : ℕ) → (find cmp q es ≡ Some n) ↔ ((count_in seats q ≡ n) × (1 ≤ n))
  entries_tell seats es are q n = ((λ e. count_from_entry seats q n (ap (find cmp q) (sym are) ∙ e)), (λ h. ap (find cmp q) are ∙ entry_from_count seats q n h))

  pub entries_sorted : (seats : List S) (es : List (K × ℕ)) → es ≡ counted_among seats → IsTrue (is_sorted cmp es)
  entries_sorted seats es are = subst (λ l. IsTrue (is_sorted cmp l)) (sym (are ∙ among_tally seats)) (true_of _ (is_sorted-tabulated o (λ k. Some (count_in seats k)) (flat_map keys seats)))
