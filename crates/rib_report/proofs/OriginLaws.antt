-- Pairs of prefixes and origin ASes, by prefix.
use Rattle.std.proofs.Common.{◌≡◌, ◌≢◌, ℕ, zero, suc, ◌+◌, ◌<◌, ◌≤◌, ◌^◌, Bool, true, false, cond, ◌&&◌, ◌||◌, eqb, List, [], ◌∷◌, ◌++◌, refl, sym, ap, ◌∙◌, subst, append-nil, append_assoc, length, get_or, take, drop, take-append-drop, length-drop, length-take-le, map, arith}
use Rattle.std.specs.declared.cmp.Ordering.TheVariants.{Less, Equal, Greater}
use Rattle.std.specs.Ordering.{nat_cmp, is_eq, eq_by_cmp, ordering_then, ordering_reverse}
use Rattle.std.specs.Cmp.{IsTotalOrder, unsigned_ties, both_tied}
use Rattle.std.specs.List.{AllByRecursion, AllWithin, dedup, filter, flat_map, list_any}
use Rattle.std.specs.List.Sorted.{IsSorted, IsStrictlySortedBy, IsPermutation}
use Rattle.std.proofs.lemmas.Bool.{le-leb, lt-leb}
use Rattle.std.proofs.lemmas.Cmp.{on_total, then_total, nat_cmp_total, tied_itself}
use Rattle.std.proofs.lemmas.List.{length-map, map-append, get_or-take, get_or-drop}
use Rattle.std.proofs.lemmas.Grind.{flat_map-append}
use Rattle.std.proofs.lemmas.List.Elements.{filter-append, All-take, All-drop, All-from_recursion, recursion_from_All}
use Rattle.std.proofs.lemmas.Map.Lookups.{exact_pairs, exact_unsigned}
use Rattle.bgp_prefix.specs.Prefixes.{IpPrefix, prefix_cmp, prefix_eq}
use Rattle.bgp_prefix.specs.Ordered.{in_order}
use Rattle.peer_tables.specs.Tables.{Seat, TablesState}
use Rattle.bgp_prefix.proofs.KeyLaws.{prefix_cmp_total, prefix_cmp_exact, prefix_tied}
use Rattle.rib_report.specs.Plain.{OriginRow}
use Rattle.rib_report.specs.Merges.{merged_lists}
use Rattle.rib_report.specs.Reports.{seat_origins, origins_in_order, table_origins, has_several, origins_among, grouped_origins, origin_rows, pair_cmp, pair_eq}
use Rattle.rib_report.proofs.RunLaws.{set_of, set_same, set_run, below_set, map_same, all_mapped, all_from_index, all_weaker, filter_none}
use Rattle.rib_report.proofs.MergeLaws.{joined_in_order}
use Rattle.rib_report.proofs.OrderLaws.{any_in_order, in_order_rises, rising, deduped_in_order}
use Rattle.rib_report.proofs.VisibilityLaws.{own_itself}

-- ---- the order of pairs

pub pair_cmp_total : IsTotalOrder pair_cmp
pair_cmp_total = then_total (on_total (λ (e : IpPrefix × ℕ). e.0) prefix_cmp_total) (on_total (λ (e : IpPrefix × ℕ). e.1) nat_cmp_total)

pub pair_cmp_exact : (a b : IpPrefix × ℕ) → pair_cmp a b ≡ Equal → a ≡ b
pair_cmp_exact a b h = exact_pairs prefix_cmp nat_cmp prefix_cmp_exact exact_unsigned a b h

pub pair_tied : (a b : IpPrefix × ℕ) → pair_eq a b ≡ eq_by_cmp pair_cmp a b
pair_tied a b = both_tied (prefix_eq a.0 b.0) (eqb a.1 b.1) (prefix_cmp a.0 b.0) (nat_cmp a.1 b.1) (sym (prefix_tied a.0 b.0)) (unsigned_ties a.1 b.1)

-- ---- lists with the same pairs

pub any_map : {X Y : Type 0} (f : Y → Bool) (g : X → Y) (xs : List X) → list_any f (map g xs) ≡ list_any (λ x. f (g x)) xs
any_map f g [] = refl
any_map f g (x ∷ xs) = ap (λ b. f (g x) || b) (any_map f g xs)

any_filter : {X : Type 0} (f p : X → Bool) (xs : List X) → list_any f (filter p xs) ≡ list_any (λ x. p x && f x) xs
any_filter f p [] = refl
any_filter f p (x ∷ xs) = elim (p x) as (λ b. list_any f (cond b (x ∷ filter p xs) (filter p xs)) ≡ ((b && f x) || list_any (λ y. p y && f y) xs)) [ true ↦ ap (λ b. f x || b) (any_filter f p xs) | false ↦ any_filter f p xs ]

abbrev own : IpPrefix → IpPrefix × ℕ → Bool
own p e = prefix_eq p e.0

abbrev numbers : List (IpPrefix × ℕ) → List ℕ
numbers pairs = map (λ e. e.1) pairs

abbrev prefixes : List (IpPrefix × ℕ) → List IpPrefix
prefixes pairs = map (λ e. e.0) pairs

abbrev row_of : IpPrefix → List ℕ → OriginRow
row_of p origins = record { prefix = p; origins = origins }

module _ (xs ys : List (IpPrefix × ℕ)) (same : (f : IpPrefix × ℕ → Bool) → list_any f xs ≡ list_any f ys) where
  origins_same : (p : IpPrefix) → origins_among xs p ≡ origins_among ys p
  origins_same p =
      ap (λ es. row_of p (map (λ (e : ℕ × Unit {0}). e.0) es)) (set_same nat_cmp_total exact_unsigned (numbers (filter (own p) xs)) (numbers (filter (own p) ys))
      (λ q. any_map (eq_by_cmp nat_cmp q) (λ (e : IpPrefix × ℕ). e.1) (filter (own p) xs) ∙ any_filter (λ (e : IpPrefix × ℕ). eq_by_cmp nat_cmp q e.1) (own p) xs ∙ same (λ e. own p e && eq_by_cmp nat_cmp q e.1)
      ∙ sym (any_map (eq_by_cmp nat_cmp q) (λ (e : IpPrefix × ℕ). e.1) (filter (own p) ys) ∙ any_filter (λ (e : IpPrefix × ℕ). eq_by_cmp nat_cmp q e.1) (own p) ys)))

  -- what stands in two lists alike is grouped alike
  pub grouped_same : grouped_origins xs ≡ grouped_origins ys
  grouped_same =
      (λ i. map (λ p. origins_same p i) (in_order prefix_cmp (prefixes xs)))
      ∙ ap (λ es. map (origins_among ys) (map (λ (e : IpPrefix × Unit {0}). e.0) es)) (set_same prefix_cmp_total prefix_cmp_exact (prefixes xs) (prefixes ys)
      (λ q. any_map (eq_by_cmp prefix_cmp q) (λ (e : IpPrefix × ℕ). e.0) xs ∙ same (λ e. eq_by_cmp prefix_cmp q e.0) ∙ sym (any_map (eq_by_cmp prefix_cmp q) (λ (e : IpPrefix × ℕ). e.0) ys)))

-- ---- pairs in order

-- in order they are grouped as before
pub grouped_in_order : (xs : List (IpPrefix × ℕ)) → grouped_origins (in_order pair_cmp xs) ≡ grouped_origins xs
grouped_in_order xs = grouped_same (in_order pair_cmp xs) xs (λ f. any_in_order pair_cmp_total pair_cmp_exact f xs)

-- a sorted list without repeats has the pairs of another list in order
pub deduped_pairs : (sorted xs : List (IpPrefix × ℕ)) → IsSorted pair_cmp sorted → IsPermutation xs sorted → dedup pair_eq sorted ≡ in_order pair_cmp xs
deduped_pairs = deduped_in_order pair_cmp_total pair_cmp_exact pair_eq pair_tied

-- ---- a run of one prefix

keep_own : (p : IpPrefix) (xs : List (IpPrefix × ℕ)) → AllByRecursion (λ e. e.0 ≡ p) xs → filter (own p) xs ≡ xs
keep_own p [] h = refl
keep_own p (x ∷ xs) h = ap (λ b. cond b (x ∷ filter (own p) xs) (filter (own p) xs)) (ap (prefix_eq p) h.0 ∙ own_itself p) ∙ ap (λ l. x ∷ l) (keep_own p xs h.1)

module _ (s : IpPrefix × ℕ) (same rest : List (IpPrefix × ℕ)) (run : AllByRecursion (λ e. e.0 ≡ s.0) same) (above : AllByRecursion (λ e. prefix_cmp s.0 e.0 ≡ Less) rest) where
  first_origins : IsStrictlySortedBy nat_cmp (numbers (s ∷ same)) → origins_among (s ∷ (same ++ rest)) s.0 ≡ row_of s.0 (numbers (s ∷ same))
  first_origins up =
      let none = filter_none (own s.0) rest (all_weaker (λ e less. sym (prefix_tied s.0 e.0) ∙ ap is_eq less) rest above) in
      let kept : filter (own s.0) (s ∷ (same ++ rest)) ≡ s ∷ same =
      filter-append (own s.0) (s ∷ same) rest ∙ ap (λ l. filter (own s.0) (s ∷ same) ++ l) none ∙ append-nil (filter (own s.0) (s ∷ same)) ∙ keep_own s.0 (s ∷ same) (refl, run) in
      ap (λ l. row_of s.0 (in_order nat_cmp (numbers l))) kept ∙ ap (row_of s.0) (rising nat_cmp_total exact_unsigned (numbers (s ∷ same)) up)

  later_origins : (q : IpPrefix) → prefix_cmp s.0 q ≡ Less → origins_among (s ∷ (same ++ rest)) q ≡ origins_among rest q
  later_origins q less =
      let apart : prefix_eq q s.0 ≡ false = sym (prefix_tied q s.0) ∙ ap is_eq (prefix_cmp_total.antisymm q s.0 ∙ ap ordering_reverse less) in
      let none : filter (own q) (s ∷ same) ≡ [] = filter_none (own q) (s ∷ same) (apart, all_weaker (λ e is. ap (prefix_eq q) is ∙ apart) same run) in
      ap (λ l. row_of q (in_order nat_cmp (numbers l))) (filter-append (own q) (s ∷ same) rest ∙ ap (λ l. l ++ filter (own q) rest) none)

  -- the row of the run, and then the rows of the rest
  pub grouped_run : IsStrictlySortedBy nat_cmp (numbers (s ∷ same)) → grouped_origins (s ∷ (same ++ rest)) ≡ row_of s.0 (numbers (s ∷ same)) ∷ grouped_origins rest
  grouped_run up =
      let whole = s ∷ (same ++ rest) in
      let firsts : set_of prefix_cmp (prefixes whole) ≡ (s.0, tt) ∷ set_of prefix_cmp (prefixes rest) =
      ap (λ l. set_of prefix_cmp (s.0 ∷ l)) (map-append (λ (e : IpPrefix × ℕ). e.0) same rest)
      ∙ set_run prefix_cmp_total s.0 (prefixes same) (prefixes rest) (all_mapped (λ (e : IpPrefix × ℕ). e.0) (λ e. e.0 ≡ s.0) (λ k. k ≡ s.0) (λ e h. h) same run)
      (all_mapped (λ (e : IpPrefix × ℕ). e.0) (λ e. prefix_cmp s.0 e.0 ≡ Less) (λ k. prefix_cmp s.0 k ≡ Less) (λ e h. h) rest above) in
      ap (λ es. map (origins_among whole) (map (λ (e : IpPrefix × Unit {0}). e.0) es)) firsts
      ∙ ap (λ r. r ∷ map (origins_among whole) (in_order prefix_cmp (prefixes rest))) (first_origins up)
      ∙ ap (λ l. row_of s.0 (numbers (s ∷ same)) ∷ l) (map_same (origins_among whole) (origins_among rest) (in_order prefix_cmp (prefixes rest))
      (all_mapped (λ (e : IpPrefix × Unit {0}). e.0) (λ e. prefix_cmp s.0 e.0 ≡ Less) _ (λ e less. later_origins e.0 less) (set_of prefix_cmp (prefixes rest))
      (below_set prefix_cmp_total s.0 (prefixes rest) (all_mapped (λ (e : IpPrefix × ℕ). e.0) (λ e. prefix_cmp s.0 e.0 ≡ Less) (λ k. prefix_cmp s.0 k ≡ Less) (λ e h. h) rest above))))

-- ---- the first run of a list in order

all_taken : {X : Type 0} (P : X → Type 0) (n : ℕ) (xs : List X) → AllByRecursion P xs → AllByRecursion P (take n xs)
all_taken P n xs h = recursion_from_All P (take n xs) (All-take P n xs (All-from_recursion P xs h))

all_dropped : {X : Type 0} (P : X → Type 0) (n : ℕ) (xs : List X) → AllByRecursion P xs → AllByRecursion P (drop n xs)
all_dropped P n xs h = recursion_from_All P (drop n xs) (All-drop P n xs (All-from_recursion P xs h))

sorted_taken : (n : ℕ) (xs : List (IpPrefix × ℕ)) → IsStrictlySortedBy pair_cmp xs → IsStrictlySortedBy pair_cmp (take n xs)
unfolding IsStrictlySortedBy
sorted_taken zero xs h = tt
sorted_taken (suc n) [] h = tt
sorted_taken (suc n) (x ∷ xs) h = (all_taken (λ y. pair_cmp x y ≡ Less) n xs h.0, sorted_taken n xs h.1)

sorted_dropped : (n : ℕ) (xs : List (IpPrefix × ℕ)) → IsStrictlySortedBy pair_cmp xs → IsStrictlySortedBy pair_cmp (drop n xs)
unfolding IsStrictlySortedBy
sorted_dropped zero xs h = h
sorted_dropped (suc n) [] h = tt
sorted_dropped (suc n) (x ∷ xs) h = sorted_dropped n xs h.1

-- pairs of one prefix ascend by their numbers
numbers_rise : (p : IpPrefix) (xs : List (IpPrefix × ℕ)) → AllByRecursion (λ e. e.0 ≡ p) xs → IsStrictlySortedBy pair_cmp xs → IsStrictlySortedBy nat_cmp (numbers xs)
unfolding IsStrictlySortedBy
numbers_rise p [] h up = tt
numbers_rise p (x ∷ xs) h up = (above xs h.1 up.0, numbers_rise p xs h.1 up.1)
  where
    above : (ys : List (IpPrefix × ℕ)) → AllByRecursion (λ e. e.0 ≡ p) ys → AllByRecursion (λ y. pair_cmp x y ≡ Less) ys → AllByRecursion (λ m. nat_cmp x.1 m ≡ Less) (numbers ys)
    above [] k less = tt
    above (y ∷ ys) k less =
        let tied : prefix_cmp x.0 y.0 ≡ Equal = ap (prefix_cmp x.0) (k.0 ∙ sym h.0) ∙ tied_itself prefix_cmp_total x.0 in
        (ap (λ r. ordering_then r (nat_cmp x.1 y.1)) (sym tied) ∙ less.0, above ys k.1 less.1)

first_less : (a b : IpPrefix × ℕ) → pair_cmp a b ≡ Less → b.0 ≢ a.0 → prefix_cmp a.0 b.0 ≡ Less
first_less a b less apart =
    elim (prefix_cmp a.0 b.0) as (λ r. prefix_cmp a.0 b.0 ≡ r → ordering_then r (nat_cmp a.1 b.1) ≡ Less → r ≡ Less) [
      | Less ↦ λ e h. refl
      | Equal ↦ λ e h. absurd (apart (sym (prefix_cmp_exact a.0 b.0 e)))
      | Greater ↦ λ e h. h
    ] refl less

still_less : (p : IpPrefix) (a b : IpPrefix × ℕ) → prefix_cmp p a.0 ≡ Less → pair_cmp a b ≡ Less → prefix_cmp p b.0 ≡ Less
still_less p a b low less =
    elim (prefix_cmp a.0 b.0) as (λ r. prefix_cmp a.0 b.0 ≡ r → ordering_then r (nat_cmp a.1 b.1) ≡ Less → prefix_cmp p b.0 ≡ Less) [
      | Less ↦ λ e h. prefix_cmp_total.trans p a.0 b.0 low e
      | Equal ↦ λ e h. ap (prefix_cmp p) (sym (prefix_cmp_exact a.0 b.0 e)) ∙ low
      | Greater ↦ λ e h. cc
    ] refl less

rest_above : (x : IpPrefix × ℕ) (rest : List (IpPrefix × ℕ)) → AllByRecursion (λ y. pair_cmp x y ≡ Less) rest → IsStrictlySortedBy pair_cmp rest → (0 < length rest → (get_or rest 0 x).0 ≢ x.0) → AllByRecursion (λ e. prefix_cmp x.0 e.0 ≡ Less) rest
unfolding IsStrictlySortedBy
rest_above x [] less up other = tt
rest_above x (y ∷ rest) less up other =
    let first = first_less x y less.0 (other (omega arith)) in
    (first, all_weaker (λ e after. still_less x.0 y e first after) rest up.0)

-- n pairs of the first prefix, and then one of another prefix or the end
pub first_group : (xs : List (IpPrefix × ℕ)) (p : IpPrefix × ℕ) (n : ℕ) → IsStrictlySortedBy pair_cmp xs → 1 ≤ length xs → p ≡ get_or xs 0 p → n ≤ length xs → AllWithin (λ e. e.0 ≡ p.0) xs 0 n
    → (n < length xs → (d : IpPrefix × ℕ) → (get_or xs n d).0 ≢ p.0)
    → (0 < n) × (grouped_origins xs ≡ row_of p.0 (numbers (take n xs)) ∷ grouped_origins (drop n xs)) × IsStrictlySortedBy pair_cmp (drop n xs)
unfolding IsStrictlySortedBy
first_group [] p n up some is within same other = absurd (omega arith)
first_group (x ∷ xs) p zero up some is within same other = absurd (other (omega arith) p (ap (λ (e : IpPrefix × ℕ). e.0) (sym is)))
first_group (x ∷ xs) p (suc m) up some is within same other =
    let short : m ≤ length xs = omega (arith, within) in
    let own_prefix : p.0 ≡ x.0 = ap (λ (e : IpPrefix × ℕ). e.0) is in
    let run : AllByRecursion (λ e. e.0 ≡ x.0) (take m xs) = all_from_index (λ e. e.0 ≡ x.0) (take m xs) (λ k d h.
    let below : k < m = omega (arith, h, length-take-le m xs short) in
    ap (λ (e : IpPrefix × ℕ). e.0) (get_or-take m xs k d below) ∙ same (suc k) d (omega arith) (omega (arith, below)) ∙ own_prefix) in
    let above = rest_above x (drop m xs) (all_dropped (λ y. pair_cmp x y ≡ Less) m xs up.0) (sorted_dropped m xs up.1)
    (λ h e.
    let inside : suc m < length (x ∷ xs) = omega (arith, h, length-drop m xs) in
    other inside x (ap (λ i. (get_or xs i x).0) {x = m} {y = m + 0} (omega arith) ∙ ap (λ (f : IpPrefix × ℕ). f.0) (sym (get_or-drop m xs 0 x)) ∙ e ∙ sym own_prefix)) in
    let up_run : IsStrictlySortedBy pair_cmp (x ∷ take m xs) = (all_taken (λ y. pair_cmp x y ≡ Less) m xs up.0, sorted_taken m xs up.1) in
    let whole : x ∷ xs ≡ x ∷ (take m xs ++ drop m xs) = ap (λ l. x ∷ l) (sym (take-append-drop m xs)) in (
      omega arith,
      ap grouped_origins whole ∙ grouped_run x (take m xs) (drop m xs) run above (numbers_rise x.0 (x ∷ take m xs) (refl, run) up_run) ∙ ap (λ q. row_of q (numbers (x ∷ take m xs)) ∷ grouped_origins (drop m xs)) (sym own_prefix),
      sorted_dropped m xs up.1,
    )

-- a run is a row of the report where it has at least two pairs
pub several_run : (xs run later : List (IpPrefix × ℕ)) (p : IpPrefix) (rows new : List OriginRow) (all : List OriginRow) → 2 ≤ length run → grouped_origins xs ≡ row_of p (numbers run) ∷ grouped_origins later
    → new ≡ rows ++ row_of p (numbers run) ∷ [] → rows ++ filter has_several (grouped_origins xs) ≡ all → new ++ filter has_several (grouped_origins later) ≡ all
several_run xs run later p rows new all several groups added before =
    let row = row_of p (numbers run) in
    let passes : has_several row ≡ true = le-leb 2 (length (numbers run)) (omega (arith, several, length-map run (λ (e : IpPrefix × ℕ). e.1))) in
    let kept : filter has_several (grouped_origins xs) ≡ row ∷ filter has_several (grouped_origins later) =
    ap (filter has_several) groups ∙ ap (λ b. cond b (row ∷ filter has_several (grouped_origins later)) (filter has_several (grouped_origins later))) passes in
    ap (λ l. l ++ filter has_several (grouped_origins later)) added ∙ append_assoc rows (row ∷ []) (filter has_several (grouped_origins later)) ∙ ap (λ l. rows ++ l) (sym kept) ∙ before

pub single_run : (xs run later : List (IpPrefix × ℕ)) (p : IpPrefix) (rows : List OriginRow) (all : List OriginRow) → length run < 2 → grouped_origins xs ≡ row_of p (numbers run) ∷ grouped_origins later
    → rows ++ filter has_several (grouped_origins xs) ≡ all → rows ++ filter has_several (grouped_origins later) ≡ all
single_run xs run later p rows all single groups before =
    let row = row_of p (numbers run) in
    let fails : has_several row ≡ false = lt-leb 2 (length (numbers run)) (omega (arith, single, length-map run (λ (e : IpPrefix × ℕ). e.1))) in
    let kept : filter has_several (grouped_origins xs) ≡ filter has_several (grouped_origins later) =
    ap (filter has_several) groups ∙ ap (λ b. cond b (row ∷ filter has_several (grouped_origins later)) (filter has_several (grouped_origins later))) fails in
    ap (λ l. rows ++ l) (sym kept) ∙ before

-- the pairs of two groups of peers, joined, are those of both
pub merged_origins : (xs ys : List Seat) → length xs + length ys < 2 ^ 64 → merged_lists pair_cmp (λ x _. x) (origins_in_order xs) (origins_in_order ys) ≡ origins_in_order (xs ++ ys)
merged_origins xs ys few =
    joined_in_order pair_cmp_total pair_cmp_exact (flat_map seat_origins xs) (flat_map seat_origins ys)
    ∙ ap (in_order pair_cmp) (sym (flat_map-append seat_origins xs ys))

-- what lists the pairs of all peers has the order that its runs need, and these are the rows of the report
pub rows_of_pairs : (tables : TablesState) (pairs : List (IpPrefix × ℕ)) (seats : List Seat) → pairs ≡ origins_in_order seats → seats ≡ tables.seats
    → IsStrictlySortedBy pair_cmp pairs × (filter has_several (grouped_origins pairs) ≡ origin_rows tables)
rows_of_pairs tables pairs seats listed all =
    let whole : pairs ≡ in_order pair_cmp (table_origins tables) = listed ∙ ap origins_in_order all in
    (subst (IsStrictlySortedBy pair_cmp) (sym whole) (in_order_rises pair_cmp_total pair_cmp_exact (table_origins tables)), ap (λ l. filter has_several (grouped_origins l)) whole ∙ ap (filter has_several) (grouped_in_order (table_origins tables)))
