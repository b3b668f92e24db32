-- The inverse of the Burrows-Wheeler transform gives the text. Rows that are taken in the order of their last bytes, and
-- each turned back by a byte, are in order again. So they are the same rows, and each leads to the one a byte later.
use Rattle.std.proofs.Common.{◌≡◌, ℕ, zero, suc, ◌+◌, ◌-◌, ◌<◌, ◌≤◌, ◌⊎◌, inl, inr, Bool, true, false, cond, List, [], ◌∷◌, ◌++◌, append-nil, append_assoc, length, length-append, length-drop, length-take, get_or, take, drop, refl, sym, ◌∙◌, ap, arith, Ordering, Less, Equal, Greater, ◌==◌}
use Rattle.std.specs.Prelude.{map, nat_lt}
use Rattle.std.specs.Cmp.{nat_cmp_is}
use Rattle.std.specs.Cmp.Lexicographic.{slice_cmp}
use Rattle.std.specs.List.{All, filter, flat_map, range_with_len, sum_by}
use Rattle.std.specs.List.Sorted.{IsPermutation, IsSorted}
use Rattle.std.specs.Ordering.{is_lt, nat_cmp, ordering_reverse, ordering_then}
use Rattle.std.proofs.Math.Seq.{drop-cons, take-suc}
use Rattle.std.proofs.lemmas.Bool.{cases_lt, cases_order}
use Rattle.std.proofs.lemmas.Bool.Decides.{nat_tests}
use Rattle.std.proofs.lemmas.Cmp.{nat_list_cmp_total}
use Rattle.std.proofs.lemmas.List.{drop_all, get_or-append-add, get_or-map, get_or_default, get_or_past, length-map, length_push, take-take, take_all, take_at}
use Rattle.std.proofs.lemmas.List.Elements.{All-append, All-drop, All-from_get_or, All-map, All-take}
use Rattle.std.proofs.lemmas.List.FromFn.{get_or-map-range_with_len, length-range_with_len, sum_by-map-range_with_len_more}
use Rattle.std.proofs.lemmas.List.Sorted.{All-permutation, Contains-permutation, IsPermutation-cons, IsPermutation-refl, IsPermutation-swap, IsPermutation-trans, length_permutation, ranks_by, sorted_far, sum_by-IsPermutation}
use Rattle.std.proofs.lemmas.List.Sums.{sum_by-append, sum_by-cons, sum_by-le}
use Rattle.std.proofs.lemmas.Map.Lookups.{exact_bytes}
use Rattle.bzip2_reader.specs.Codes.{count_of}
use Rattle.bzip2_reader.specs.Links.{AreSmall}
use Rattle.bzip2_reader.specs.Orders.{count_below, place_of}
use Rattle.bzip2_reader.specs.Rotations.{AreSortedRotations, IsTransform, last_byte, rotation, rotations}
use Rattle.bzip2_reader.specs.Transform.{row_after, text_from}
use Rattle.bzip2_reader.proofs.CodeLaws.{count_more}
use Rattle.bzip2_reader.proofs.OrderLaws.{place_before}
use Rattle.bzip2_reader.proofs.RowLaws.{place_there, row_at, rows_inside}

-- ---- sums

sum_same : {X : Type 0} (f g : X → ℕ) → ((x : X) → f x ≡ g x) → (xs : List X) → sum_by f xs ≡ sum_by g xs
sum_same f g same [] = refl
sum_same f g same (x ∷ xs) = omega (arith, sum_by-cons f x xs, sum_by-cons g x xs, same x, sum_same f g same xs)

sum_both : {X : Type 0} (f g h : X → ℕ) → ((x : X) → h x ≡ f x + g x) → (xs : List X) → sum_by h xs ≡ sum_by f xs + sum_by g xs
sum_both f g h both [] = refl
sum_both f g h both (x ∷ xs) = omega (arith, sum_by-cons f x xs, sum_by-cons g x xs, sum_by-cons h x xs, both x, sum_both f g h both xs)

sum_zero : {X : Type 0} (f : X → ℕ) → ((x : X) → f x ≡ 0) → (xs : List X) → sum_by f xs ≡ 0
sum_zero f none [] = refl
sum_zero f none (x ∷ xs) = omega (arith, sum_by-cons f x xs, none x, sum_zero f none xs)

sum_ones : {X : Type 0} (xs : List X) → sum_by (λ _. 1) xs ≡ length xs
sum_ones [] = refl
sum_ones (x ∷ xs) = omega (arith, sum_by-cons (λ _. 1) x xs, sum_ones xs)

sum_map : {X Y : Type 0} (f : Y → ℕ) (g : X → Y) (xs : List X) → sum_by f (map g xs) ≡ sum_by (λ x. f (g x)) xs
sum_map f g [] = refl
sum_map f g (x ∷ xs) = omega (arith, sum_by-cons f (g x) (map g xs), sum_by-cons (λ y. f (g y)) x xs, sum_map f g xs)

sum_kept : {X : Type 0} (f : X → ℕ) (b : Bool) (x : X) (xs : List X) → sum_by f (cond b (x ∷ xs) xs) ≡ cond b (f x) 0 + sum_by f xs
sum_kept f true x xs = sum_by-cons f x xs
sum_kept f false x xs = omega arith

sum_filter : {X : Type 0} (f : X → ℕ) (p : X → Bool) (xs : List X) → sum_by f (filter p xs) ≡ sum_by (λ x. cond (p x) (f x) 0) xs
sum_filter f p [] = refl
sum_filter f p (x ∷ xs) = omega (arith, sum_kept f (p x) x (filter p xs), sum_by-cons (λ y. cond (p y) (f y) 0) x xs, sum_filter f p xs)

-- a list's sum is that of its elements by their places
by_places : {X : Type 0} (f : X → ℕ) (d : X) (g : ℕ → X) (xs : List X) (a : ℕ) → ((k : ℕ) → k < length xs → g (a + k) ≡ get_or xs k d) →
    sum_by (λ k. f (g k)) (range_with_len a (length xs)) ≡ sum_by f xs
by_places f d g [] a at = refl
by_places f d g (x ∷ xs) a at =
    let here : a + 0 ≡ a = omega arith in
    let first : f (g a) ≡ f x = ap (λ n. f (g n)) (sym here) ∙ ap f (at 0 (omega arith)) in
    let others = by_places f d g xs (a + 1) (λ k h. (let e : a + 1 + k ≡ a + suc k = omega arith in ap g e ∙ at (suc k) (omega (arith, h)))) in
    omega (arith, first, others, sum_by-cons f x xs, sum_by-cons (λ k. f (g k)) a (range_with_len (a + 1) (length xs)))

-- ---- lists in order

abbrev less : List ℕ → List ℕ → Bool
less a b = is_lt (slice_cmp nat_cmp a b)

abbrev InOrder : List (List ℕ) → Type 0
InOrder rows = IsSorted (slice_cmp nat_cmp) rows

-- the same elements, each as often
abbrev Alike : {X : Type 0} → List X → List X → Type 0
Alike {X} xs ys = (f : X → ℕ) → sum_by f xs ≡ sum_by f ys

order_tail : (x : List ℕ) (xs : List (List ℕ)) → InOrder (x ∷ xs) → InOrder xs
order_tail x xs up k d low h =
    let e : suc k + 1 ≡ suc (k + 1) = omega arith in
    ap (λ n. less (get_or (x ∷ xs) n d) (get_or xs k d)) (sym e) ∙ up (suc k) d (omega arith) (omega (arith, h))

abbrev one_below : List ℕ → List ℕ → ℕ
one_below x y = cond (less y x) 1 0

-- none is below the first
none_below_first : (x : List ℕ) (xs : List (List ℕ)) → InOrder (x ∷ xs) → sum_by (one_below x) (x ∷ xs) ≡ 0
none_below_first x xs up =
    let all : All (λ y. one_below x y ≤ 0) (x ∷ xs) =
    λ k d h. (let e : one_below x (get_or (x ∷ xs) k d) ≡ 0 = ap {B = ℕ} (λ b. cond b 1 0) (sorted_far less (ranks_by nat_list_cmp_total (λ y. y)) (x ∷ xs) up 0 k d (omega arith) h) in omega (arith, e)) in
    omega (arith, sum_by-le (one_below x) 0 (x ∷ xs) all)

not_below : (b : Bool) → ◌≡◌ {A = ℕ} (cond b 1 0) 0 → b ≡ false
not_below true h = absurd (omega (arith, h))
not_below false h = refl

first_not_below : (x : List ℕ) (xs : List (List ℕ)) (y : List ℕ) (ys : List (List ℕ)) → InOrder (x ∷ xs) → Alike (x ∷ xs) (y ∷ ys) → less y x ≡ false
first_not_below x xs y ys up alike =
    not_below (less y x) (omega (arith, none_below_first x xs up, alike (one_below x), sum_by-cons (one_below x) y ys))

tied : (a b : List ℕ) (o : Ordering) → slice_cmp nat_cmp a b ≡ o → less a b ≡ false → less b a ≡ false → a ≡ b
tied a b Less e h g = absurd (cc)
tied a b Equal e h g = exact_bytes a b e
tied a b Greater e h g = absurd (cc (ap ordering_reverse e, nat_list_cmp_total.antisymm b a))

-- lists in order are the same if their elements are
same_in_order : (xs ys : List (List ℕ)) → InOrder xs → InOrder ys → Alike xs ys → xs ≡ ys
same_in_order [] [] up rise alike = refl
same_in_order [] (y ∷ ys) up rise alike = absurd (omega (arith, alike (λ _. 1), sum_ones (y ∷ ys)))
same_in_order (x ∷ xs) [] up rise alike = absurd (omega (arith, alike (λ _. 1), sum_ones (x ∷ xs)))
same_in_order (x ∷ xs) (y ∷ ys) up rise alike =
    let first : x ≡ y = tied x y (slice_cmp nat_cmp x y) refl (first_not_below y ys x xs rise (λ f. sym (alike f))) (first_not_below x xs y ys up alike) in
    let others : Alike xs ys = λ f. omega (arith, alike f, sum_by-cons f x xs, sum_by-cons f y ys, ap f first) in
    ap (λ r. r ∷ xs) first ∙ ap (λ l. y ∷ l) (same_in_order xs ys (order_tail x xs up) (order_tail y ys rise) others)

-- ---- the rows that begin a byte later

abbrev of_values : ℕ → ℕ → ℕ → ℕ → ℕ
of_values a m v n = cond (nat_lt v a) 0 (cond (nat_lt v (a + m)) n 0)

values_none : (a v n : ℕ) → of_values a 0 v n ≡ 0
values_none a v n = grind (arith, nat_tests)

values_more : (a m v n : ℕ) → of_values a (suc m) v n ≡ cond (v == a) n 0 + of_values (a + 1) m v n
values_more a m v n = grind (arith, nat_tests)

values_all : (v n : ℕ) → v < 256 → of_values 0 256 v n ≡ n
values_all v n h = grind (arith, nat_tests)

sum_values : (f key : ℕ → ℕ) (xs : List ℕ) (a m : ℕ) →
    sum_by f (flat_map (λ v. filter (λ p. key p == v) xs) (range_with_len a m)) ≡ sum_by (λ p. of_values a m (key p) (f p)) xs
sum_values f key xs a zero = sym (sum_zero (λ p. of_values a 0 (key p) (f p)) (λ p. values_none a (key p) (f p)) xs)
sum_values f key xs a (suc m) =
    let here = filter (λ p. key p == a) xs in
    let others = flat_map (λ v. filter (λ p. key p == v) xs) (range_with_len (a + 1) m) in
    let both = sum_both (λ p. cond (key p == a) (f p) 0) (λ p. of_values (a + 1) m (key p) (f p)) (λ p. of_values a (suc m) (key p) (f p)) (λ p. values_more a m (key p) (f p)) xs in
    omega (arith, sum_by-append f here others, sum_filter f (λ p. key p == a) xs, sum_values f key xs (a + 1) m, both)

small_anywhere : (column : List ℕ) → AreSmall column → (k : ℕ) → get_or column k 0 < 256
small_anywhere column small k = go (cases_lt k (length column))
  where
    go : (k < length column) ⊎ (length column ≤ k) → get_or column k 0 < 256
    go (inl h) = small k h
    go (inr h) = omega (arith, get_or_past column k 0 h)

-- they are all rows
all_after : (column : List ℕ) → AreSmall column → Alike (row_after column) (range_with_len 0 (length column))
unfolding row_after
all_after column small f =
    let range = range_with_len 0 (length column) in
    sum_values f (λ p. get_or column p 0) range 0 256
    ∙ sum_same (λ p. of_values 0 256 (get_or column p 0) (f p)) f (λ p. values_all (get_or column p 0) (f p) (small_anywhere column small p)) range

length_after : (column : List ℕ) → AreSmall column → length (row_after column) ≡ length column
length_after column small =
    omega (arith, all_after column small (λ _. 1), sum_ones (row_after column), sum_ones (range_with_len 0 (length column)), length-range_with_len 0 (length column))

-- in the order of their bytes, and equal ones in the order of their places
abbrev Before : List ℕ → ℕ → ℕ → Type 0
Before column i j = (get_or column i 0 < get_or column j 0) ⊎ ((get_or column i 0 ≡ get_or column j 0) × (i < j))

before : (column : List ℕ) (i j : ℕ) → j < length column → place_of column i < place_of column j → Before column i j
before column i j h up = go (cases_order (get_or column i 0) (get_or column j 0))
  where
    later : get_or column i 0 ≡ get_or column j 0 → (i < j) ⊎ (j ≤ i) → Before column i j
    later e (inl l) = inr (e, l)
    later e (inr l) = absurd (omega (arith, up, ap (count_below column) e, ap (count_of (take i column)) e, count_more column j i (get_or column j 0) l))

    go : (get_or column i 0 ≡ get_or column j 0) ⊎ ((get_or column i 0 < get_or column j 0) ⊎ (get_or column j 0 < get_or column i 0)) → Before column i j
    go (inl e) = later e (cases_lt i j)
    go (inr (inl l)) = inl l
    go (inr (inr l)) = absurd (omega (arith, up, place_before column j (get_or column i 0) h l))

after_in_order : (column : List ℕ) (k : ℕ) → AreSmall column → k + 1 < length column → Before column (get_or (row_after column) k 0) (get_or (row_after column) (k + 1) 0)
after_in_order column k small h =
    let one = place_there column k small (omega (arith, h)) in
    let two = place_there column (k + 1) small h in
    let first : get_or (row_after column) k 0 ≡ one.0 = ap (λ n. get_or (row_after column) n 0) (sym one.2) ∙ row_at column one.0 small one.1 in
    let second : get_or (row_after column) (k + 1) 0 ≡ two.0 = ap (λ n. get_or (row_after column) n 0) (sym two.2) ∙ row_at column two.0 small two.1 in
    rw (first, second) (before column one.0 two.0 two.1 (omega (arith, one.2, two.2)))

-- ---- rows that are turned back

-- the row that begins a byte before
abbrev back : List ℕ → List ℕ
back row = last_byte row ∷ take (length row - 1) row

back_push : (w : List ℕ) (c : ℕ) → back (w ++ (c ∷ [])) ≡ c ∷ w
back_push w c =
    let size : length (w ++ (c ∷ [])) - 1 ≡ length w = omega (arith, length_push w c) in
    let e : length w + 0 ≡ length w = omega arith in
    let last : get_or (w ++ (c ∷ [])) (length w) 0 ≡ c = ap (λ n. get_or (w ++ (c ∷ [])) n 0) (sym e) ∙ get_or-append-add w (c ∷ []) 0 0 in
    ap (λ n. get_or (w ++ (c ∷ [])) n 0 ∷ take n (w ++ (c ∷ []))) size ∙ ap (λ b. b ∷ take (length w) (w ++ (c ∷ []))) last ∙ ap (λ l. c ∷ l) (take_at w (c ∷ []) (length w) refl)

-- a rotation, turned back, is the one from a byte before
back_rotation : (text : List ℕ) (k : ℕ) → k < length text → back (rotation text (suc k)) ≡ rotation text k
back_rotation text k h =
    let c = get_or text k 0 in
    ap (λ l. back (drop (suc k) text ++ l)) (take-suc text k 0 h)
    ∙ ap back (sym (append_assoc (drop (suc k) text) (take k text) (c ∷ [])))
    ∙ back_push (drop (suc k) text ++ take k text) c
    ∙ ap (λ l. l ++ take k text) (sym (drop-cons text k 0 h))

whole_rotation : (text : List ℕ) → rotation text (length text) ≡ rotation text 0
whole_rotation text =
    ap (λ l. l ++ take (length text) text) (drop_all (length text) text (omega arith)) ∙ take_all (length text) text (omega arith) ∙ sym (append-nil text)

sum_turned : (f : List ℕ → ℕ) (text : List ℕ) (m : ℕ) → m < length text →
    sum_by f (map (λ k. back (rotation text k)) (range_with_len 0 (m + 1))) ≡ f (back (rotation text 0)) + sum_by f (map (rotation text) (range_with_len 0 m))
sum_turned f text zero h = omega arith
sum_turned f text (suc m) h =
    let e : suc m ≡ m + 1 = omega arith in
    let next : f (back (rotation text (suc m))) ≡ f (rotation text m) = ap f (back_rotation text m (omega (arith, h))) in
    omega (
      arith,
      sum_by-map-range_with_len_more f (λ k. back (rotation text k)) 0 (suc m) (suc m) (omega arith),
      ap (λ n. sum_by f (map (λ k. back (rotation text k)) (range_with_len 0 n))) e,
      sum_turned f text m (omega (arith, h)),
      next,
      sum_by-map-range_with_len_more f (rotation text) 0 m m (omega arith),
      ap (λ n. sum_by f (map (rotation text) (range_with_len 0 n))) e,
    )

-- the rotations, turned back, are the rotations
turned_alike : (text : List ℕ) (n : ℕ) → length text ≡ n → (f : List ℕ → ℕ) →
    sum_by f (map (λ k. back (rotation text k)) (range_with_len 0 n)) ≡ sum_by f (map (rotation text) (range_with_len 0 n))
turned_alike text zero e f = refl
turned_alike text (suc m) e f =
    let next : suc m ≡ m + 1 = omega arith in
    let first : f (back (rotation text 0)) ≡ f (rotation text m) =
    ap (λ r. f (back r)) (sym (whole_rotation text)) ∙ ap (λ n. f (back (rotation text n))) e ∙ ap f (back_rotation text m (omega (arith, e))) in
    omega (
      arith,
      sum_turned f text m (omega (arith, e)),
      ap (λ n. sum_by f (map (λ k. back (rotation text k)) (range_with_len 0 n))) next,
      first,
      sum_by-map-range_with_len_more f (rotation text) 0 m m (omega arith),
      ap (λ n. sum_by f (map (rotation text) (range_with_len 0 n))) next,
    )

-- ---- the rows of a text

length_rotation : (text : List ℕ) (k : ℕ) → length (rotation text k) ≡ length text
length_rotation text k = omega (arith, length-append (drop k text) (take k text), length-drop k text, length-take k text)

small_rotation : (text : List ℕ) (k : ℕ) → AreSmall text → All (λ b. b < 256) (rotation text k)
small_rotation text k small =
    let all = All-from_get_or (λ b. b < 256) text 0 small in
    All-append (λ b. b < 256) (drop k text) (take k text) (All-drop (λ b. b < 256) k text all) (All-take (λ b. b < 256) k text all)

then_kept : (o p q : Ordering) → (is_lt p ≡ false → is_lt q ≡ false) → is_lt (ordering_then o p) ≡ false → is_lt (ordering_then o q) ≡ false
then_kept Less p q f h = h
then_kept Equal p q f h = f h
then_kept Greater p q f h = refl

-- rows in order are so by their first bytes
fronts_in_order : (m : ℕ) (u v : List ℕ) → less u v ≡ false → less (take m u) (take m v) ≡ false
fronts_in_order zero u v h = refl
fronts_in_order (suc m) [] [] h = refl
fronts_in_order (suc m) [] (y ∷ v) h = h
fronts_in_order (suc m) (x ∷ u) [] h = refl
fronts_in_order (suc m) (x ∷ u) (y ∷ v) h = then_kept (nat_cmp x y) (slice_cmp nat_cmp u v) (slice_cmp nat_cmp (take m u) (take m v)) (fronts_in_order m u v) h

-- rows in the order of their last bytes, and equal ones in their own order, are in order when they are turned back
back_in_order : (u v : List ℕ) → length u ≡ length v → (last_byte u < last_byte v) ⊎ ((last_byte u ≡ last_byte v) × (less v u ≡ false)) → less (back v) (back u) ≡ false
back_in_order u v e (inl l) =
    ap (λ o. is_lt (ordering_then o (slice_cmp nat_cmp (take (length v - 1) v) (take (length u - 1) u)))) (sym (nat_cmp_is (last_byte v) (last_byte u) Greater l))
back_in_order u v e (inr p) =
    ap (λ o. is_lt (ordering_then o (slice_cmp nat_cmp (take (length v - 1) v) (take (length u - 1) u)))) (sym (nat_cmp_is (last_byte v) (last_byte u) Equal (sym p.0)))
    ∙ ap (λ n. less (take (length v - 1) v) (take (n - 1) u)) e
    ∙ fronts_in_order (length v - 1) v u p.1

-- the rows in the order of their last bytes, each turned back
abbrev turned : List (List ℕ) → List (List ℕ)
turned rows = map (λ i. back (get_or rows i [])) (row_after (map last_byte rows))

module _ (text : List ℕ) (rows : List (List ℕ)) (small : AreSmall text) (are : AreSortedRotations text rows) where
  as_many : length rows ≡ length text
  as_many = length_permutation (rotations text) rows are.rotated ∙ length-map (range_with_len 0 (length text)) (rotation text) ∙ length-range_with_len 0 (length text)

  each_size : (k : ℕ) → k < length rows → length (get_or rows k []) ≡ length text
  each_size k h =
      let range = range_with_len 0 (length text) in
      let all = All-map (λ r. length r ≡ length text) (rotation text) range (λ i d _. length_rotation text (get_or range i d)) in
      All-permutation (λ r. length r ≡ length text) (rotations text) rows are.rotated all k [] h

  each_small : (k : ℕ) → k < length rows → All (λ b. b < 256) (get_or rows k [])
  each_small k h =
      let range = range_with_len 0 (length text) in
      let all = All-map (All (λ b. b < 256)) (rotation text) range (λ i d _. small_rotation text (get_or range i d) small) in
      All-permutation (All (λ b. b < 256)) (rotations text) rows are.rotated all k [] h

  column_at : (k : ℕ) → k < length rows → get_or (map last_byte rows) k 0 ≡ last_byte (get_or rows k [])
  column_at k h = get_or-map last_byte rows k [] 0 h

  small_column : AreSmall (map last_byte rows)
  small_column k h =
      let inside : k < length rows = omega (arith, h, length-map rows last_byte) in
      let row = get_or rows k [] in
      omega (arith, column_at k inside, small_anywhere row (λ i l. each_small k inside i 0 l) (length row - 1))

  long_after : length (row_after (map last_byte rows)) ≡ length rows
  long_after = length_after (map last_byte rows) small_column ∙ length-map rows last_byte

  after_inside : (k : ℕ) → k < length rows → get_or (row_after (map last_byte rows)) k 0 < length rows
  after_inside k h = omega (arith, rows_inside (map last_byte rows) k small_column (omega (arith, h, length-map rows last_byte)), length-map rows last_byte)

  in_their_order : (i j : ℕ) → i < length rows → j < length rows → Before (map last_byte rows) i j → less (back (get_or rows j [])) (back (get_or rows i [])) ≡ false
  in_their_order i j h g (inl l) =
      back_in_order (get_or rows i []) (get_or rows j []) (each_size i h ∙ sym (each_size j g)) (inl (omega (arith, l, column_at i h, column_at j g)))
  in_their_order i j h g (inr p) =
      back_in_order (get_or rows i []) (get_or rows j []) (each_size i h ∙ sym (each_size j g))
      (inr (sym (column_at i h) ∙ p.0 ∙ column_at j g, sorted_far less (ranks_by nat_list_cmp_total (λ y. y)) rows are.sorted i j [] (omega (arith, p.1)) g))

  turned_in_order : InOrder (turned rows)
  turned_in_order k d low h =
      let after = row_after (map last_byte rows) in
      let inside : k + 1 < length rows = omega (arith, h, length-map after (λ i. back (get_or rows i [])), long_after) in
      let here = get_or-map (λ i. back (get_or rows i [])) after k 0 d (omega (arith, inside, long_after)) in
      let next = get_or-map (λ i. back (get_or rows i [])) after (k + 1) 0 d (omega (arith, inside, long_after)) in
      let order = after_in_order (map last_byte rows) k small_column (omega (arith, inside, length-map rows last_byte)) in
      ap (λ r. less r (get_or (turned rows) k d)) next
      ∙ ap (less (back (get_or rows (get_or after (k + 1) 0) []))) here
      ∙ in_their_order (get_or after k 0) (get_or after (k + 1) 0) (after_inside k (omega (arith, inside))) (after_inside (k + 1) inside) order

  turned_are_rows : Alike (turned rows) rows
  turned_are_rows f =
      let column = map last_byte rows in
      let range = range_with_len 0 (length text) in
      sum_map f (λ i. back (get_or rows i [])) (row_after column)
      ∙ all_after column small_column (λ i. f (back (get_or rows i [])))
      ∙ ap (λ n. sum_by (λ i. f (back (get_or rows i []))) (range_with_len 0 n)) (length-map rows last_byte)
      ∙ by_places (λ r. f (back r)) [] (λ i. get_or rows i []) rows 0 (λ k h. (let e : 0 + k ≡ k = omega arith in ap (λ n. get_or rows n []) e))
      ∙ sum_by-IsPermutation (λ r. f (back r)) (rotations text) rows are.rotated
      ∙ sum_map (λ r. f (back r)) (rotation text) range
      ∙ sym (sum_map f (λ k. back (rotation text k)) range)
      ∙ turned_alike text (length text) refl f
      ∙ sym (sum_by-IsPermutation f (rotations text) rows are.rotated)

  -- a row is the one after it, turned back
  row_before : (k : ℕ) → k < length rows → get_or rows k [] ≡ back (get_or rows (get_or (row_after (map last_byte rows)) k 0) [])
  row_before k h =
      let after = row_after (map last_byte rows) in
      let same = same_in_order rows (turned rows) are.sorted turned_in_order (λ f. sym (turned_are_rows f)) in
      ap (λ l. get_or l k []) same ∙ get_or-map (λ i. back (get_or rows i [])) after k 0 [] (omega (arith, h, long_after))

  -- from a row on its bytes are read, from the left
  reads : (m k : ℕ) → m ≤ length text → k < length rows → text_from (map last_byte rows) (row_after (map last_byte rows)) k m ≡ take m (get_or rows k [])
  unfolding text_from
  reads zero k most h = refl
  reads (suc m) k most h =
      let column = map last_byte rows in
      let j = get_or (row_after column) k 0 in
      let inside = after_inside k h in
      let row = get_or rows j [] in
      let some : m ≤ length row - 1 = omega (arith, most, each_size j inside) in
      ap (λ b. b ∷ text_from column (row_after column) j m) (column_at j inside)
      ∙ ap (λ l. last_byte row ∷ l) (reads m j (omega (arith, most)) inside ∙ sym (take-take m (length row - 1) row some))
      ∙ ap (take (suc m)) (sym (row_before k h))

  -- each row is read from its place on
  pub row_read : (k : ℕ) → k < length rows → text_from (map last_byte rows) (row_after (map last_byte rows)) k (length rows) ≡ get_or rows k []
  row_read k h = reads (length rows) k (omega (arith, as_many)) h ∙ take_all (length rows) (get_or rows k []) (omega (arith, as_many, each_size k h))

-- ---- each text has a transform

-- a row put before the first that isn't below it
abbrev put : List ℕ → List (List ℕ) → List (List ℕ)
put x [] = x ∷ []
put x (y ∷ ys) = cond (less y x) (y ∷ put x ys) (x ∷ y ∷ ys)

abbrev pub in_order : List (List ℕ) → List (List ℕ)
in_order [] = []
in_order (x ∷ xs) = put x (in_order xs)

put_all : (x : List ℕ) (ys : List (List ℕ)) → IsPermutation (x ∷ ys) (put x ys)
put_all x [] = IsPermutation-refl (x ∷ [])
put_all x (y ∷ ys) = go (less y x) (put_all x ys)
  where
    go : (b : Bool) → IsPermutation (x ∷ ys) (put x ys) → IsPermutation (x ∷ y ∷ ys) (cond b (y ∷ put x ys) (x ∷ y ∷ ys))
    go true others =
        IsPermutation-trans (x ∷ y ∷ ys) (y ∷ x ∷ ys) (y ∷ put x ys)
        (IsPermutation-swap (x ∷ y ∷ ys) (y ∷ x ∷ ys) 0 1 (omega arith) (omega arith) refl)
        (IsPermutation-cons y (x ∷ ys) (put x ys) others)
    go false others = IsPermutation-refl (x ∷ y ∷ ys)

order_all : (xs : List (List ℕ)) → IsPermutation xs (in_order xs)
order_all [] = IsPermutation-refl []
order_all (x ∷ xs) =
    IsPermutation-trans (x ∷ xs) (x ∷ in_order xs) (put x (in_order xs)) (IsPermutation-cons x xs (in_order xs) (order_all xs)) (put_all x (in_order xs))

-- the first row isn't below this one
abbrev IsFloor : List ℕ → List (List ℕ) → Type 0
IsFloor z xs = (d : List ℕ) → 0 < length xs → less (get_or xs 0 d) z ≡ false

order_cons : (z : List ℕ) (xs : List (List ℕ)) → IsFloor z xs → InOrder xs → InOrder (z ∷ xs)
order_cons z xs floor up zero d low h = floor d (omega (arith, h))
order_cons z xs floor up (suc k) d low h =
    let e : suc k + 1 ≡ suc (k + 1) = omega arith in
    ap (λ n. less (get_or (z ∷ xs) n d) (get_or xs k d)) e ∙ up k d (omega arith) (omega (arith, h))

put_floor : (z x : List ℕ) (ys : List (List ℕ)) → less x z ≡ false → IsFloor z ys → IsFloor z (put x ys)
put_floor z x [] above floor d h = above
put_floor z x (y ∷ ys) above floor d h = go (less y x)
  where
    go : (b : Bool) → less (get_or (cond b (y ∷ put x ys) (x ∷ y ∷ ys)) 0 d) z ≡ false
    go true = floor d (omega arith)
    go false = above

reversed : (o : Ordering) → is_lt o ≡ true → is_lt (ordering_reverse o) ≡ false
reversed Less h = refl
reversed Equal h = refl
reversed Greater h = sym h

put_in_order : (x : List ℕ) (ys : List (List ℕ)) → InOrder ys → InOrder (put x ys)
put_in_order x [] up = λ k d low h. absurd (omega (arith, h))
put_in_order x (y ∷ ys) up = go (less y x) refl (put_in_order x ys (order_tail y ys up))
  where
    floor : IsFloor y ys
    floor d h = up 0 d (omega arith) (omega (arith, h))

    go : (b : Bool) → less y x ≡ b → InOrder (put x ys) → InOrder (cond b (y ∷ put x ys) (x ∷ y ∷ ys))
    go true e others =
        order_cons y (put x ys) (put_floor y x ys (ap is_lt (nat_list_cmp_total.antisymm x y) ∙ reversed (slice_cmp nat_cmp y x) e) floor) others
    go false e others = order_cons x (y ∷ ys) (λ d h. e) up

order_in_order : (xs : List (List ℕ)) → InOrder (in_order xs)
order_in_order [] = λ k d low h. absurd (omega (arith, h))
order_in_order (x ∷ xs) = put_in_order x (in_order xs) (order_in_order xs)

pub in_order_are : (text : List ℕ) → AreSortedRotations text (in_order (rotations text))
in_order_are text = record { rotated = order_all (rotations text); sorted = order_in_order (rotations text) }

pub transform_of : (text : List ℕ) → 0 < length text → (column : List ℕ) × (row : ℕ) × IsTransform text column row
transform_of text h =
    let rows = in_order (rotations text) in
    let many : length (rotations text) ≡ length text = length-map (range_with_len 0 (length text)) (rotation text) ∙ length-range_with_len 0 (length text) in
    let itself : get_or (rotations text) 0 text ≡ text = get_or-map-range_with_len (rotation text) 0 (length text) 0 0 text h (omega arith) ∙ append-nil text in
    let found = Contains-permutation (rotations text) rows text (order_all (rotations text)) (0, omega (arith, h, many), itself) in (
      map last_byte rows,
      found.0,
      record {
        rows = rows;
        sorted = in_order_are text;
        last = refl;
        inside = found.1;
        itself = get_or_default rows found.0 [] text found.1 ∙ found.2;
      },
    )

-- a text has one column
pub one_column : (text column other : List ℕ) (row place : ℕ) → IsTransform text column row → IsTransform text other place → column ≡ other
one_column text column other row place t u =
    let same = same_in_order t.rows u.rows t.sorted.sorted u.sorted.sorted
    (λ f. sum_by-IsPermutation f (rotations text) t.rows t.sorted.rotated ∙ sym (sum_by-IsPermutation f (rotations text) u.rows u.sorted.rotated)) in
    t.last ∙ ap (map last_byte) same ∙ sym u.last
