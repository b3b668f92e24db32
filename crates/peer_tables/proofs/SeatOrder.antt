-- What stands in the order of different numbers is one list.
use Rattle.std.proofs.Common.{◌≡◌, inl, inr, ℕ, zero, suc, ◌<◌, Bool, true, false, cond, eqb, ltb, List, [], ◌∷◌, refl, sym, ap, ◌∙◌, subst, get_or, length, map, arith}
use Rattle.std.specs.declared.cmp.Ordering.TheVariants.{Less, Equal, Greater}
use Rattle.std.specs.Ordering.{nat_cmp}
use Rattle.std.specs.List.{AllByRecursion, Contains}
use Rattle.std.specs.List.Sorted.{IsPermutation, IsStrictlyIncreasing, IsStrictlySortedBy}
use Rattle.std.proofs.lemmas.Bool.{ltb-true}
use Rattle.std.proofs.lemmas.List.Sorted.{Contains-permutation, IsPermutation-sym, IsPermutation-trans}
use Rattle.std.proofs.lemmas.Map.Keys.{sorted_from_strictly_increasing}
use Rattle.peer_units.specs.declared.unit.Damage.{Damage}
use Rattle.adj_rib.proofs.SourceLaws.{item_cases, later_item}
use Rattle.peer_tables.specs.Tables.{Seat, TablesState, IsCollected}

-- what holds of all holds of each
pub all_at : {X : Type 0} (P : X → Type 0) (xs : List X) (i : ℕ) (d : X) → i < length xs → AllByRecursion P xs → P (get_or xs i d)
all_at P [] i d h all = absurd (omega (arith, h))
all_at P (x ∷ xs) zero d h all = all.0
all_at P (x ∷ xs) (suc i) d h all = all_at P xs i d (omega (arith, h)) all.1

not_less : (b : Bool) → cond b Equal Greater ≡ Less → ⊥
not_less true h = cc
not_less false h = cc

less_of : (a b : ℕ) → nat_cmp a b ≡ Less → a < b
less_of a b h = elim (ltb a b) as (λ v. ltb a b ≡ v → cond v Less (cond (eqb a b) Equal Greater) ≡ Less → a < b) [ true ↦ λ e _. ltb-true a b e | false ↦ λ e k. absurd (not_less (eqb a b) k) ] refl h

module _ {S : Type 0} (key : S → ℕ) where
  abbrev Above : ℕ → List S → Type 0
  Above n xs = AllByRecursion (λ s. n < key s) xs

  abbrev pub Rises : List S → Type 0
  Rises [] = Unit {0}
  Rises (x ∷ xs) = Above (key x) xs × Rises xs

  above_from : (n : ℕ) (xs : List S) → AllByRecursion (λ m. nat_cmp n m ≡ Less) (map key xs) → Above n xs
  above_from n [] h = tt
  above_from n (x ∷ xs) h = (less_of n (key x) h.0, above_from n xs h.1)

  pub rises_from : (xs : List S) → IsStrictlySortedBy nat_cmp (map key xs) → Rises xs
  unfolding IsStrictlySortedBy
  rises_from [] h = tt
  rises_from (x ∷ xs) h = (above_from (key x) xs h.0, rises_from xs h.1)

  below : (n : ℕ) (xs : List S) (z : S) → Above n xs → Contains xs z → n < key z
  below n xs z h m = subst (λ s. n < key s) m.2 (all_at (λ s. n < key s) xs m.0 z m.1 h)

  one_first : (x y : S) (xs ys : List S) → Above (key x) xs → Above (key y) ys → Contains (y ∷ ys) x → Contains (x ∷ xs) y → x ≡ y
  one_first x y xs ys hx hy a b = elim (item_cases y ys x a) [
    | inl e ↦ sym e
    | inr m ↦ elim (item_cases x xs y b) [
      | inl e ↦ e
      | inr n ↦ absurd (omega (arith, below (key y) ys x hy m, below (key x) xs y hx n))
    ]
  ]

  in_tail : (x y : S) (xs ys : List S) → x ≡ y → Above (key x) xs → ((z : S) → Contains (x ∷ xs) z → Contains (y ∷ ys) z) → (z : S) → Contains xs z → Contains ys z
  in_tail x y xs ys is h has z m = elim (item_cases y ys z (has z (later_item x xs z m))) [
    | inl e ↦ absurd (omega (arith, below (key x) xs z h m, ap key (is ∙ e)))
    | inr n ↦ n
  ]

  pub one_rising : (xs ys : List S) → Rises xs → Rises ys → ((z : S) → Contains xs z → Contains ys z) → ((z : S) → Contains ys z → Contains xs z) → xs ≡ ys
  one_rising [] [] a b f g = refl
  one_rising [] (y ∷ ys) a b f g = absurd (omega (arith, (g y (0, omega arith, refl)).1))
  one_rising (x ∷ xs) [] a b f g = absurd (omega (arith, (f x (0, omega arith, refl)).1))
  one_rising (x ∷ xs) (y ∷ ys) a b f g =
      let is = one_first x y xs ys a.0 b.0 (f x (0, omega arith, refl)) (g y (0, omega arith, refl)) in
      ap (λ s. s ∷ xs) is ∙ ap (λ l. y ∷ l) (one_rising xs ys a.1 b.1 (in_tail x y xs ys is a.0 f) (in_tail y x ys xs (sym is) b.0 g))

-- what is collected from seats is one list
pub collected_only : (gathered seats : List Seat) (refused : List Damage) (tables : TablesState) → IsCollected gathered refused tables → IsPermutation gathered seats → IsStrictlyIncreasing (map (λ s. s.number) seats)
    → tables ≡ record { seats = seats; refused = refused }
collected_only gathered seats refused tables collected same up =
    let number : Seat → ℕ = λ s. s.number in
    let moved = IsPermutation-trans tables.seats gathered seats (IsPermutation-sym gathered tables.seats collected.same) same in
    let seats_are : tables.seats ≡ seats = one_rising number tables.seats seats
    (rises_from number tables.seats (sorted_from_strictly_increasing (map number tables.seats) collected.ascending))
    (rises_from number seats (sorted_from_strictly_increasing (map number seats) up))
    (λ z. Contains-permutation tables.seats seats z moved) (λ z. Contains-permutation seats tables.seats z (IsPermutation-sym tables.seats seats moved)) in
    let kept = collected.refused_kept in
    λ i. record { seats = seats_are i; refused = kept i }
