-- The items of a list by their classes.
use Rattle.std.proofs.Common.{◌≡◌, ℕ, zero, suc, ◌+◌, ◌<◌, ◌≤◌, Bool, true, false, cond, eqb, List, [], ◌∷◌, ◌++◌, refl, sym, ap, ◌∙◌, subst, arith}
use Rattle.std.specs.List.{filter, flat_map, range_with_len, AllByRecursion}
use Rattle.std.specs.List.Sorted.{IsPermutation}
use Rattle.std.proofs.lemmas.Bool.{eqb-true, eq-eqb, ne_eqb}
use Rattle.std.proofs.lemmas.List.Sorted.{IsPermutation-refl, IsPermutation-trans, IsPermutation-sym, IsPermutation-cons, IsPermutation-middle, IsPermutation-append_right}

module _ {X : Type 0} (class : X → ℕ) where
  -- the items of a class, in order
  abbrev pub of_class : List X → ℕ → List X
  of_class xs c = filter (λ x. eqb (class x) c) xs

  -- the items of so many classes, one class after the other
  abbrev pub by_class : List X → ℕ → ℕ → List X
  by_class xs first count = flat_map (of_class xs) (range_with_len first count)

  one_class : (x : X) (xs : List X) (c : ℕ) (b : Bool) → eqb (class x) c ≡ b → of_class (x ∷ xs) c ≡ cond b (x ∷ of_class xs c) (of_class xs c)
  one_class x xs c b e = ap (λ v. cond v (x ∷ of_class xs c) (of_class xs c)) e

  -- an item of an earlier class is in none of these
  of_earlier : (x : X) (xs : List X) (first count : ℕ) → class x < first → by_class (x ∷ xs) first count ≡ by_class xs first count
  of_earlier x xs first zero h = refl
  of_earlier x xs first (suc count) h =
      ap (λ l. l ++ by_class (x ∷ xs) (first + 1) count) (one_class x xs first false (ne_eqb (class x) first (λ e. omega (arith, h, e))))
      ∙ ap (λ l. of_class xs first ++ l) (of_earlier x xs (first + 1) count (omega (arith, h)))

  in_own : (x : X) (xs : List X) (first count : ℕ) → class x ≡ first → by_class (x ∷ xs) first (suc count) ≡ x ∷ by_class xs first (suc count)
  in_own x xs first count e =
      ap (λ l. l ++ by_class (x ∷ xs) (first + 1) count) (one_class x xs first true (eq-eqb (class x) first e))
      ∙ ap (λ l. x ∷ (of_class xs first ++ l)) (of_earlier x xs (first + 1) count (omega (arith, e)))

  -- one more item
  with_item : (x : X) (xs : List X) (first count : ℕ) → first ≤ class x → class x < first + count → IsPermutation (x ∷ by_class xs first count) (by_class (x ∷ xs) first count)
  with_item x xs first zero low high = absurd (omega (arith, low, high))
  with_item x xs first (suc count) low high =
      elim (eqb (class x) first) as (λ b. eqb (class x) first ≡ b → IsPermutation (x ∷ by_class xs first (suc count)) (by_class (x ∷ xs) first (suc count))) [
        | true ↦ λ e. subst (IsPermutation (x ∷ by_class xs first (suc count))) (sym (in_own x xs first count (eqb-true (class x) first e))) (IsPermutation-refl (x ∷ by_class xs first (suc count)))
        | false ↦ λ e.
            let later = with_item x xs (first + 1) count (grind (arith, low, e, eq-eqb)) (omega (arith, high)) in
            let here = of_class xs first in
            let moved = IsPermutation-trans _ _ _ (IsPermutation-sym _ _ (IsPermutation-middle here x (by_class xs (first + 1) count))) (IsPermutation-append_right here _ _ later) in
            subst (λ l. IsPermutation (x ∷ by_class xs first (suc count)) (l ++ by_class (x ∷ xs) (first + 1) count)) (sym (one_class x xs first false e)) moved
      ] refl

  no_items : (first count : ℕ) → by_class [] first count ≡ []
  no_items first zero = refl
  no_items first (suc count) = no_items (first + 1) count

  -- each item is in exactly one of the classes
  pub by_class-IsPermutation : (xs : List X) (count : ℕ) → AllByRecursion (λ x. class x < count) xs → IsPermutation xs (by_class xs 0 count)
  by_class-IsPermutation [] count h = subst (IsPermutation []) (sym (no_items 0 count)) (IsPermutation-refl [])
  by_class-IsPermutation (x ∷ xs) count h =
      IsPermutation-trans (x ∷ xs) (x ∷ by_class xs 0 count) (by_class (x ∷ xs) 0 count) (IsPermutation-cons x xs (by_class xs 0 count) (by_class-IsPermutation xs count h.1))
      (with_item x xs 0 count (omega arith) (omega (arith, h.0)))
