-- When two paths are equal (own): segment by segment, kinds and numbers.
use Rattle.std.specs.Prelude.{ℕ, Bool, true, false, ◌&&◌, List, [], ◌∷◌, ◌==◌}
use Rattle.bgp_update.specs.Paths.{PathSegment}
use Rattle.bgp_update.specs.Segments.{kind_number}

abbrev pub list_eq : {A : Type 0} → (A → A → Bool) → List A → List A → Bool
list_eq eq [] [] = true
list_eq eq [] (y ∷ ys) = false
list_eq eq (x ∷ xs) [] = false
list_eq eq (x ∷ xs) (y ∷ ys) = eq x y && list_eq eq xs ys

abbrev pub number_eq : ℕ → ℕ → Bool
number_eq m n = m == n

abbrev pub segment_eq : PathSegment → PathSegment → Bool
segment_eq a b = (kind_number a.kind == kind_number b.kind) && list_eq number_eq a.numbers b.numbers
