-- A route without AS_PATH.
use Rattle.std.proofs.Common.{◌≡◌, false, List, [], ◌∷◌, length, Option, Some, None, refl}
use Rattle.std.specs.Prelude.{option_map}
use Rattle.std.specs.List.{list_any}
use Rattle.bgp_update.specs.Paths.{PathSegment}
use Rattle.route_choice.specs.declared.path_mask.PathStep.{PathStep}
use Rattle.route_choice.specs.Positions.{positions}
use Rattle.route_choice.specs.Masks.{path_matches}
use Rattle.route_choice.specs.Choices.{meets}

none_of : (masks : List (List PathStep)) → list_any (λ mask. path_matches mask None) masks ≡ false
none_of [] = refl
none_of (m ∷ ms) = none_of ms

some_named : (masks : List (List PathStep)) → (length masks ≡ 0 → ⊥) → meets (λ mask. path_matches mask None) masks ≡ false
some_named [] h = absurd (h refl)
some_named (m ∷ ms) h = none_of (m ∷ ms)

pub no_path : (path : Option (List PathSegment)) (masks : List (List PathStep)) → option_map positions path ≡ None → (length masks ≡ 0 → ⊥) → meets (λ mask. path_matches mask path) masks ≡ false
no_path None masks e h = some_named masks h
no_path (Some path) masks e h = absurd cc
