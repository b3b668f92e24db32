-- The steps of a mask up to its next `*`, held against a path from some position on.
use Rattle.std.specs.Prelude.{◌≡◌, ℕ, ◌<◌, ◌≤◌, Bool, true, false, List, drop, length}
use Rattle.std.specs.List.{list_any}
use Rattle.route_choice.specs.declared.path_mask.PathStep.{PathStep}
use Rattle.route_choice.specs.declared.path_mask.PathStep.TheVariants.{Within, AnyOne, AnyNumber}
use Rattle.route_choice.specs.declared.matching.PieceEnd.{PieceEnd}
use Rattle.route_choice.specs.declared.matching.PieceEnd.TheVariants.{Whole, Short, Other, Star}
use Rattle.route_choice.specs.Masks.{is_within, some_rest, mask_matches}

-- a step that is one position matches it
abbrev pub takes : PathStep → List ℕ → Bool
takes (Within first last) position = list_any (is_within first last) position
takes AnyOne position = true
takes AnyNumber position = true

-- A `*` was reached: the mask matches from this position on, or from some later one, exactly if what is behind the `*`
-- matches some rest of what is left.
pub record ReachesStar (mask : List PathStep) (before after : List (List ℕ)) (behind : ℕ) : Type 0 where
  pub here : mask_matches mask before ≡ some_rest (mask_matches (drop behind mask)) after
  pub later : some_rest (mask_matches mask) before ≡ some_rest (mask_matches (drop behind mask)) after
  pub some : 0 < behind
  pub within : behind ≤ length mask
  pub shorter : length after ≤ length before

-- what each end of a piece says
abbrev pub EndsPiece : List PathStep → List (List ℕ) → List (List ℕ) → PieceEnd → Type 0
EndsPiece mask before after Whole = mask_matches mask before ≡ true
EndsPiece mask before after Short = some_rest (mask_matches mask) before ≡ false
EndsPiece mask before after Other = mask_matches mask before ≡ false
EndsPiece mask before after (Star behind) = ReachesStar mask before after behind
