-- Masks of AS paths: what it is for a mask to match, and the same by computation.
use Rattle.std.specs.Prelude.{◌≡◌, ℕ, ◌≤◌, Bool, true, false, ◌&&◌, ◌||◌, List, [], ◌∷◌, ◌++◌, Option, Some, None, nat_le}
use Rattle.std.specs.List.{Any, list_any}
use Rattle.bgp_update.specs.Paths.{PathSegment}
use Rattle.route_choice.specs.declared.path_mask.PathStep.{PathStep}
use Rattle.route_choice.specs.declared.path_mask.PathStep.TheVariants.{Within, AnyOne, AnyNumber}
use Rattle.route_choice.specs.Positions.{positions}

-- ---- what it is to match

-- A step matches these positions: a range one of whose numbers is in it, both ends too; `?` any one; `*` any number of
-- them, also none.
pub data StepMatches : PathStep → List (List ℕ) → Type 0 where
  within : {first last : ℕ} {position : List ℕ} → Any (λ n. (first ≤ n) × (n ≤ last)) position →
      StepMatches (Within first last) (position ∷ [])
  one : {position : List ℕ} → StepMatches AnyOne (position ∷ [])
  any : {piece : List (List ℕ)} → StepMatches AnyNumber piece

-- A mask matches positions which are pieces, one for each step in turn, that the steps match.
pub data MaskMatches : List PathStep → List (List ℕ) → Type 0 where
  none : MaskMatches [] []
  more : {step : PathStep} {mask : List PathStep} {whole : List (List ℕ)} (piece rest : List (List ℕ)) →
      whole ≡ piece ++ rest → StepMatches step piece → MaskMatches mask rest → MaskMatches (step ∷ mask) whole

-- a range has its lower end first
abbrev pub IsOrdered : PathStep → Type 0
IsOrdered (Within first last) = first ≤ last
IsOrdered AnyOne = Unit {0}
IsOrdered AnyNumber = Unit {0}

-- ---- by computation

abbrev pub is_within : ℕ → ℕ → ℕ → Bool
is_within first last n = nat_le first n && nat_le n last

-- the first position passes one test, and those behind it pass another one
abbrev pub first_and_rest : (List ℕ → Bool) → (List (List ℕ) → Bool) → List (List ℕ) → Bool
first_and_rest passes rest_passes [] = false
first_and_rest passes rest_passes (p ∷ ps) = passes p && rest_passes ps

-- what is left behind some leading positions, or behind none, passes a test
abbrev pub some_rest : (List (List ℕ) → Bool) → List (List ℕ) → Bool
some_rest rest_passes [] = rest_passes []
some_rest rest_passes (p ∷ ps) = rest_passes (p ∷ ps) || some_rest rest_passes ps

abbrev pub is_nil : List (List ℕ) → Bool
is_nil [] = true
is_nil (p ∷ ps) = false

-- a step matches leading positions, and those behind them pass a test
abbrev pub step_then : PathStep → (List (List ℕ) → Bool) → List (List ℕ) → Bool
step_then (Within first last) rest_passes ps = first_and_rest (list_any (is_within first last)) rest_passes ps
step_then AnyOne rest_passes ps = first_and_rest (λ p. true) rest_passes ps
step_then AnyNumber rest_passes ps = some_rest rest_passes ps

abbrev pub mask_matches : List PathStep → List (List ℕ) → Bool
mask_matches [] ps = is_nil ps
mask_matches (step ∷ mask) ps = step_then step (mask_matches mask) ps

abbrev pub is_any_number : PathStep → Bool
is_any_number AnyNumber = true
is_any_number step = false

-- a route without AS_PATH matches no mask
abbrev pub path_matches : List PathStep → Option (List PathSegment) → Bool
path_matches mask None = false
path_matches mask (Some path) = mask_matches mask (positions path)
