use Rattle.std.proofs.Common.{◌≡◌, ℕ, ◌-◌, Some, vec_len}
use Rattle.std.specs.Prelude.{slice_get}
use Rattle.lane_deal.proofs.seats.remember.Given as goal

abbrev pub invariant-loop-positions : goal.invariant-loop-positions
invariant-loop-positions l = (other x : ℕ) → slice_get l.initial.positions.items other ≡ Some (Some x) → slice_get l.positions.items other ≡ Some (Some x)

abbrev pub decreases-loop-positions : goal.decreases-loop-positions
decreases-loop-positions l = l.number - vec_len l.positions
