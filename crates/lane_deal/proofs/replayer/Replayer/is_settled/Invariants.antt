use Rattle.std.proofs.Common.{◌≡◌, ℕ, ◌<◌, get_or}
use Rattle.lane_deal.specs.Plain.{LaneSender}
use Rattle.unit_rings.specs.UnitRings.{known_free, ring_capacity}
use Rattle.lane_deal.proofs.replayer.Replayer.is_settled.Given as goal

abbrev pub invariant-loop-sender : goal.invariant-loop-sender
invariant-loop-sender g l = (lane : ℕ) (d : LaneSender) → lane < l.sender-index → known_free (get_or l.sender-items lane d).producer ≡ ring_capacity (get_or l.sender-items lane d).producer
