-- the refusals, and the faults of the seats so far
use Rattle.std.proofs.Common.{◌≡◌, ◌+◌, ◌-◌, ◌^◌, length, take}
use Rattle.std.specs.Prelude.{min}
use Rattle.std.specs.List.{flat_map}
use Rattle.peer_tables.proofs.tables.Tables.damaged.Given as goal

abbrev pub invariant-loop-seat : goal.invariant-loop-seat
invariant-loop-seat g l = l.count ≡ min (length l.self.refused + length (flat_map (λ s. s.session.faults) (take l.seat-index l.seat-items))) (2 ^ 64 - 1)
