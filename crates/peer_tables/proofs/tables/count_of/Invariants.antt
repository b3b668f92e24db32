-- the items of the lanes so far
use Rattle.std.proofs.Common.{◌≡◌, length, take}
use Rattle.std.specs.List.{flat_map}
use Rattle.peer_tables.proofs.tables.count_of.Given as goal

abbrev pub invariant-loop-lane : goal.invariant-loop-lane
invariant-loop-lane g l = l.count ≡ length (flat_map (λ lane. lane) (take l.lane-index l.lanes))
