-- what is left in the lanes has room, and nothing was lost
use Rattle.std.proofs.Common.{◌+◌, ◌≤◌, ◌++◌, length, vec_len}
use Rattle.std.specs.List.{flat_map}
use Rattle.std.specs.Vec.{vec_capacity}
use Rattle.std.specs.Prelude.{IsPermutation}
use Rattle.peer_tables.proofs.tables.move_all.Given as goal

abbrev pub invariant-loop-lane : goal.invariant-loop-lane
invariant-loop-lane g l = record {
  room : vec_len l.all + length (flat_map (λ lane. lane) l.lanes.items) ≤ vec_capacity l.all;
  moved : IsPermutation (flat_map (λ lane. lane) l.fn.lanes.items ++ l.initial.all.items) (flat_map (λ lane. lane) l.lanes.items ++ l.all.items);
}

abbrev pub decreases-loop-lane : goal.decreases-loop-lane
decreases-loop-lane g l = vec_len l.lanes
