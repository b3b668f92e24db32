use Rattle.std.proofs.Common.{All}
use Rattle.bzip2_reader.specs.Walks.{AreSegments, IsLane}
use Rattle.bzip2_reader.proofs.walks.step_all.Given as goal

abbrev pub invariant-loop-lane : goal.invariant-loop-lane
invariant-loop-lane l = record { lanes : All (IsLane l.links) l.lanes; segments : AreSegments l.links l.segments }
