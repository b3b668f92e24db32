use Rattle.bzip2_reader.specs.Walks.{AreSegments}
use Rattle.bzip2_reader.proofs.walks.keep_all.Given as goal

abbrev pub invariant-loop-lane : goal.invariant-loop-lane
invariant-loop-lane l = AreSegments l.links l.segments
