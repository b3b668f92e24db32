use Rattle.std.proofs.Common.{ℕ, List}
use Rattle.std.specs.List.{AllWithin}
use Rattle.bzip2_reader.specs.Walks.{IsLane}
use Rattle.bzip2_reader.proofs.walks.begin_all.Given as goal

abbrev pub invariant-loop-lane : goal.invariant-loop-lane
invariant-loop-lane l = (links : List ℕ) → AllWithin (IsLane links) l.lanes 0 l.lane-index
