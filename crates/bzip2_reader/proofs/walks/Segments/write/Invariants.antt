use Rattle.std.proofs.Common.{◌≤◌}
use Rattle.bzip2_reader.specs.Walks.{IsFront}
use Rattle.bzip2_reader.proofs.walks.Segments.write.Given as goal

abbrev pub invariant-loop : goal.invariant-loop
invariant-loop l = record { grows : l.counter ≤ l.at.done; front : IsFront l.links l.first l.text l.at }
