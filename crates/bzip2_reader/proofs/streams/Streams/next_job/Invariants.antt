use Rattle.std.proofs.Common.{◌≤◌}
use Rattle.bzip2_reader.proofs.streams.Streams.next_job.Given as goal

abbrev pub invariant-loop : goal.invariant-loop
invariant-loop g l = l.self.next ≤ l.next
