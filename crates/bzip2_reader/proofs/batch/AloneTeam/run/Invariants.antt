use Rattle.std.proofs.Common.{All}
use Rattle.bzip2_reader.specs.Fields.{bits_of}
use Rattle.bzip2_reader.specs.Jobs.{HasRun}
use Rattle.bzip2_reader.proofs.batch.AloneTeam.run.Given as goal

abbrev pub invariant-loop-job : goal.invariant-loop-job
invariant-loop-job l = All (HasRun (bits_of l.bytes)) l.done.items
