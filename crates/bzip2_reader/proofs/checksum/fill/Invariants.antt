use Rattle.bzip2_reader.specs.Checksums.{IsTable}
use Rattle.bzip2_reader.proofs.checksum.fill.Given as goal

abbrev pub invariant-loop-n : goal.invariant-loop-n
invariant-loop-n l = IsTable l.n l.tables

abbrev pub invariant-loop-i : goal.invariant-loop-i
invariant-loop-i l = IsTable l.i l.tables
