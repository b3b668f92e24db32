use Rattle.std.proofs.Common.{◌≡◌}
use Rattle.bzip2_reader.specs.Checksums.{crc_bits}
use Rattle.bzip2_reader.proofs.checksum.remainder.Given as goal

abbrev pub invariant-loop-taken : goal.invariant-loop-taken
invariant-loop-taken l = l.value ≡ crc_bits l.taken l.register
