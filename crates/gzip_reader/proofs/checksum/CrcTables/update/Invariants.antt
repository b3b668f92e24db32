use Rattle.std.proofs.Common.{length, ◌≡◌, drop}
use Rattle.gzip_reader.specs.Crc.{crc}
use Rattle.gzip_reader.proofs.checksum.CrcTables.update.Given as goal

-- what is left of the bytes makes the register that all make
abbrev pub invariant-loop-words : goal.invariant-loop-words
invariant-loop-words l = crc l.value l.rest ≡ crc l.register l.bytes

abbrev pub decreases-loop-words : goal.decreases-loop-words
decreases-loop-words l = length l.rest

abbrev pub invariant-loop-byte : goal.invariant-loop-byte
invariant-loop-byte l = crc l.value (drop l.byte-index l.byte-items) ≡ crc l.register l.bytes
