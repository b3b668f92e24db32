-- the register after the bytes so far
use Rattle.std.proofs.Common.{◌≡◌, ◌-◌, ◌^◌, length}
use Rattle.bzip2_reader.specs.Checksums.{crc}
use Rattle.bzip2_reader.specs.Runs.{IsSettled, left, written}
use Rattle.bzip2_reader.proofs.block.checksum_of.Given as goal

abbrev pub invariant-loop-piece : goal.invariant-loop-piece
invariant-loop-piece l = record {
  settled : IsSettled l.text l.runs;
  sum : crc l.register (left l.text l.runs) ≡ crc (2 ^ 32 - 1) (written l.text);
  size : length l.piece ≡ 4096;
}

abbrev pub decreases-loop-piece : goal.decreases-loop-piece
decreases-loop-piece l = length (left l.text l.runs)
