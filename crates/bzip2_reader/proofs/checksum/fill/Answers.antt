use Rattle.std.proofs.Common.{◌≡◌, ◌*◌, ◌%◌, ◌^◌, ◌-◌, refl, ◌∙◌, ap, arith, slice_index}
use Rattle.bzip2_reader.specs.Checksums.{crc_bits}
use Rattle.bzip2_reader.proofs.ChecksumLaws.{table_first, table_more, table_next}
use Rattle.bzip2_reader.proofs.checksum.fill.Goals as goal

pub loop-n-preserved : goal.loop-n-preserved
loop-n-preserved c =
    let top : c.loop-n.n * 2 ^ 24 % 2 ^ 32 ≡ c.loop-n.n * 2 ^ 24 = omega arith in
    table_more c.loop-n.tables c.loop-n.n _ (omega arith) c.loop-n.invariant
    (table_first c.loop-n.n _ (omega arith) (c.remainder.ensures ∙ ap (crc_bits 8) top))

pub loop-i-preserved : goal.loop-i-preserved
loop-i-preserved c =
    table_more c.loop-i.tables c.loop-i.i _ (omega arith) c.loop-i.invariant
    (table_next c.loop-i.tables c.loop-i.i (slice_index c.loop-i.tables (c.loop-i.i - 256)) _ (omega arith) (omega arith) c.loop-i.invariant refl c.after_byte.ensures)
