use Rattle.std.proofs.Common.{take, sym, ap, ◌∙◌}
use Rattle.bzip2_reader.specs.Checksums.{crc}
use Rattle.bzip2_reader.specs.Runs.{left}
use Rattle.bzip2_reader.proofs.ChecksumLaws.{crc_append}
use Rattle.bzip2_reader.proofs.block.checksum_of.Goals as goal

pub loop-piece-preserved : goal.loop-piece-preserved
loop-piece-preserved c =
    let inv = c.loop-piece.invariant in
    let rest = left c.args.text.now c.write-count.new.self in
    let register = c.loop-piece.register in
    let piece = take c.write-count.result c.write-count.new.out in
    record {
      settled = c.write-count.ensures.settled;
      sum = ap (λ r. crc r rest) c.update-register.ensures ∙ sym (crc_append register piece rest) ∙ ap (crc register) (sym c.write-count.ensures.written) ∙ inv.sum;
      size = c.write-count.auto.out ∙ inv.size;
    }
