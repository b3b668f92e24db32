use Rattle.std.proofs.Common.{refl, sym, ◌∙◌, ap}
use Rattle.gzip_reader.specs.Crc.{crc_bit, crc_bits}
use Rattle.gzip_reader.proofs.CrcLaws.{bits_one}
use Rattle.gzip_reader.proofs.checksum.remainder.Goals as goal

pub loop-taken-init : goal.loop-taken-init
unfolding crc_bits
loop-taken-init c = refl

pub loop-taken-preserved : goal.loop-taken-preserved
unfolding crc_bit
loop-taken-preserved c = ap crc_bit c.loop-taken.invariant ∙ sym (bits_one c.loop-taken.taken c.args.register)
