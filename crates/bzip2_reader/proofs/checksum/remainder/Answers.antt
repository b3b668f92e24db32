use Rattle.std.proofs.Common.{◌≡◌, ◌*◌, ◌/◌, ◌%◌, ◌^◌, ℕ, refl, sym, ◌∙◌, ap, arith}
use Rattle.std.specs.Int.Bits.{bit_xor}
use Rattle.bzip2_reader.specs.Checksums.{crc_bit, crc_bits}
use Rattle.bzip2_reader.proofs.ChecksumLaws.{bits_one}
use Rattle.bzip2_reader.proofs.checksum.remainder.Goals as goal

pub loop-taken-init : goal.loop-taken-init
unfolding crc_bits
loop-taken-init c = refl

pub loop-taken-preserved : goal.loop-taken-preserved
unfolding crc_bit
loop-taken-preserved c =
    let value : ℕ = c.loop-taken.value in
    let top : value / 2 ^ 31 ≡ value / 2 ^ 31 % 2 = omega arith in
    ap (λ (n : ℕ). bit_xor (value * 2 % 2 ^ 32) (n * 0x04C11DB7)) top
    ∙ ap crc_bit c.loop-taken.invariant ∙ sym (bits_one c.loop-taken.taken c.args.register)
