use Rattle.std.proofs.Common.{◌≡◌, ℕ, ◌%◌, ◌∙◌, ap, arith}
use Rattle.std.specs.Int.Bits.{bit_xor}
use Rattle.gzip_reader.specs.Crc.{crc, crc_bits}
use Rattle.gzip_reader.proofs.decoder.Decoder.header_byte.Goals as goal

pub returns-in-Ok-clause-register : goal.returns-in-Ok-clause-register
unfolding crc
returns-in-Ok-clause-register c =
    let small : c.in-Ok.byte % 256 ≡ c.in-Ok.byte = omega (arith, c.in-Ok.ensures.number) in
    c.step-self.ensures ∙ ap (λ (b : ℕ). crc_bits 8 (bit_xor c.args.self.now.header_register b)) small
