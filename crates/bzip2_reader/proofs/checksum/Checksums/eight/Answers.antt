use Rattle.std.proofs.Common.{◌-◌, ℕ, ◌∙◌, sym, ap, arith, take, drop}
use Rattle.byteorder.specs.Endian.{big_from}
use Rattle.bzip2_reader.proofs.ChecksumLaws.{crc_eight, xor_both}
use Rattle.bzip2_reader.proofs.checksum.Checksums.eight.Goals as goal

pub returns : goal.returns
returns c =
    xor_both _ _ _ _ c.four.ensures c.four-2.ensures
    ∙ sym (crc_eight c.args.register c.read_u32.result c.read_u32-2.result c.args.bytes.now c.requires (λ k. omega (arith, c.type_inv.bytes k)) c.read_u32.ensures
    (c.read_u32-2.ensures ∙ ap (λ (n : ℕ). big_from 0 4 (take (n - 4) (drop 4 c.args.bytes.now))) c.requires))
