use Rattle.std.proofs.Common.{◌≡◌, ℕ, ◌+◌, ◌-◌, refl, ap, ◌∙◌, take, drop, length, take-append-drop, arith}
use Rattle.std.specs.Int.Bits.{bit_xor}
use Rattle.std.proofs.lemmas.List.{get_or-drop, length-take, length-drop, take_all}
use Rattle.byteorder.specs.Endian.{little_from}
use Rattle.gzip_reader.specs.Crc.{crc}
use Rattle.gzip_reader.proofs.CopyLaws.{small_before}
use Rattle.gzip_reader.proofs.CrcLaws.{crc_sixteen, xor_both}
use Rattle.gzip_reader.proofs.checksum.CrcTables.sixteen.Goals as goal

pub returns : goal.returns
returns c =
    let first : length (take 8 c.args.bytes.now) ≡ 8 = omega (arith, length-take 8 c.args.bytes.now, c.requires) in
    let second : length (drop 8 c.args.bytes.now) ≡ 8 = omega (arith, length-drop 8 c.args.bytes.now, c.requires) in
    xor_both _ _ _ _ (c.eight-second.ensures 0 refl) (c.eight-first.ensures 8 refl)
    ∙ crc_sixteen c.args.register _ _ (take 8 c.args.bytes.now) (drop 8 c.args.bytes.now) first second
    (small_before 8 0 16 c.args.bytes.now c.args.bytes.now (omega arith) refl (λ k. omega (arith, c.type_inv.bytes k)))
    (λ k. omega (arith, get_or-drop 8 c.args.bytes.now k 0, c.type_inv.bytes (8 + k)))
    (ap (λ (n : ℕ). bit_xor n c.args.register) c.read_u64-2.ensures)
    (c.read_u64.ensures ∙ ap (little_from 0 8) (take_all (length c.args.bytes.now - 8) (drop 8 c.args.bytes.now) (omega arith)))
    ∙ ap (crc c.args.register) (take-append-drop 8 c.args.bytes.now)
