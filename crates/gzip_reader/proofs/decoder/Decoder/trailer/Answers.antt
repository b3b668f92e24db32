use Rattle.std.proofs.Common.{◌≡◌, ℕ, List, [], ◌++◌, Err, refl, sym, ◌∙◌, ap, arith}
use Rattle.gzip_reader.specs.BitFields.{number_at}
use Rattle.gzip_reader.specs.Bits.{bits_left, held}
use Rattle.gzip_reader.specs.Blocks.{nothing}
use Rattle.gzip_reader.specs.declared.decoder.Decoder.{Decoder}
use Rattle.gzip_reader.specs.declared.decoder.Phase.TheVariants.{Trailer}
use Rattle.gzip_reader.specs.declared.fault.Flaw.{Flaw}
use Rattle.gzip_reader.specs.declared.fault.Flaw.TheVariants.{Checksum, Truncated}
use Rattle.gzip_reader.proofs.HeaderLaws.{ends_here, header_flaw}
use Rattle.gzip_reader.proofs.TrailerLaws.{byte_next, trailer_checksum, trailer_ends, trailer_flaw}
use Rattle.gzip_reader.proofs.decoder.Decoder.trailer.Goals as goal

pub returns-in-Err-clause-advances : goal.returns-in-Err-clause-advances
returns-in-Err-clause-advances c more whole none =
    let old : Decoder = c.args.self.now in
    let new : Decoder = record old { input = c.take.new.self } in
    let aligned = byte_next old.input c.align.new.self more whole c.align.ensures.rest c.align.ensures.size in
    let flaw : c.in-Err.flaw ≡ Truncated = let e = c.in-Err.ensures.err.0 in cc in
    let last : more ≡ [] = ends_here old.input.is_at_end (bits_left old.input) 40 more none (λ e. omega (arith, c.has.ensures c.if-not-has.false e)) (omega (arith, c.in-Err.ensures.err.1, c.align.ensures.size)) in
    header_flaw old new Trailer more c.in-Err.flaw refl
    (trailer_flaw old c.requires c.is_word.ensures (held old.input ++ more) (held c.align.new.self ++ more) aligned c.in-Err.flaw
    (ap (λ (l : List ℕ). number_at 32 (held c.align.new.self ++ l)) last ∙ c.in-Err.ensures.short ∙ ap (λ (f : Flaw). Err f) (sym flaw)))

pub returns-in-Err-check_crc-clause-advances : goal.returns-in-Err-check_crc-clause-advances
returns-in-Err-check_crc-clause-advances c more whole none =
    let old : Decoder = c.args.self.now in
    let new : Decoder = record old { input = c.take.new.self } in
    let aligned = byte_next old.input c.align.new.self more whole c.align.ensures.rest c.align.ensures.size in
    let flaw : c.in-Err-check_crc.flaw ≡ Checksum = let e = c.in-Err-check_crc.ensures.err.0 in cc in
    header_flaw old new Trailer more c.in-Err-check_crc.flaw refl
    (trailer_checksum old c.requires c.is_word.ensures (held old.input ++ more) (held c.align.new.self ++ more) aligned c.in-Ok.check (held c.take.new.self ++ more) (c.in-Ok.ensures.read more) c.in-Err-check_crc.ensures.err.1
    ∙ ap (λ (f : Flaw). nothing (Err f)) (sym flaw))

pub returns-in-Ok-check_crc-clause-advances : goal.returns-in-Ok-check_crc-clause-advances
returns-in-Ok-check_crc-clause-advances c more whole none =
    let old : Decoder = c.args.self.now in
    let mid : Decoder = record old { input = c.take.new.self } in
    let aligned = byte_next old.input c.align.new.self more whole c.align.ensures.rest c.align.ensures.size in
    trailer_ends old mid c.member_length.new.self c.requires c.is_word.ensures c.in-Ok.check more (held c.align.new.self ++ more) aligned (c.in-Ok.ensures.read more) c.in-Ok-check_crc.ensures.ok refl c.member_length.ensures.output
    (λ few. ends_here old.input.is_at_end (bits_left old.input) 64 more none (λ e. omega (arith, c.has.ensures c.if-not-has.false e)) (omega (arith, few, c.in-Ok.ensures.size, c.align.ensures.size)))
    c.member_length.result c.member_length.ensures.to c.member_length.ensures.read c.member_length.ensures.wrong c.member_length.ensures.flaws
