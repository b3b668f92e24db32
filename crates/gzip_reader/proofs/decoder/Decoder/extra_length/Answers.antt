use Rattle.std.proofs.Common.{◌≡◌, ℕ, ◌+◌, ◌*◌, ◌%◌, List, [], ◌∷◌, ◌++◌, Err, refl, sym, ◌∙◌, ap, arith}
use Rattle.gzip_reader.specs.BitFields.{number_at}
use Rattle.gzip_reader.specs.Bits.{bits_left, held}
use Rattle.gzip_reader.specs.Crc.{crc}
use Rattle.gzip_reader.specs.Places.{place_of}
use Rattle.gzip_reader.specs.Rest.{rest_of}
use Rattle.gzip_reader.specs.declared.decoder.Decoder.{Decoder}
use Rattle.gzip_reader.specs.declared.decoder.Phase.TheVariants.{Extra, ExtraLength, Name}
use Rattle.gzip_reader.specs.declared.fault.Flaw.{Flaw}
use Rattle.gzip_reader.specs.declared.fault.Flaw.TheVariants.{Truncated}
use Rattle.gzip_reader.proofs.HeaderLaws.{ends_here, header_flaw, header_step, off_four, on_four, length_off, length_flaw, length_flaw_high, length_on, with_header, reads_twice}
use Rattle.gzip_reader.proofs.decoder.Decoder.extra_length.Goals as goal

pub returns-then-self-eq0-clause-advances : goal.returns-then-self-eq0-clause-advances
returns-then-self-eq0-clause-advances c more none =
    header_step c.args.self.now c.args.self.now ExtraLength Name more c.args.self.now.header_register (record { output = refl; flags = refl; register = refl; count = refl; is_last = refl; literals = refl; distances = refl; is_fixed = refl; end = refl }) refl
    (length_off (place_of c.args.self.now) (held c.args.self.now.input ++ more) (off_four c.args.self.now.flags c.if-self-eq0.true))

pub returns-in-Err-clause-advances : goal.returns-in-Err-clause-advances
returns-in-Err-clause-advances c more none =
    let flaw : c.in-Err.flaw ≡ Truncated = let e = c.in-Err.ensures.short.0 in cc in
    let last : more ≡ [] = ends_here c.args.self.now.input.is_at_end (bits_left c.args.self.now.input) 8 more none (λ e. omega (arith, c.has.ensures c.if-not-has.false e)) c.in-Err.ensures.short.1 in
    header_flaw c.args.self.now c.header_byte.new.self ExtraLength more c.in-Err.flaw c.header_byte.ensures.same.output
    (length_flaw (place_of c.args.self.now) (held c.args.self.now.input ++ more) c.in-Err.flaw (on_four c.args.self.now.flags c.if-self-eq0.false)
    (ap (λ (l : List ℕ). number_at 8 (held c.args.self.now.input ++ l)) last ∙ c.in-Err.ensures.short.2 ∙ ap (λ (f : Flaw). Err f) (sym flaw)))

pub returns-in-Err-header_byte-clause-advances : goal.returns-in-Err-header_byte-clause-advances
returns-in-Err-header_byte-clause-advances c more none =
    let mid : Decoder = c.header_byte.new.self in
    let flaw : c.in-Err-header_byte.flaw ≡ Truncated = let e = c.in-Err-header_byte.ensures.short.0 in cc in
    let last : more ≡ [] = ends_here c.args.self.now.input.is_at_end (bits_left c.args.self.now.input) 16 more none (λ e. omega (arith, c.has.ensures c.if-not-has.false e))
    (omega (arith, c.in-Err-header_byte.ensures.short.1, c.header_byte.ensures.left)) in
    header_flaw c.args.self.now c.header_byte-in-Ok.new.self ExtraLength more c.in-Err-header_byte.flaw (c.header_byte-in-Ok.ensures.same.output ∙ c.header_byte.ensures.same.output)
    (length_flaw_high (place_of c.args.self.now) (held c.args.self.now.input ++ more) c.in-Ok.low (held mid.input ++ more) c.in-Err-header_byte.flaw (on_four c.args.self.now.flags c.if-self-eq0.false)
    (c.in-Ok.ensures.byte.1 more)
    (ap (λ (l : List ℕ). number_at 8 (held mid.input ++ l)) last ∙ c.in-Err-header_byte.ensures.short.2 ∙ ap (λ (f : Flaw). Err f) (sym flaw)))

pub returns-in-Ok-header_byte-clause-advances : goal.returns-in-Ok-header_byte-clause-advances
returns-in-Ok-header_byte-clause-advances c more none =
    let old : Decoder = c.args.self.now in
    let mid : Decoder = c.header_byte.new.self in
    let new : Decoder = c.header_byte-in-Ok.new.self in
    let low : ℕ = c.in-Ok.low in
    let high : ℕ = c.in-Ok-header_byte.high in
    let sum : low + 256 * high ≡ low % 256 + 256 * (high % 256) = omega (arith, c.in-Ok.ensures.byte.0, c.in-Ok-header_byte.ensures.byte.0) in
    header_step old new ExtraLength (Extra (low % 256 + 256 * (high % 256))) more (crc (crc old.header_register (low ∷ [])) (high ∷ [])) (reads_twice old mid new c.header_byte.ensures.same c.header_byte-in-Ok.ensures.same)
    (c.in-Ok-header_byte.ensures.register ∙ ap (λ (r : ℕ). crc r (high ∷ [])) c.in-Ok.ensures.register)
    (length_on (place_of old) (held old.input ++ more) low high (held mid.input ++ more) (held new.input ++ more) (on_four old.flags c.if-self-eq0.false)
    (c.in-Ok.ensures.byte.1 more) (c.in-Ok-header_byte.ensures.byte.1 more)
    ∙ ap (λ (n : ℕ). rest_of (with_header (crc (crc old.header_register (low ∷ [])) (high ∷ [])) (place_of old)) (Extra n) (held new.input ++ more)) sum)
