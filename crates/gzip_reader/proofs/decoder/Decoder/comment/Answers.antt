use Rattle.std.proofs.Common.{◌≡◌, ℕ, List, [], ◌∷◌, ◌++◌, Ok, Err, refl, sym, ◌∙◌, ap, arith}
use Rattle.gzip_reader.specs.BitFields.{number_at}
use Rattle.gzip_reader.specs.Bits.{bits_left, held}
use Rattle.gzip_reader.specs.Crc.{crc}
use Rattle.gzip_reader.specs.Places.{place_of}
use Rattle.gzip_reader.specs.declared.decoder.Phase.TheVariants.{Comment, HeaderCheck}
use Rattle.gzip_reader.specs.declared.fault.Flaw.{Flaw}
use Rattle.gzip_reader.specs.declared.fault.Flaw.TheVariants.{Truncated}
use Rattle.gzip_reader.proofs.HeaderLaws.{ends_here, header_flaw, header_step, off_sixteen, on_sixteen, comment_off, comment_flaw, comment_end, comment_on}
use Rattle.gzip_reader.proofs.decoder.Decoder.comment.Goals as goal

pub returns-then-self-eq0-clause-advances : goal.returns-then-self-eq0-clause-advances
returns-then-self-eq0-clause-advances c more none =
    header_step c.args.self.now c.args.self.now Comment HeaderCheck more c.args.self.now.header_register (record { output = refl; flags = refl; register = refl; count = refl; is_last = refl; literals = refl; distances = refl; is_fixed = refl; end = refl }) refl
    (comment_off (place_of c.args.self.now) (held c.args.self.now.input ++ more) (off_sixteen c.args.self.now.flags c.if-self-eq0.true))

pub returns-in-Err-clause-advances : goal.returns-in-Err-clause-advances
returns-in-Err-clause-advances c more none =
    let flaw : c.in-Err.flaw ≡ Truncated = let e = c.in-Err.ensures.short.0 in cc in
    let last : more ≡ [] = ends_here c.args.self.now.input.is_at_end (bits_left c.args.self.now.input) 8 more none (λ e. omega (arith, c.has.ensures c.if-not-has.false e)) c.in-Err.ensures.short.1 in
    header_flaw c.args.self.now c.header_byte.new.self Comment more c.in-Err.flaw c.header_byte.ensures.same.output
    (comment_flaw (place_of c.args.self.now) (held c.args.self.now.input ++ more) c.in-Err.flaw (on_sixteen c.args.self.now.flags c.if-self-eq0.false)
    (ap (λ (l : List ℕ). number_at 8 (held c.args.self.now.input ++ l)) last ∙ c.in-Err.ensures.short.2 ∙ ap (λ (f : Flaw). Err f) (sym flaw)))

pub returns-in-Ok-eq0-clause-advances : goal.returns-in-Ok-eq0-clause-advances
returns-in-Ok-eq0-clause-advances c more none =
    header_step c.args.self.now c.header_byte.new.self Comment HeaderCheck more _ c.header_byte.ensures.same (c.in-Ok-eq0.ensures.register ∙ ap (λ (b : ℕ). crc c.args.self.now.header_register (b ∷ [])) c.in-Ok-eq0.field-0-test)
    (comment_end (place_of c.args.self.now) (held c.args.self.now.input ++ more) (held c.header_byte.new.self.input ++ more) (on_sixteen c.args.self.now.flags c.if-self-eq0.false)
    (c.in-Ok-eq0.ensures.byte.1 more ∙ ap (λ (b : ℕ). Ok (b, held c.header_byte.new.self.input ++ more)) c.in-Ok-eq0.field-0-test))

pub returns-in-Ok-clause-advances : goal.returns-in-Ok-clause-advances
returns-in-Ok-clause-advances c more none =
    header_step c.args.self.now c.header_byte.new.self Comment Comment more _ c.header_byte.ensures.same c.in-Ok.ensures.register
    (comment_on (place_of c.args.self.now) (held c.args.self.now.input ++ more) c.in-Ok.field-0 (held c.header_byte.new.self.input ++ more) (on_sixteen c.args.self.now.flags c.if-self-eq0.false)
    (c.in-Ok.ensures.byte.1 more) c.in-Ok.field-0-test.1)
