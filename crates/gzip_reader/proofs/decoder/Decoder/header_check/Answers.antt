use Rattle.std.proofs.Common.{◌≡◌, ℕ, List, [], ◌++◌, Err, refl, sym, ◌∙◌, ap, arith}
use Rattle.gzip_reader.specs.BitFields.{number_at}
use Rattle.gzip_reader.specs.Bits.{bits_left, held}
use Rattle.gzip_reader.specs.declared.decoder.Decoder.{Decoder}
use Rattle.gzip_reader.specs.declared.decoder.Phase.TheVariants.{BlockHeader, HeaderCheck}
use Rattle.gzip_reader.specs.declared.fault.Flaw.{Flaw}
use Rattle.gzip_reader.specs.declared.fault.Flaw.TheVariants.{Truncated, HeaderCheck as CheckFlaw}
use Rattle.gzip_reader.proofs.HeaderLaws.{ends_here, header_flaw, header_step, off_two, on_two, check_off, check_flaw, check_right, check_wrong}
use Rattle.gzip_reader.proofs.decoder.Decoder.header_check.Goals as goal

pub returns-then-self-eq0-clause-advances : goal.returns-then-self-eq0-clause-advances
returns-then-self-eq0-clause-advances c more fresh none =
    header_step c.args.self.now c.args.self.now HeaderCheck BlockHeader more c.args.self.now.header_register (record { output = refl; flags = refl; register = refl; count = refl; is_last = refl; literals = refl; distances = refl; is_fixed = refl; end = refl }) refl
    (check_off c.args.self.now fresh (held c.args.self.now.input ++ more) (off_two c.args.self.now.flags c.if-self-eq0.true))

pub returns-in-Err-clause-advances : goal.returns-in-Err-clause-advances
returns-in-Err-clause-advances c more fresh none =
    let flaw : c.in-Err.flaw ≡ Truncated = let e = c.in-Err.ensures.err.0 in cc in
    let last : more ≡ [] = ends_here c.args.self.now.input.is_at_end (bits_left c.args.self.now.input) 16 more none (λ e. omega (arith, c.has.ensures c.if-not-has.false e)) c.in-Err.ensures.err.1 in
    header_flaw c.args.self.now (record c.args.self.now { input = c.take.new.self }) HeaderCheck more c.in-Err.flaw refl
    (check_flaw c.args.self.now fresh (held c.args.self.now.input ++ more) c.in-Err.flaw (on_two c.args.self.now.flags c.if-self-eq0.false)
    (ap (λ (l : List ℕ). number_at 16 (held c.args.self.now.input ++ l)) last ∙ c.in-Err.ensures.short ∙ ap (λ (f : Flaw). Err f) (sym flaw)))

pub returns-in-Ok-clause-advances : goal.returns-in-Ok-clause-advances
returns-in-Ok-clause-advances c more fresh none =
    let old : Decoder = c.args.self.now in
    let new : Decoder = record old { input = c.take.new.self } in
    header_step old new HeaderCheck BlockHeader more old.header_register (record { output = refl; flags = refl; register = refl; count = refl; is_last = refl; literals = refl; distances = refl; is_fixed = refl; end = c.take.ensures.end }) refl
    (check_right old fresh (held old.input ++ more) c.in-Ok.check (held new.input ++ more) (on_two old.flags c.if-self-eq0.false) (c.in-Ok.ensures.read more) c.if-check-self.true)

pub returns-in-Ok-2-clause-advances : goal.returns-in-Ok-2-clause-advances
returns-in-Ok-2-clause-advances c more fresh none =
    let old : Decoder = c.args.self.now in
    let new : Decoder = record old { input = c.take.new.self } in
    header_flaw old new HeaderCheck more CheckFlaw refl
    (check_wrong old fresh (held old.input ++ more) c.in-Ok.check (held new.input ++ more) (on_two old.flags c.if-self-eq0.false) (c.in-Ok.ensures.read more) c.if-check-self.false)
