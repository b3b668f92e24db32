use Rattle.std.proofs.Common.{◌≡◌, ℕ, ◌+◌, ◌-◌, suc, ◌++◌, sym, ◌∙◌, ap, arith}
use Rattle.gzip_reader.specs.Bits.{bits_left, held}
use Rattle.gzip_reader.specs.Files.{skip_bytes}
use Rattle.gzip_reader.specs.declared.decoder.Decoder.{Decoder}
use Rattle.gzip_reader.proofs.HeaderLaws.{ends_here, reads_twice}
use Rattle.gzip_reader.proofs.DynamicLaws.{number_short}
use Rattle.gzip_reader.proofs.StartLaws.{skip_none, skip_one, skip_short}
use Rattle.gzip_reader.proofs.decoder.Decoder.skip_bytes.Goals as goal

pub returns-in-Err-clause-field : goal.returns-in-Err-clause-field
returns-in-Err-clause-field c more none enough =
    let now : Decoder = c.loop-taken.self in
    let one : c.args.count - c.loop-taken.taken ≡ suc (c.args.count - c.loop-taken.taken - 1) = omega arith in
    let same = c.loop-taken.invariant.same.end in
    c.loop-taken.invariant.field more
    ∙ ap (λ (n : ℕ). skip_bytes n now.header_register (held now.input ++ more)) one
    ∙ skip_short (c.args.count - c.loop-taken.taken - 1) now.header_register (held now.input ++ more) c.in-Err.flaw
    (number_short now.input 8 more c.in-Err.flaw c.in-Err.ensures.short.0 c.in-Err.ensures.short.2
    (ends_here now.input.is_at_end (bits_left now.input) 8 more (λ e. none (sym same ∙ e)) (λ e. omega (arith, enough (sym same ∙ e), c.loop-taken.invariant.left)) c.in-Err.ensures.short.1))

pub loop-taken-preserved : goal.loop-taken-preserved
loop-taken-preserved c =
    let now : Decoder = c.loop-taken.self in
    let one : c.args.count - c.loop-taken.taken ≡ suc (c.args.count - (c.loop-taken.taken + 1)) = omega arith in
    record {
      field = λ more.
          c.loop-taken.invariant.field more
          ∙ ap (λ (n : ℕ). skip_bytes n now.header_register (held now.input ++ more)) one
          ∙ skip_one (c.args.count - (c.loop-taken.taken + 1)) now.header_register c.in-Ok.field-0 (held now.input ++ more) (held c.header_byte.new.self.input ++ more) (c.in-Ok.ensures.byte.1 more)
          ∙ ap (λ (r : ℕ). skip_bytes (c.args.count - (c.loop-taken.taken + 1)) r (held c.header_byte.new.self.input ++ more)) (sym c.in-Ok.ensures.register);
      left = omega (arith, c.loop-taken.invariant.left, c.header_byte.ensures.left);
      same = reads_twice c.args.self.now now c.header_byte.new.self c.loop-taken.invariant.same c.header_byte.ensures.same;
    }

pub returns-clause-field : goal.returns-clause-field
returns-clause-field c more none enough =
    let now : Decoder = c.loop-taken.self in
    let zero_left : c.args.count - c.loop-taken.taken ≡ 0 = omega arith in
    c.loop-taken.invariant.field more
    ∙ ap (λ (n : ℕ). skip_bytes n now.header_register (held now.input ++ more)) zero_left
    ∙ skip_none now.header_register (held now.input ++ more)
