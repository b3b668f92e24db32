use Rattle.std.proofs.Common.{ℕ, ◌++◌, List, sym, ◌∙◌, ap, arith}
use Rattle.gzip_reader.specs.Bits.{held}
use Rattle.gzip_reader.specs.Files.{fixed_byte}
use Rattle.gzip_reader.specs.declared.decoder.Decoder.{Decoder}
use Rattle.gzip_reader.specs.declared.fault.Flaw.TheVariants.{Magic}
use Rattle.gzip_reader.proofs.StartLaws.{method_taken, no_first, no_second}
use Rattle.gzip_reader.proofs.decoder.Decoder.method.Goals as goal

pub returns-in-Err-clause-header : goal.returns-in-Err-clause-header
returns-in-Err-clause-header c more none enough =
    let bits : List ℕ = held c.args.self.now.input ++ more in
    no_first bits c.in-Err.flaw (ap (λ (r : ℕ). fixed_byte 0x1f Magic r bits) (sym c.requires) ∙ c.in-Err.ensures.field more none (λ e. omega (arith, enough e)))

pub returns-in-Err-fixed_byte-clause-header : goal.returns-in-Err-fixed_byte-clause-header
returns-in-Err-fixed_byte-clause-header c more none enough =
    let bits : List ℕ = held c.args.self.now.input ++ more in
    let mid : Decoder = c.fixed_byte.new.self in
    no_second bits mid.header_register (held mid.input ++ more) c.in-Err-fixed_byte.flaw
    (ap (λ (r : ℕ). fixed_byte 0x1f Magic r bits) (sym c.requires) ∙ c.in-Ok.ensures.field more none (λ e. omega (arith, enough e)))
    (c.in-Err-fixed_byte.ensures.field more (λ e. none (sym c.fixed_byte.ensures.same.end ∙ e)) (λ e. omega (arith, enough (sym c.fixed_byte.ensures.same.end ∙ e), c.fixed_byte.ensures.left)))

pub returns-in-Ok-fixed_byte-clause-header : goal.returns-in-Ok-fixed_byte-clause-header
returns-in-Ok-fixed_byte-clause-header c more none enough =
    let bits : List ℕ = held c.args.self.now.input ++ more in
    let one : Decoder = c.fixed_byte.new.self in
    let two : Decoder = c.fixed_byte-in-Ok.new.self in
    let same = c.fixed_byte-in-Ok.ensures.same.end ∙ c.fixed_byte.ensures.same.end in
    method_taken bits one.header_register two.header_register (held one.input ++ more) (held two.input ++ more) more c.fixed_byte-in-Ok-fixed_byte.new.self c.fixed_byte-in-Ok-fixed_byte.result
    (ap (λ (r : ℕ). fixed_byte 0x1f Magic r bits) (sym c.requires) ∙ c.in-Ok.ensures.field more none (λ e. omega (arith, enough e)))
    (c.in-Ok-fixed_byte.ensures.field more (λ e. none (sym c.fixed_byte.ensures.same.end ∙ e)) (λ e. omega (arith, enough (sym c.fixed_byte.ensures.same.end ∙ e), c.fixed_byte.ensures.left)))
    (c.fixed_byte-in-Ok-fixed_byte.ensures.field more (λ e. none (sym same ∙ e)) (λ e. omega (arith, enough (sym same ∙ e), c.fixed_byte.ensures.left, c.fixed_byte-in-Ok.ensures.left)))
