use Rattle.std.proofs.Common.{ℕ, ◌++◌, sym, ◌∙◌, ap, arith}
use Rattle.gzip_reader.specs.Bits.{bits_left, held}
use Rattle.gzip_reader.specs.Files.{skip_bytes}
use Rattle.gzip_reader.specs.declared.decoder.Decoder.{Decoder}
use Rattle.gzip_reader.proofs.HeaderLaws.{ends_here}
use Rattle.gzip_reader.proofs.DynamicLaws.{number_short}
use Rattle.gzip_reader.proofs.StartLaws.{fields_come, no_flags, no_others, no_reserved, reserved_flags, some_reserved}
use Rattle.gzip_reader.proofs.decoder.Decoder.header_flags.Goals as goal

pub returns-in-Err-clause-header : goal.returns-in-Err-clause-header
returns-in-Err-clause-header c more none enough =
    no_flags c.args.self.now.header_register (held c.args.self.now.input ++ more) c.in-Err.flaw
    (number_short c.args.self.now.input 8 more c.in-Err.flaw c.in-Err.ensures.short.0 c.in-Err.ensures.short.2
    (ends_here c.args.self.now.input.is_at_end (bits_left c.args.self.now.input) 8 more none (λ e. omega (arith, enough e)) c.in-Err.ensures.short.1))

pub returns-in-Ok-clause-header : goal.returns-in-Ok-clause-header
returns-in-Ok-clause-header c more none enough =
    reserved_flags c.args.self.now.header_register (held c.args.self.now.input ++ more) c.in-Ok.flags (held c.header_byte.new.self.input ++ more) (c.in-Ok.ensures.byte.1 more)
    (some_reserved c.in-Ok.flags c.in-Ok.ensures.byte.0 c.if-flags-ne0.true)

pub returns-in-Err-skip_bytes-clause-header : goal.returns-in-Err-skip_bytes-clause-header
returns-in-Err-skip_bytes-clause-header c more none enough =
    let mid : Decoder = c.header_byte.new.self in
    no_others c.args.self.now.header_register (held c.args.self.now.input ++ more) c.in-Ok.flags (held mid.input ++ more) c.in-Err-skip_bytes.flaw (c.in-Ok.ensures.byte.1 more)
    (no_reserved c.in-Ok.flags c.in-Ok.ensures.byte.0 c.if-flags-ne0.false)
    (ap (λ (r : ℕ). skip_bytes 6 r (held mid.input ++ more)) (sym c.in-Ok.ensures.register)
    ∙ c.in-Err-skip_bytes.ensures.field more (λ e. none (sym c.header_byte.ensures.same.end ∙ e)) (λ e. omega (arith, enough (sym c.header_byte.ensures.same.end ∙ e), c.header_byte.ensures.left)))

pub returns-in-Ok-skip_bytes-clause-header : goal.returns-in-Ok-skip_bytes-clause-header
returns-in-Ok-skip_bytes-clause-header c more none enough =
    let mid : Decoder = c.header_byte.new.self in
    fields_come c.args.self.now.header_register (held c.args.self.now.input ++ more) c.in-Ok.flags c.skip_bytes.new.self.header_register (held mid.input ++ more) (held c.skip_bytes.new.self.input ++ more) (c.in-Ok.ensures.byte.1 more)
    (no_reserved c.in-Ok.flags c.in-Ok.ensures.byte.0 c.if-flags-ne0.false)
    (ap (λ (r : ℕ). skip_bytes 6 r (held mid.input ++ more)) (sym c.in-Ok.ensures.register)
    ∙ c.in-Ok-skip_bytes.ensures.field more (λ e. none (sym c.header_byte.ensures.same.end ∙ e)) (λ e. omega (arith, enough (sym c.header_byte.ensures.same.end ∙ e), c.header_byte.ensures.left)))
