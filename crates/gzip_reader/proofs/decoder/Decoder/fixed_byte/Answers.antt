use Rattle.std.proofs.Common.{ℕ, ◌++◌, Ok, sym, ◌∙◌, ap}
use Rattle.gzip_reader.specs.Bits.{bits_left, held}
use Rattle.gzip_reader.proofs.HeaderLaws.{ends_here}
use Rattle.gzip_reader.proofs.DynamicLaws.{number_short}
use Rattle.gzip_reader.proofs.StartLaws.{fixed_right, fixed_short, fixed_wrong}
use Rattle.gzip_reader.proofs.decoder.Decoder.fixed_byte.Goals as goal

pub returns-in-Err-clause-field : goal.returns-in-Err-clause-field
returns-in-Err-clause-field c more none enough =
    fixed_short c.args.value c.args.self.now.header_register c.args.flaw c.in-Err.short (held c.args.self.now.input ++ more)
    (number_short c.args.self.now.input 8 more c.in-Err.short c.in-Err.ensures.short.0 c.in-Err.ensures.short.2
    (ends_here c.args.self.now.input.is_at_end (bits_left c.args.self.now.input) 8 more none enough c.in-Err.ensures.short.1))

pub returns-in-Ok-clause-field : goal.returns-in-Ok-clause-field
returns-in-Ok-clause-field c more none enough =
    fixed_right c.args.value c.in-Ok.byte c.args.self.now.header_register c.args.flaw (held c.args.self.now.input ++ more) (held c.header_byte.new.self.input ++ more) (c.in-Ok.ensures.byte.1 more) c.if-byte-value.true
    ∙ ap (λ (r : ℕ). Ok (r, held c.header_byte.new.self.input ++ more)) (sym c.in-Ok.ensures.register)

pub returns-in-Ok-2-clause-field : goal.returns-in-Ok-2-clause-field
returns-in-Ok-2-clause-field c more none enough =
    fixed_wrong c.args.value c.in-Ok.byte c.args.self.now.header_register c.args.flaw (held c.args.self.now.input ++ more) (held c.header_byte.new.self.input ++ more) (c.in-Ok.ensures.byte.1 more) c.if-byte-value.false
