use Rattle.std.proofs.Common.{ℕ, ◌++◌, sym, ◌∙◌, ap, arith}
use Rattle.gzip_reader.specs.Bits.{held}
use Rattle.gzip_reader.specs.Files.{flagged_fields}
use Rattle.gzip_reader.specs.declared.bit_reader.BitReader.{BitReader}
use Rattle.gzip_reader.specs.declared.decoder.Decoder.{Decoder}
use Rattle.gzip_reader.specs.declared.output.Output.{Output}
use Rattle.gzip_reader.proofs.HeaderLaws.{same_decoded}
use Rattle.gzip_reader.proofs.StartLaws.{kept_decoded, starts, starts_not}
use Rattle.gzip_reader.proofs.decoder.Decoder.start_member.Goals as goal

pub returns-in-Err-clause-advances : goal.returns-in-Err-clause-advances
returns-in-Err-clause-advances c more none =
    starts_not c.args.self.now c.method.new.self c.in-Err.flaw more
    (c.in-Err.ensures.header more none (λ e. omega (arith, c.has.ensures c.if-not-has.false e)))
    (same_decoded c.args.self.now.output c.method.new.self.output c.method.ensures.same.output)

pub returns-in-Err-header_flags-clause-advances : goal.returns-in-Err-header_flags-clause-advances
returns-in-Err-header_flags-clause-advances c more none =
    let end = c.method.ensures.same.end in
    starts_not c.args.self.now c.header_flags.new.self c.in-Err-header_flags.flaw more
    (c.in-Ok.ensures.header more none (λ e. omega (arith, c.has.ensures c.if-not-has.false e))
    ∙ c.in-Err-header_flags.ensures.header more (λ e. none (sym end ∙ e)) (λ e. omega (arith, c.has.ensures c.if-not-has.false (sym end ∙ e), c.method.ensures.left)))
    (same_decoded c.args.self.now.output c.header_flags.new.self.output (c.header_flags.ensures.same.output ∙ c.method.ensures.same.output))

pub returns-in-Ok-header_flags-clause-advances : goal.returns-in-Ok-header_flags-clause-advances
returns-in-Ok-header_flags-clause-advances c more none =
    let end = c.method.ensures.same.end in
    let mid : Decoder = c.header_flags.new.self in
    let new : Decoder = c.start_data.new.self in
    let flags : ℕ = c.in-Ok-header_flags.flags in
    let same = c.header_flags.ensures.same.output ∙ c.method.ensures.same.output in
    starts c.args.self.now new flags more
    (c.in-Ok.ensures.header more none (λ e. omega (arith, c.has.ensures c.if-not-has.false e))
    ∙ c.in-Ok-header_flags.ensures.header more (λ e. none (sym end ∙ e)) (λ e. omega (arith, c.has.ensures c.if-not-has.false (sym end ∙ e), c.method.ensures.left))
    ∙ ap (λ (r : ℕ). flagged_fields flags r (held mid.input ++ more)) (sym c.start_data.ensures.same.1)
    ∙ ap (λ (i : BitReader). flagged_fields flags new.header_register (held i ++ more)) (sym c.start_data.ensures.same.0))
    c.start_data.ensures.flags
    (kept_decoded c.args.self.now.output new.output (c.start_data.ensures.output.0 ∙ ap (λ (o : Output). o.bytes) same) (c.start_data.ensures.output.1 ∙ ap (λ (o : Output). o.filled) same))
