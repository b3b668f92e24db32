use Rattle.std.proofs.Common.{◌≡◌, ℕ, ◌-◌, suc, List, [], ◌++◌, Err, refl, sym, ◌∙◌, ap, arith}
use Rattle.gzip_reader.specs.BitFields.{number_at}
use Rattle.gzip_reader.specs.Bits.{bits_left, held}
use Rattle.gzip_reader.specs.Places.{place_of}
use Rattle.gzip_reader.specs.Rest.{rest_of}
use Rattle.gzip_reader.specs.declared.decoder.Phase.TheVariants.{Extra, Name}
use Rattle.gzip_reader.specs.declared.fault.Flaw.{Flaw}
use Rattle.gzip_reader.specs.declared.fault.Flaw.TheVariants.{Truncated}
use Rattle.gzip_reader.proofs.HeaderLaws.{ends_here, header_flaw, header_step, extra_none, extra_flaw, extra_on}
use Rattle.gzip_reader.proofs.decoder.Decoder.extra.Goals as goal

pub returns-then-left-eq0-clause-advances : goal.returns-then-left-eq0-clause-advances
returns-then-left-eq0-clause-advances c more none =
    let bits : List ℕ = held c.args.self.now.input ++ more in
    header_step c.args.self.now c.args.self.now (Extra c.args.left) Name more c.args.self.now.header_register (record { output = refl; flags = refl; register = refl; count = refl; is_last = refl; literals = refl; distances = refl; is_fixed = refl; end = refl }) refl
    (ap (λ (n : ℕ). rest_of (place_of c.args.self.now) (Extra n) bits) c.if-left-eq0.true ∙ extra_none (place_of c.args.self.now) bits)

pub returns-in-Err-clause-advances : goal.returns-in-Err-clause-advances
returns-in-Err-clause-advances c more none =
    let bits : List ℕ = held c.args.self.now.input ++ more in
    let flaw : c.in-Err.flaw ≡ Truncated = let e = c.in-Err.ensures.short.0 in cc in
    let last : more ≡ [] = ends_here c.args.self.now.input.is_at_end (bits_left c.args.self.now.input) 8 more none (λ e. omega (arith, c.has.ensures c.if-not-has.false e)) c.in-Err.ensures.short.1 in
    let one : c.args.left ≡ suc (c.args.left - 1) = omega (arith, c.if-left-eq0.false) in
    header_flaw c.args.self.now c.header_byte.new.self (Extra c.args.left) more c.in-Err.flaw c.header_byte.ensures.same.output
    (ap (λ (n : ℕ). rest_of (place_of c.args.self.now) (Extra n) bits) one ∙ extra_flaw (place_of c.args.self.now) bits (c.args.left - 1) c.in-Err.flaw
    (ap (λ (l : List ℕ). number_at 8 (held c.args.self.now.input ++ l)) last ∙ c.in-Err.ensures.short.2 ∙ ap (λ (f : Flaw). Err f) (sym flaw)))

pub returns-in-Ok-clause-advances : goal.returns-in-Ok-clause-advances
returns-in-Ok-clause-advances c more none =
    let bits : List ℕ = held c.args.self.now.input ++ more in
    let one : c.args.left ≡ suc (c.args.left - 1) = omega (arith, c.if-left-eq0.false) in
    header_step c.args.self.now c.header_byte.new.self (Extra c.args.left) (Extra (c.args.left - 1)) more _ c.header_byte.ensures.same c.in-Ok.ensures.register
    (ap (λ (n : ℕ). rest_of (place_of c.args.self.now) (Extra n) bits) one ∙ extra_on (place_of c.args.self.now) bits (c.args.left - 1) _ (held c.header_byte.new.self.input ++ more) (c.in-Ok.ensures.byte.1 more))
