use Rattle.std.proofs.Common.{◌≡◌, ◌%◌, [], ◌∷◌, false, ap, sym, ◌∙◌, arith}
use Rattle.std.specs.Fmt.{digit_glyph}
use Rattle.std.proofs.lemmas.Fmt.{hex_one_digit, hex_two_digits}
use Rattle.ip_text.proofs.hexadecimal.hex_text.Goals as goal

pub returns-then-byte-lt16 : goal.returns-then-byte-lt16
returns-then-byte-lt16 c =
    let same : c.args.byte % 16 ≡ c.args.byte = omega arith in
    record {
      shortest = ap (λ d. d ∷ []) c.hexadecimal_digit-low.ensures ∙ ap (λ d. digit_glyph false d ∷ []) same ∙ sym (hex_one_digit false c.args.byte (omega arith));
      padded = cc;
      few = omega arith;
    }

pub returns : goal.returns
returns c = record {
  shortest = cc (hex_two_digits false c.args.byte (omega arith) (omega arith));
  padded = cc;
  few = omega arith;
}
