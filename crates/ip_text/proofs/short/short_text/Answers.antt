use Rattle.std.proofs.Common.{sym, ap, ◌∙◌, [], ◌∷◌, get_or, arith}
use Rattle.ip_text.proofs.ShortNumbers.{decimal_ones, decimal_tens, decimal_hundreds}
use Rattle.ip_text.proofs.short.short_text.Goals as goal

pub returns-then-number-lt10 : goal.returns-then-number-lt10
returns-then-number-lt10 c = record {
  padded = c.three_digits-digits.ensures;
  shortest = ap (λ l. get_or l 2 0 ∷ []) c.three_digits-digits.ensures ∙ sym (decimal_ones c.args.number c.if-number-lt10.true);
  few = omega arith;
}

pub returns-then-number-lt100 : goal.returns-then-number-lt100
returns-then-number-lt100 c = record {
  padded = c.three_digits-digits.ensures;
  shortest = ap (λ l. get_or l 1 0 ∷ get_or l 2 0 ∷ []) c.three_digits-digits.ensures ∙ sym (decimal_tens c.args.number c.if-number-lt10.false c.if-number-lt100.true);
  few = omega arith;
}

pub returns : goal.returns
returns c = record {
  padded = c.three_digits-digits.ensures;
  shortest = ap (λ l. get_or l 0 0 ∷ get_or l 1 0 ∷ get_or l 2 0 ∷ []) c.three_digits-digits.ensures ∙ sym (decimal_hundreds c.args.number c.if-number-lt100.false c.requires);
  few = omega arith;
}
