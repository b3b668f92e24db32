use Rattle.std.proofs.Common.{◌≡◌, ◌∙◌, false, sym, subst, List, ℕ}
use Rattle.command_line.specs.Choices.{IsNoChoice}
use Rattle.command_line.specs.Lists.{is_passed, trimmed}
use Rattle.command_line.proofs.list.take_line.Goals as goal
use Rattle.command_line.specs.Families.{SpellsIn}

pub returns-in-None-clause-refused : goal.returns-in-None-clause-refused
returns-in-None-clause-refused g c _ =
    let text : c.trimmed-text.result.now ≡ trimmed c.args.line.now = c.trimmed-text.ensures in
    (subst (λ (l : List ℕ). is_passed l ≡ false) text (sym c.is_passed.ensures ∙ c.if-is_passed.false), subst (IsNoChoice (SpellsIn g.F.AddressText.FAMILY) g.F.Family.WIDTH) text c.in-None.ensures.none)
