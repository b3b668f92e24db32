use Rattle.std.proofs.Common.{subst}
use Rattle.command_line.specs.Choices.{SpellsPrefix}
use Rattle.command_line.proofs.Marks.{prefix_ends}
use Rattle.command_line.proofs.choice.read_reach.Goals as goal
use Rattle.command_line.specs.Families.{SpellsIn}

pub returns-in_err-prefix-clause-none : goal.returns-in_err-prefix-clause-none
returns-in_err-prefix-clause-none g c = rw c.from_residual.ensures (λ p reach s.
    let laws = c.texts_spell_one_address.ensures in
    let same = c.split_reach-reach.ensures.only s.front reach (prefix_ends (SpellsIn g.F.AddressText.FAMILY) g.F.Family.WIDTH laws.plain s.front p s.spelled) s.written in
    c.in_err-prefix.ensures.none p (subst (λ text. SpellsPrefix (SpellsIn g.F.AddressText.FAMILY) g.F.Family.WIDTH text p) same.0 s.spelled))
