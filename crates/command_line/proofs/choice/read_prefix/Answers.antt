use Rattle.std.proofs.Common.{◌+◌, ◌∷◌, ◌++◌, take, sym, ap, ◌∙◌}
use Rattle.command_line.proofs.Points.{to_the_end}
use Rattle.command_line.proofs.Slashes.{cut_at_slash}
use Rattle.command_line.proofs.Spelled.{some_spelled, some_alone, none_spelled, none_without_slash}
use Rattle.command_line.proofs.choice.read_prefix.Goals as goal
use Rattle.command_line.specs.Families.{SpellsIn}

pub returns-in-Some-clause-some : goal.returns-in-Some-clause-some
returns-in-Some-clause-some g c =
    let laws = c.texts_spell_one_address.ensures in
    some_spelled (SpellsIn g.F.AddressText.FAMILY) g.F.Family.WIDTH laws.one laws.plain c.sized_prefix.result c.args.text.now _ _ (cut_at_slash c.args.text.now c.in-Some.slash (sym c.in-Some.ensures) ∙ ap (λ l. take c.in-Some.slash c.args.text.now ++ 47 ∷ l) (sym (to_the_end (c.in-Some.slash + 1) c.args.text.now))) c.sized_prefix.ensures.some

pub returns-in-Some-clause-none : goal.returns-in-Some-clause-none
returns-in-Some-clause-none g c =
    let laws = c.texts_spell_one_address.ensures in
    none_spelled (SpellsIn g.F.AddressText.FAMILY) g.F.Family.WIDTH laws.one laws.plain c.sized_prefix.result c.args.text.now _ c.in-Some.slash (sym c.in-Some.ensures) (to_the_end (c.in-Some.slash + 1) c.args.text.now) c.sized_prefix.ensures.none

pub returns-in-None-clause-some : goal.returns-in-None-clause-some
returns-in-None-clause-some g c =
    let laws = c.texts_spell_one_address.ensures in
    some_alone (SpellsIn g.F.AddressText.FAMILY) g.F.Family.WIDTH laws.one laws.plain c.host_prefix.result c.args.text.now c.host_prefix.ensures.some

pub returns-in-None-clause-none : goal.returns-in-None-clause-none
returns-in-None-clause-none g c =
    let laws = c.texts_spell_one_address.ensures in
    none_without_slash (SpellsIn g.F.AddressText.FAMILY) g.F.Family.WIDTH laws.one laws.plain c.host_prefix.result c.args.text.now (sym c.in-None.ensures) c.host_prefix.ensures.none
