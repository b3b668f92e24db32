use Rattle.command_line.proofs.Spelled.{one_prefix, one_choice}
use Rattle.command_line.proofs.laws.one_prefix_to_a_text.Goals as goal
use Rattle.command_line.specs.Families.{SpellsIn}

pub returns-clause-prefix : goal.returns-clause-prefix
returns-clause-prefix g c =
    let laws = c.texts_spell_one_address.ensures in
    one_prefix (SpellsIn g.F.AddressText.FAMILY) g.F.Family.WIDTH laws.one laws.plain

pub returns-clause-reach : goal.returns-clause-reach
returns-clause-reach g c =
    let laws = c.texts_spell_one_address.ensures in
    one_choice (SpellsIn g.F.AddressText.FAMILY) g.F.Family.WIDTH laws.one laws.plain
