use Rattle.bgp_update.proofs.SoundFields.{holds_none}
use Rattle.bgp_update.proofs.sound_values.SoundValues.new.Goals as goal

pub returns-clause-none : goal.returns-clause-none
returns-clause-none c = λ errors rules context width. holds_none errors rules context width c.new.result c.new-2.result c.new.ensures.values c.new-2.ensures.values
