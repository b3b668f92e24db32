use Rattle.std.proofs.Common.{sym, ◌∙◌}
use Rattle.prefix_maps.proofs.MapLaws.{found, removed, Changes-without}
use Rattle.prefix_maps.proofs.flat.FlatPrefixMap.remove.Goals as goal

pub returns-clause-before : goal.returns-clause-before
returns-clause-before g c = c.remove.ensures.before ∙ sym (found c.args.self.now c.args.key.now)

pub returns-clause-removed : goal.returns-clause-removed
returns-clause-removed g c = removed c.args.self.now c.remove.new.self c.args.key.now (Changes-without c.args.self.now c.remove.new.self c.args.key.now c.remove.ensures.removed)
