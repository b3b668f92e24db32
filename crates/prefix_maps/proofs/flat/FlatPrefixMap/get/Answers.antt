use Rattle.std.proofs.Common.{sym, ◌∙◌}
use Rattle.prefix_maps.proofs.MapLaws.{found}
use Rattle.prefix_maps.proofs.flat.FlatPrefixMap.get.Goals as goal

pub returns : goal.returns
returns g c = c.get.ensures ∙ sym (found c.args.self.now c.args.key.now)
