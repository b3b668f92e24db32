use Rattle.std.proofs.Common.{sym, ◌∙◌}
use Rattle.prefix_maps.specs.Tries.{routes}
use Rattle.prefix_maps.proofs.MapLaws.{found}
use Rattle.prefix_maps.proofs.radix.RadixPrefixMap.get.Goals as goal

pub returns : goal.returns
returns g c = rw (← c.self.view_is) (c.get.ensures ∙ sym (found (routes c.self.inside.root) c.args.key.now))
