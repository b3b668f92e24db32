use Rattle.std.proofs.Common.{◌∙◌}
use Rattle.bgp_prefix.proofs.SortedMaps.{len_of_sorted}
use Rattle.prefix_maps.proofs.flat.FlatPrefixMap.len.Goals as goal

pub returns : goal.returns
returns g c = c.len.ensures.len ∙ len_of_sorted c.args.self.now c.len.ensures.sorted
