use Rattle.bgp_prefix.proofs.SortedMaps.{paths_of_sorted}
use Rattle.prefix_maps.proofs.flat.FlatPrefixMap.paths.Goals as goal

pub returns : goal.returns
returns g c = rw (← paths_of_sorted c.args.self.now c.paths.ensures.sorted c.args.prefix.now) c.paths.ensures.paths
