use Rattle.prefix_maps.specs.Tries.{routes}
use Rattle.prefix_maps.proofs.OrderLaws.{routes_sorted}
use Rattle.bgp_prefix.proofs.SortedMaps.{entries_of_sorted}
use Rattle.prefix_maps.proofs.radix.RadixPrefixMap.paths.Goals as goal

pub returns : goal.returns
returns g c =
    let root = c.self.inside.root in
    rw (← c.self.view_is, entries_of_sorted (routes root) (routes_sorted root c.self.invariant.0)) c.paths.ensures
