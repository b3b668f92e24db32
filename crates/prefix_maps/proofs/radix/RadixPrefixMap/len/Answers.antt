use Rattle.std.proofs.Common.{◌∙◌}
use Rattle.prefix_maps.specs.Tries.{routes}
use Rattle.prefix_maps.proofs.OrderLaws.{routes_sorted}
use Rattle.bgp_prefix.proofs.SortedMaps.{len_of_sorted}
use Rattle.prefix_maps.proofs.radix.RadixPrefixMap.len.Goals as goal

pub returns : goal.returns
returns g c =
    let root = c.self.inside.root in
    rw (← c.self.view_is) (c.self.invariant.1 ∙ len_of_sorted (routes root) (routes_sorted root c.self.invariant.0))
