use Rattle.std.proofs.Common.{◌∙◌}
use Rattle.chunked_map.specs.ChunkedMaps.{routes_of}
use Rattle.bgp_prefix.proofs.SortedMaps.{len_of_sorted}
use Rattle.chunked_map.proofs.chunked_map.ChunkedMapPrefixMap.len.Goals as goal

pub returns : goal.returns
returns g c =
    let es = routes_of (λ r. r) c.self.inside.branches.nodes.items in
    rw (← c.self.view_is) (c.self.invariant.count ∙ len_of_sorted es c.self.invariant.branches.sorted)
