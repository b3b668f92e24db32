use Rattle.chunked_map.specs.ChunkedMaps.{routes_of}
use Rattle.bgp_prefix.proofs.SortedMaps.{entries_of_sorted}
use Rattle.chunked_map.proofs.chunked_map.ChunkedMapPrefixMap.paths.Goals as goal

pub returns : goal.returns
returns g c =
    let es = routes_of (λ r. r) c.self.inside.branches.nodes.items in
    rw (← c.self.view_is, entries_of_sorted es c.self.invariant.branches.sorted) (rw c.new-all.ensures.items at c.in_ok-paths.ensures)
