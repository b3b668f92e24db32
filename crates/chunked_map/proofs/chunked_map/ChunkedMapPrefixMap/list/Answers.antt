use Rattle.std.proofs.Common.{◌≡◌, arith, length}
use Rattle.std.specs.FinMap as finite
use Rattle.bgp_prefix.specs.Keys.{key_cmp}
use Rattle.bgp_prefix.proofs.SortedMaps.{entries_of_sorted, len_of_sorted}
use Rattle.chunked_map.specs.ChunkedMaps.{routes_of}
use Rattle.chunked_map.proofs.chunked_map.ChunkedMapPrefixMap.list.Goals as goal

pub list-requires : goal.list-requires
list-requires g c =
    let es = routes_of (λ r. r) c.self.inside.branches.nodes.items in
    let count : length es ≡ finite.len (finite.from_entries {R = key_cmp} c.args.self.now) = rw (← c.self.view_is) (len_of_sorted es c.self.invariant.branches.sorted) in
    omega (arith, c.requires, count)

pub returns-clause-entries : goal.returns-clause-entries
returns-clause-entries g c =
    let es = routes_of (λ r. r) c.self.inside.branches.nodes.items in
    rw (← c.self.view_is, entries_of_sorted es c.self.invariant.branches.sorted) c.list.ensures.entries

pub returns-clause-len : goal.returns-clause-len
returns-clause-len g c =
    let es = routes_of (λ r. r) c.self.inside.branches.nodes.items in
    rw (← c.self.view_is, ← len_of_sorted es c.self.invariant.branches.sorted) c.list.ensures.len
