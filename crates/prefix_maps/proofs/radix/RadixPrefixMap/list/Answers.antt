use Rattle.std.proofs.Common.{◌≡◌, arith, length}
use Rattle.std.specs.FinMap as finite
use Rattle.bgp_prefix.specs.Keys.{key_cmp}
use Rattle.prefix_maps.specs.Tries.{routes}
use Rattle.prefix_maps.proofs.OrderLaws.{routes_sorted}
use Rattle.bgp_prefix.proofs.SortedMaps.{entries_of_sorted, len_of_sorted}
use Rattle.prefix_maps.proofs.radix.RadixPrefixMap.list.Goals as goal

pub list-requires : goal.list-requires
list-requires g c =
    let root = c.self.inside.root in
    let count : length (routes root) ≡ finite.len (finite.from_entries {R = key_cmp} c.args.self.now) = rw (← c.self.view_is) (len_of_sorted (routes root) (routes_sorted root c.self.invariant.0)) in
    omega (arith, c.requires, count)

pub returns-clause-entries : goal.returns-clause-entries
returns-clause-entries g c =
    let root = c.self.inside.root in
    rw (← c.self.view_is, entries_of_sorted (routes root) (routes_sorted root c.self.invariant.0)) c.list.ensures.entries

pub returns-clause-len : goal.returns-clause-len
returns-clause-len g c =
    let root = c.self.inside.root in
    rw (← c.self.view_is, ← len_of_sorted (routes root) (routes_sorted root c.self.invariant.0)) c.list.ensures.len
