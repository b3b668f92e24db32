use Rattle.std.proofs.Common.{arith, T}
use Rattle.std.specs.FinMap.{is_sorted}
use Rattle.bgp_prefix.specs.Keys.{key_cmp}
use Rattle.bgp_prefix.proofs.SortedMaps.{entries_of_sorted, len_of_sorted}
use Rattle.prefix_maps.proofs.flat.FlatPrefixMap.list.Goals as goal

pub append_to-requires : goal.append_to-requires
append_to-requires g c =
    let sorted : T (is_sorted key_cmp c.args.self.now) = rw (← c.self.view_is) c.self.invariant.sorted in
    omega (arith, c.requires, len_of_sorted c.args.self.now sorted)

pub returns-clause-entries : goal.returns-clause-entries
returns-clause-entries g c =
    let sorted : T (is_sorted key_cmp c.args.self.now) = rw (← c.self.view_is) c.self.invariant.sorted in
    rw (entries_of_sorted c.args.self.now sorted) c.append_to.ensures.entries

pub returns-clause-len : goal.returns-clause-len
returns-clause-len g c =
    let sorted : T (is_sorted key_cmp c.args.self.now) = rw (← c.self.view_is) c.self.invariant.sorted in
    rw (← len_of_sorted c.args.self.now sorted) c.append_to.ensures.len
