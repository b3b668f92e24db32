use Rattle.std.proofs.Common.{◌∙◌, sym, refl, false}
use Rattle.bgp_prefix.proofs.SortedMaps.{less_of}
use Rattle.chunked_map.specs.ChunkedMaps.{routes_of}
use Rattle.chunked_map.proofs.KeyedLists.{less_other, same_other, find_below, put_last, below_bound, below_past}
use Rattle.chunked_map.proofs.MapInvariant.{map_kept, map_put}
use Rattle.chunked_map.proofs.chunked_map.ChunkedMap.push_within_capacity.Goals as goal

pub push_within_capacity-requires-clause-last : goal.push_within_capacity-requires-clause-last
push_within_capacity-requires-clause-last g c =
    below_bound c.self.inside.bound c.args.key.now _ (sym c.if-not-precedes.ensures) c.self.invariant.bound

pub invariant_of-self : goal.invariant_of-self
invariant_of-self g c = map_kept _ _ _ _ _ _ _ c.self.invariant c.in-Err.ensures.nodes c.in-Err.ensures.err

pub invariant_of-self-2 : goal.invariant_of-self-2
invariant_of-self-2 g c =
    let old = routes_of (λ r. r) c.self.inside.branches.nodes.items in
    let key = c.args.key.now in
    let below = below_bound c.self.inside.bound key old (sym c.if-not-precedes.ensures) c.self.invariant.bound in
    map_put _ _ _ _ _ _ _ c.self.invariant c.in_default.ensures.nodes key _ _ (sym (find_below key old below)) false refl c.args.value key (c.in_default.ensures.ok ∙ sym (put_last key c.args.value old below)) refl (same_other key)
    (λ k other. less_other k key (below_past k c.self.inside.bound key other (less_of _ (sym c.if-not-precedes.ensures)))) c.requires.short

pub returns-clause-absent : goal.returns-clause-absent
returns-clause-absent g c =
    let old = routes_of (λ r. r) c.self.inside.branches.nodes.items in
    let key = c.args.key.now in
    let below = below_bound c.self.inside.bound key old (sym c.if-not-precedes.ensures) c.self.invariant.bound in
    rw (← c.self.view_is) (find_below key old below)

pub returns-clause-ok : goal.returns-clause-ok
returns-clause-ok g c =
    let old = routes_of (λ r. r) c.self.inside.branches.nodes.items in
    let key = c.args.key.now in
    let below = below_bound c.self.inside.bound key old (sym c.if-not-precedes.ensures) c.self.invariant.bound in
    rw (← c.self.view_is) (c.in_default.ensures.ok ∙ sym (put_last key c.args.value old below))
