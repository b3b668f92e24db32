use Rattle.std.proofs.Common.{sym, ◌∙◌, rules}
use Rattle.chunked_map.specs.ChunkedMaps.{routes_of}
use Rattle.chunked_map.proofs.MapInvariant.{map_without}
use Rattle.prefix_maps.proofs.MapLaws.{found, removed, Changes-without}
use Rattle.chunked_map.proofs.chunked_map.ChunkedMapPrefixMap.remove.Goals as goal

pub invariant_of-self : goal.invariant_of-self
invariant_of-self g c =
    let e = c.remove-before.ensures in
    map_without _ _ _ _ _ _ _ c.self.invariant e.nodes c.args.key.now _ _ e.before _ (sym c.is_some.ensures) e.removed (search rules)

pub returns-clause-before : goal.returns-clause-before
returns-clause-before g c = rw (← c.self.view_is) (c.remove-before.ensures.before ∙ sym (found (routes_of (λ r. r) c.self.inside.branches.nodes.items) c.args.key.now))

pub returns-clause-removed : goal.returns-clause-removed
returns-clause-removed g c =
    rw (← c.self.view_is) (removed _ _ c.args.key.now (Changes-without _ _ c.args.key.now c.remove-before.ensures.removed))
