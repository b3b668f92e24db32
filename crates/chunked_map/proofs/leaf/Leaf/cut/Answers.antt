use Rattle.std.proofs.Common.{◌∙◌, ap, take, drop, arith}
use Rattle.chunked_map.proofs.LeafLaws.{sized, routes_take, routes_drop, arrays_drop}
use Rattle.chunked_map.proofs.leaf.Leaf.cut.Goals as goal

pub copied_from-requires : goal.copied_from-requires
copied_from-requires g c = omega (arith, c.requires, sized _ _ _ _ c.self.invariant c.self.view_is)

pub split_off-requires : goal.split_off-requires
split_off-requires g c = omega (arith, c.requires, c.self.invariant.values, sized _ _ _ _ c.self.invariant c.self.view_is)

pub invariant_of-result : goal.invariant_of-result
invariant_of-result g c =
    let a = c.self.inside in
    rw (c.in_ok-keys.ensures, c.in_ok-ids.ensures, c.in_ok-values.ensures.tail) (arrays_drop 64 a.keys.items a.ids.items a.values.items c.self.invariant)

pub returns-clause-low : goal.returns-clause-low
returns-clause-low g c =
    let a = c.self.inside in
    rw (c.shrink_to.ensures.items, c.shrink_to-2.ensures.items, c.shrink_to-3.ensures.items, c.truncate.ensures.items, c.truncate-2.ensures.items, c.in_ok-values.ensures.items) (routes_take 64 a.keys.items a.ids.items a.values.items ∙ ap (take 64) c.self.view_is)

pub returns-clause-high : goal.returns-clause-high
returns-clause-high g c =
    let a = c.self.inside in
    rw (c.in_ok-keys.ensures, c.in_ok-ids.ensures, c.in_ok-values.ensures.tail) (routes_drop 64 a.keys.items a.ids.items a.values.items ∙ ap (drop 64) c.self.view_is)
