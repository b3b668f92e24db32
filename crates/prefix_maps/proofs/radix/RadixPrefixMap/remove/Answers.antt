use Rattle.std.proofs.Common.{sym, ◌∙◌, arith}
use Rattle.prefix_maps.specs.Tries.{routes}
use Rattle.prefix_maps.proofs.MapLaws.{found, removed}
use Rattle.prefix_maps.proofs.OrderLaws.{routes_sorted}
use Rattle.prefix_maps.proofs.RadixLaws.{length_taken, length_kept}
use Rattle.prefix_maps.proofs.radix.RadixPrefixMap.remove.Goals as goal

pub invariant_of-self : goal.invariant_of-self
invariant_of-self g c =
    let root = c.self.inside.root in
    let is = c.remove.ensures.removed in
    let length = length_taken (routes root) (routes c.remove.new.self) c.args.key.now (routes_sorted root c.self.invariant.0) (routes_sorted c.remove.new.self is.trie) c.remove.new.slot c.remove.ensures.before is.changes (sym c.if-is_some.ensures) in
    (is.trie, omega (arith, length, c.self.invariant.1))

pub invariant_of-self-else-is_some : goal.invariant_of-self-else-is_some
invariant_of-self-else-is_some g c =
    let root = c.self.inside.root in
    let is = c.remove.ensures.removed in
    let length = length_kept (routes root) (routes c.remove.new.self) c.args.key.now (routes_sorted root c.self.invariant.0) (routes_sorted c.remove.new.self is.trie) c.remove.new.slot c.remove.ensures.before is.changes (sym c.if-is_some.ensures) in
    (is.trie, omega (arith, length, c.self.invariant.1))

pub returns-then-is_some-clause-before : goal.returns-then-is_some-clause-before
returns-then-is_some-clause-before g c = rw (← c.self.view_is) (c.remove.ensures.before ∙ sym (found (routes c.self.inside.root) c.args.key.now))

pub returns-then-is_some-clause-removed : goal.returns-then-is_some-clause-removed
returns-then-is_some-clause-removed g c = rw (← c.self.view_is) (removed (routes c.self.inside.root) (routes c.remove.new.self) c.args.key.now c.remove.ensures.removed.changes)

pub returns-else-is_some-clause-before : goal.returns-else-is_some-clause-before
returns-else-is_some-clause-before g c = rw (← c.self.view_is) (c.remove.ensures.before ∙ sym (found (routes c.self.inside.root) c.args.key.now))

pub returns-else-is_some-clause-removed : goal.returns-else-is_some-clause-removed
returns-else-is_some-clause-removed g c = rw (← c.self.view_is) (removed (routes c.self.inside.root) (routes c.remove.new.self) c.args.key.now c.remove.ensures.removed.changes)
