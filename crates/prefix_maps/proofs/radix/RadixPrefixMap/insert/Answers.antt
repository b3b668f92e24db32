use Rattle.std.proofs.Common.{sym, ◌∙◌, arith}
use Rattle.prefix_maps.specs.Tries.{routes}
use Rattle.prefix_maps.proofs.MapLaws.{found, inserted}
use Rattle.prefix_maps.proofs.OrderLaws.{routes_sorted}
use Rattle.prefix_maps.proofs.RadixLaws.{length_added, length_replaced}
use Rattle.prefix_maps.proofs.radix.RadixPrefixMap.insert.Goals as goal
use Rattle.prefix_maps.proofs.radix.RadixPrefixMap.insert.Goals.{then-is_none, else-is_none}

pub invariant_of-self-then-is_none : goal.invariant_of-self-then-is_none
invariant_of-self-then-is_none g c =
    let root = c.self.inside.root in
    let is = c.in_ok-insert.ensures.ok in
    let length = length_added (routes root) (routes c.insert.new.self) c.args.key.now (routes_sorted root c.self.invariant.0) (routes_sorted c.insert.new.self is.trie) c.insert.new.slot c.in_ok-insert.ensures.before c.args.value is.changes c.if-is_none.ensures in
    (is.trie, omega (arith, length, c.self.invariant.1, c.in-Some.ensures))

pub invariant_of-self-else-is_none : goal.invariant_of-self-else-is_none
invariant_of-self-else-is_none g c =
    let root = c.self.inside.root in
    let is = c.in_ok-insert.ensures.ok in
    let length = length_replaced (routes root) (routes c.insert.new.self) c.args.key.now (routes_sorted root c.self.invariant.0) (routes_sorted c.insert.new.self is.trie) c.insert.new.slot c.in_ok-insert.ensures.before c.args.value is.changes c.if-is_none.ensures in
    (is.trie, omega (arith, length, c.self.invariant.1))

pub returns-clause-before : goal.returns-clause-before
returns-clause-before g c = rw (← c.self.view_is) (c.in_ok-insert.ensures.before ∙ sym (found (routes c.self.inside.root) c.args.key.now))

pub returns-clause-ok : goal.returns-clause-ok
returns-clause-ok g c =
    let is = inserted (routes c.self.inside.root) (routes c.insert.new.self) c.args.key.now c.args.value c.in_ok-insert.ensures.ok.changes in
    elim c.if-is_none.branch [
      | then-is_none w ↦ rw (w.self-is, ← c.self.view_is) is
      | else-is_none w ↦ rw (w.self-is, ← c.self.view_is) is
    ]
