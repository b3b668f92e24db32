use Rattle.std.proofs.Common.{◌++◌, None, refl, sym, ◌∙◌, subst}
use Rattle.bgp_prefix.specs.Keys.{Changes}
use Rattle.prefix_maps.specs.Tries.{IsTrie, routes}
use Rattle.prefix_maps.specs.declared.radix.node.Branch.TheVariants.{Leaf, Fork}
use Rattle.prefix_maps.proofs.ForkLaws.{found_here, found_low, found_high, found_outside, left_here, left_low, left_high}
use Rattle.prefix_maps.proofs.TrieLaws.{fork_routes, Changes_low_half, Changes_high_half, outside_of_fork}
use Rattle.prefix_maps.proofs.RemoveLaws.{removed_by_prune, nothing_removed, without_changes, routes_without, own_without, under_without, removed_here, kept_leaf}
use Rattle.prefix_maps.proofs.radix.node.Branch.+remove.Goals as goal

-- in a leaf
pub prune-requires : goal.prune-requires
prune-requires g t c = rw c.remove_into.ensures.removed (routes_without c.args.key.now c.in-Leaf.leaf (subst IsTrie c.in-Leaf.is c.requires.trie).0)

pub returns-then-remove_into-clause-removed : goal.returns-then-remove_into-clause-removed
returns-then-remove_into-clause-removed g t c =
    let key = c.args.key.now in
    let l = c.in-Leaf.leaf in
    let p = c.prune.ensures in
    let left = c.remove_into.ensures.removed in
    rw c.in-Leaf.is (removed_by_prune (Leaf l) _ key _ (without_changes key l) p.trie (p.routes ∙ left) (λ len bits u. p.under len bits (rw left (under_without key l len bits u))))

pub returns-else-remove_into-clause-removed : goal.returns-else-remove_into-clause-removed
returns-else-remove_into-clause-removed g t c =
    let trie = subst IsTrie c.in-Leaf.is c.requires.trie in
    rw c.in-Leaf.is (kept_leaf c.args.key.now c.in-Leaf.leaf _ trie c.remove_into.ensures.removed (sym c.remove_into.ensures.none ∙ c.if-remove_into.false))

-- at a fork's own prefix
pub prune-requires-then-remove_into-2 : goal.prune-requires-then-remove_into-2
prune-requires-then-remove_into-2 g t c =
    let trie = subst IsTrie c.in-Fork.is c.requires.trie in
    rw (c.deref_mut.ensures.value, rw c.deref_mut.ensures.value at c.remove_into-in-Here.ensures.removed)
    (trie.0, trie.1, own_without c.args.key.now c.in-Fork.fork.value.prefix c.in-Fork.fork.value.here trie.2, trie.3, trie.4, trie.5, trie.6)

pub returns-then-remove_into-2-clause-before : goal.returns-then-remove_into-2-clause-before
returns-then-remove_into-2-clause-before g t c =
    rw c.deref_mut.ensures.value at c.remove_into-in-Here.ensures.before
    ∙ sym (found_here _ c.in-Fork.fork c.in-Fork.is c.requires.trie c.args.key.now (rw c.deref.ensures at c.in-Here.ensures))

pub returns-then-remove_into-2-clause-removed : goal.returns-then-remove_into-2-clause-removed
returns-then-remove_into-2-clause-removed g t c =
    let f = c.in-Fork.fork.value in
    let trie = subst IsTrie c.in-Fork.is c.requires.trie in
    let direction = rw c.deref.ensures at c.in-Here.ensures in
    let value = c.deref_mut.ensures.value in
    let p = c.prune-then-remove_into-2.ensures in
    let changes : Changes (fork_routes f) (c.remove_into-in-Here.new.held ++ (routes f.low ++ routes f.high)) c.args.key.now None = rw (rw value at c.remove_into-in-Here.ensures.removed) (removed_here c.args.key.now f trie direction) in
    rw c.in-Fork.is (removed_by_prune _ _ _ _ changes p.trie (rw value at p.routes) (rw value at p.under))

pub returns-else-remove_into-2-clause-before : goal.returns-else-remove_into-2-clause-before
returns-else-remove_into-2-clause-before g t c =
    rw c.deref_mut.ensures.value at c.remove_into-in-Here.ensures.before
    ∙ sym (found_here _ c.in-Fork.fork c.in-Fork.is c.requires.trie c.args.key.now (rw c.deref.ensures at c.in-Here.ensures))

pub returns-else-remove_into-2-clause-removed : goal.returns-else-remove_into-2-clause-removed
returns-else-remove_into-2-clause-removed g t c =
    let left = rw c.deref_mut.ensures.value at c.remove_into-in-Here.ensures.removed in
    rw c.deref_mut.ensures.value (left_here _ c.in-Fork.fork c.in-Fork.is c.requires.trie c.args.key.now _ c.remove_into-in-Here.new.held
    (rw c.deref.ensures at c.in-Here.ensures) refl left (sym c.remove_into-in-Here.ensures.none ∙ c.if-remove_into-2.false))

-- in the low branch
pub prune-requires-then-remove : goal.prune-requires-then-remove
prune-requires-then-remove g t c =
    let trie = subst IsTrie c.in-Fork.is c.requires.trie in
    let value = c.deref_mut-in-Low.ensures.value in
    let r = rw value at c.remove.ensures.removed in
    rw value (trie.0, trie.1, trie.2, r.under _ _ trie.3, trie.4, r.trie, trie.6)

pub returns-then-remove-clause-before : goal.returns-then-remove-clause-before
returns-then-remove-clause-before g t c =
    rw c.deref_mut-in-Low.ensures.value at c.remove.ensures.before
    ∙ sym (found_low _ c.in-Fork.fork c.in-Fork.is c.requires.trie c.args.key.now (rw c.deref.ensures at c.in-Low.ensures))

pub returns-then-remove-clause-removed : goal.returns-then-remove-clause-removed
returns-then-remove-clause-removed g t c =
    let trie = subst IsTrie c.in-Fork.is c.requires.trie in
    let direction = rw c.deref.ensures at c.in-Low.ensures in
    let value = c.deref_mut-in-Low.ensures.value in
    let r = rw value at c.remove.ensures.removed in
    let p = c.prune-then-remove.ensures in
    rw c.in-Fork.is (removed_by_prune _ _ _ _ (Changes_low_half c.in-Fork.fork.value trie c.args.key.now c.remove.new.self None direction.0 direction.1 r.changes) p.trie (rw value at p.routes) (rw value at p.under))

pub returns-else-remove-clause-before : goal.returns-else-remove-clause-before
returns-else-remove-clause-before g t c =
    rw c.deref_mut-in-Low.ensures.value at c.remove.ensures.before
    ∙ sym (found_low _ c.in-Fork.fork c.in-Fork.is c.requires.trie c.args.key.now (rw c.deref.ensures at c.in-Low.ensures))

pub returns-else-remove-clause-removed : goal.returns-else-remove-clause-removed
returns-else-remove-clause-removed g t c =
    let done = rw c.deref_mut-in-Low.ensures.value at c.remove.ensures.removed in
    rw c.deref_mut-in-Low.ensures.value (left_low _ c.in-Fork.fork c.in-Fork.is c.requires.trie c.args.key.now _ c.remove.new.self
    (rw c.deref.ensures at c.in-Low.ensures) refl done (sym c.remove.ensures.empty ∙ c.if-remove.false))

-- in the high branch
pub prune-requires-then-remove-2 : goal.prune-requires-then-remove-2
prune-requires-then-remove-2 g t c =
    let trie = subst IsTrie c.in-Fork.is c.requires.trie in
    let value = c.deref_mut-in-High.ensures.value in
    let r = rw value at c.remove-in-High.ensures.removed in
    rw value (trie.0, trie.1, trie.2, trie.3, r.under _ _ trie.4, trie.5, r.trie)

pub returns-then-remove-2-clause-before : goal.returns-then-remove-2-clause-before
returns-then-remove-2-clause-before g t c =
    rw c.deref_mut-in-High.ensures.value at c.remove-in-High.ensures.before
    ∙ sym (found_high _ c.in-Fork.fork c.in-Fork.is c.requires.trie c.args.key.now (rw c.deref.ensures at c.in-High.ensures))

pub returns-then-remove-2-clause-removed : goal.returns-then-remove-2-clause-removed
returns-then-remove-2-clause-removed g t c =
    let trie = subst IsTrie c.in-Fork.is c.requires.trie in
    let direction = rw c.deref.ensures at c.in-High.ensures in
    let value = c.deref_mut-in-High.ensures.value in
    let r = rw value at c.remove-in-High.ensures.removed in
    let p = c.prune-then-remove-2.ensures in
    rw c.in-Fork.is (removed_by_prune _ _ _ _ (Changes_high_half c.in-Fork.fork.value trie c.args.key.now c.remove-in-High.new.self None direction.0 direction.1 r.changes) p.trie (rw value at p.routes) (rw value at p.under))

pub returns-else-remove-2-clause-before : goal.returns-else-remove-2-clause-before
returns-else-remove-2-clause-before g t c =
    rw c.deref_mut-in-High.ensures.value at c.remove-in-High.ensures.before
    ∙ sym (found_high _ c.in-Fork.fork c.in-Fork.is c.requires.trie c.args.key.now (rw c.deref.ensures at c.in-High.ensures))

pub returns-else-remove-2-clause-removed : goal.returns-else-remove-2-clause-removed
returns-else-remove-2-clause-removed g t c =
    let done = rw c.deref_mut-in-High.ensures.value at c.remove-in-High.ensures.removed in
    rw c.deref_mut-in-High.ensures.value (left_high _ c.in-Fork.fork c.in-Fork.is c.requires.trie c.args.key.now _ c.remove-in-High.new.self
    (rw c.deref.ensures at c.in-High.ensures) refl done (sym c.remove-in-High.ensures.empty ∙ c.if-remove-2.false))

-- in none
pub returns-in-Outside-clause-before : goal.returns-in-Outside-clause-before
returns-in-Outside-clause-before g t c =
    c.requires.empty ∙ sym (found_outside _ c.in-Fork.fork c.in-Fork.is c.requires.trie c.args.key.now (rw c.deref.ensures at c.in-Outside.ensures))

pub returns-in-Outside-clause-removed : goal.returns-in-Outside-clause-removed
returns-in-Outside-clause-removed g t c =
    let trie = subst IsTrie c.in-Fork.is c.requires.trie in
    rw c.in-Fork.is (nothing_removed (Fork c.in-Fork.fork) c.args.key.now trie (outside_of_fork c.in-Fork.fork.value trie c.args.key.now (rw c.deref.ensures at c.in-Outside.ensures)))
