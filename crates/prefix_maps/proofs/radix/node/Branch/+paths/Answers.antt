use Rattle.std.proofs.Common.{sym, subst}
use Rattle.bgp_prefix.specs.Prefixes.{leading_bits}
use Rattle.prefix_maps.specs.Tries.{IsTrie, IsUnder}
use Rattle.prefix_maps.specs.declared.radix.node.Branch.TheVariants.{Fork}
use Rattle.prefix_maps.proofs.TrieLaws.{starts_itself}
use Rattle.prefix_maps.proofs.ListedLaws.{paths_outside, paths_here, paths_in_low, paths_in_high}
use Rattle.prefix_maps.proofs.radix.node.Branch.+paths.Goals as goal

pub returns-in-Here : goal.returns-in-Here
returns-in-Here g t c =
    rw (c.in-Fork.is, paths_here c.args.prefix.now c.in-Fork.fork.value (subst IsTrie c.in-Fork.is c.requires) (rw c.deref.ensures at c.in-Here.ensures))
    (rw c.deref-in-Here.ensures at c.paths-in-Here.ensures.paths)

pub returns-in-Low : goal.returns-in-Low
returns-in-Low g t c =
    rw (c.in-Fork.is, paths_in_low c.args.prefix.now c.in-Fork.fork.value (subst IsTrie c.in-Fork.is c.requires) (rw c.deref.ensures at c.in-Low.ensures))
    (rw c.deref-in-Low.ensures at c.paths-in-Low.ensures)

pub returns-in-High : goal.returns-in-High
returns-in-High g t c =
    rw (c.in-Fork.is, paths_in_high c.args.prefix.now c.in-Fork.fork.value (subst IsTrie c.in-Fork.is c.requires) (rw c.deref.ensures at c.in-High.ensures))
    (rw c.deref-in-High.ensures at c.paths-in-High.ensures)

pub returns-in-Outside : goal.returns-in-Outside
returns-in-Outside g t c =
    let f = c.in-Fork.fork.value in
    let trie = subst IsTrie c.in-Fork.is c.requires in
    let direction = rw c.deref.ensures at c.in-Outside.ensures in
    let under : IsUnder f.prefix.len (leading_bits f.prefix.len f.prefix.addr) (Fork c.in-Fork.fork) = starts_itself f.prefix in
    rw (c.in-Fork.is, c.new-in-Outside.ensures.items) (sym (paths_outside c.args.prefix.now (Fork c.in-Fork.fork) trie _ _ under direction))
