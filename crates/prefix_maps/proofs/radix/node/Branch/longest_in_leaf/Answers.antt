use Rattle.std.proofs.Common.{subst}
use Rattle.prefix_maps.specs.Tries.{IsTrie}
use Rattle.prefix_maps.proofs.MatchLaws.{match_up}
use Rattle.prefix_maps.proofs.radix.node.Branch.longest_in_leaf.Goals as goal

pub loop-at-preserved : goal.loop-at-preserved
loop-at-preserved g c =
    let f = c.in-Fork.fork.value in
    let trie = subst IsTrie c.in-Fork.is c.loop-at.invariant.0 in
    let bit = rw (c.len.ensures.len, c.deref-in-Fork.ensures) at c.bit_after.ensures in
    let up = match_up (g.F.Family.bits c.args.addr) f trie c.bit_after.result bit in
    let whole = rw c.in-Fork.is at c.loop-at.invariant.1 in
    rw (rw c.deref.ensures at c.in_Some-branch-in-Fork.ensures.branch) (up.1, λ p is. whole p (up.0 p is))
