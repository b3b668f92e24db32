use Rattle.std.proofs.Common.{◌≡◌, ◌+◌, cond, Some, None, sym, ap, ◌∙◌, subst, arith}
use Rattle.std.specs.Option.{option_or}
use Rattle.bgp_prefix.specs.Keys.{is_nil, last_match, matching_prefixes}
use Rattle.prefix_maps.specs.Tries.{routes, IsTrie}
use Rattle.prefix_maps.specs.declared.radix.node.Branch.{Branch}
use Rattle.prefix_maps.specs.declared.radix.node.Branch.TheVariants.{Leaf}
use Rattle.bgp_prefix.proofs.KeyLaws.{or_none}
use Rattle.prefix_maps.proofs.OrderLaws.{keys_known}
use Rattle.prefix_maps.proofs.LongestLaws.{last_is}
use Rattle.prefix_maps.proofs.MatchLaws.{match_child, match_kept, own_kept, own_none, longer, under_none, missed_fork}
use Rattle.prefix_maps.proofs.radix.node.Branch.longest_steps.Goals as goal
use Rattle.prefix_maps.proofs.radix.node.Branch.longest_steps.Goals.{then-not-is_empty, else-not-is_empty}

pub loop-at-init : goal.loop-at-init
loop-at-init g c =
    (c.requires, or_none _, omega arith, (0, 0, omega arith, omega arith, under_none c.args.self.now c.requires))

pub returns-in-Leaf-clause-prefix : goal.returns-in-Leaf-clause-prefix
returns-in-Leaf-clause-prefix g c =
    let l = c.in-Leaf.leaf in
    let trie = subst IsTrie c.in-Leaf.is c.loop-at.invariant.0 in
    let call = c.longest_steps-longer in
    let is : call.result.0 ≡ last_match l (g.F.Family.bits c.args.addr) = last_is (g.F.Family.bits c.args.addr) l trie.0.sorted (keys_known {F = g.row.F.Denot} (Leaf l) trie) call.result.0 call.ensures.found call.ensures.none in
    c.or.ensures ∙ ap (λ o. option_or o c.loop-at.longest) is ∙ rw c.in-Leaf.is at c.loop-at.invariant.1

pub returns-in-Leaf-clause-bound : goal.returns-in-Leaf-clause-bound
returns-in-Leaf-clause-bound g c =
    let descent = c.loop-at.invariant.3 in
    let under = rw c.in-Leaf.is at descent.4 in
    omega (arith, descent.2, c.longest_steps-longer.ensures.bound descent.0 (omega (arith, descent.3)) (longer descent.0 descent.1 c.in-Leaf.leaf under))

pub returns-then-not-contains-clause-prefix : goal.returns-then-not-contains-clause-prefix
returns-then-not-contains-clause-prefix g c =
    let out = rw c.deref.ensures at (sym c.contains.ensures ∙ c.if-not-contains.true) in
    rw (missed_fork (g.F.Family.bits c.args.addr) _ c.in-Fork.fork c.in-Fork.is c.loop-at.invariant.0 out).0 at c.loop-at.invariant.1

pub returns-then-not-contains-clause-enough : goal.returns-then-not-contains-clause-enough
returns-then-not-contains-clause-enough g c =
    let out = rw c.deref.ensures at (sym c.contains.ensures ∙ c.if-not-contains.true) in
    omega (arith, c.loop-at.invariant.2, (missed_fork (g.F.Family.bits c.args.addr) _ c.in-Fork.fork c.in-Fork.is c.loop-at.invariant.0 out).1)

pub loop-at-preserved : goal.loop-at-preserved
loop-at-preserved g c =
    let f = c.in-Fork.fork.value in
    let trie = subst IsTrie c.in-Fork.is c.loop-at.invariant.0 in
    let in_f = rw c.deref.ensures at (sym c.contains.ensures ∙ c.if-not-contains.false) in
    let bit = rw (c.len-len.ensures.len, c.deref.ensures) at c.bit_after.ensures in
    let at_prefix = rw c.deref.ensures at c.len-len.ensures.len in
    let child = match_child (g.F.Family.bits c.args.addr) f trie in_f c.bit_after.result bit in
    let whole = rw (c.in-Fork.is, child.0) at c.loop-at.invariant.1 in
    let few = rw c.in-Fork.is at c.loop-at.invariant.2 in
    let passed = (rw c.in-Fork.is at c.loop-at.invariant.3.4).long in
    let own : option_or (cond (is_nil f.here) None (Some f.prefix)) c.loop-at.longest ≡ c.if-not-is_empty.longest = elim c.if-not-is_empty.branch [
      | then-not-is_empty w ↦ own_kept f.prefix f.here _ _ (rw c.deref-in-Fork.ensures at (sym c.is_empty.ensures ∙ w.if-not-is_empty.true)) (rw c.deref.ensures at w.longest-is)
      | else-not-is_empty w ↦ own_none f.prefix f.here _ _ (rw c.deref-in-Fork.ensures at (sym c.is_empty.ensures ∙ w.if-not-is_empty.false)) w.longest-is
    ] in
    rw (rw c.deref-in-Fork-2.ensures at c.in_Some-branch-in-Fork.ensures.branch) (child.2, match_kept _ _ _ _ _ whole own, omega (arith, few, child.1), (f.prefix.len + 1, child.3.0, omega (arith, passed, c.loop-at.invariant.3.2), omega (arith, c.len-len.ensures.short, c.len-len.ensures.len, at_prefix), child.3.1))

pub returns-in_default-branch-in-Fork-clause-prefix : goal.returns-in_default-branch-in-Fork-clause-prefix
returns-in_default-branch-in-Fork-clause-prefix g c =
    let f = c.in-Fork.fork.value in
    let trie = subst IsTrie c.in-Fork.is c.loop-at.invariant.0 in
    let in_f = rw c.deref.ensures at (sym c.contains.ensures ∙ c.if-not-contains.false) in
    let bit = rw (c.len-len.ensures.len, c.deref.ensures) at c.bit_after.ensures in
    let child = match_child (g.F.Family.bits c.args.addr) f trie in_f c.bit_after.result bit in
    let whole = rw (c.in-Fork.is, child.0) at c.loop-at.invariant.1 in
    let own : option_or (cond (is_nil f.here) None (Some f.prefix)) c.loop-at.longest ≡ c.if-not-is_empty.longest = elim c.if-not-is_empty.branch [
      | then-not-is_empty w ↦ own_kept f.prefix f.here _ _ (rw c.deref-in-Fork.ensures at (sym c.is_empty.ensures ∙ w.if-not-is_empty.true)) (rw c.deref.ensures at w.longest-is)
      | else-not-is_empty w ↦ own_none f.prefix f.here _ _ (rw c.deref-in-Fork.ensures at (sym c.is_empty.ensures ∙ w.if-not-is_empty.false)) w.longest-is
    ] in
    let nothing = rw c.deref-in-Fork-2.ensures at c.in_default-branch-in-Fork.ensures.empty in
    subst (λ (b : Branch _ _). option_or (last_match (routes b) (g.F.Family.bits c.args.addr)) c.if-not-is_empty.longest ≡ last_match (routes c.args.self.now) (g.F.Family.bits c.args.addr)) nothing (match_kept _ _ _ _ _ whole own)

pub returns-in_default-branch-in-Fork-clause-enough : goal.returns-in_default-branch-in-Fork-clause-enough
returns-in_default-branch-in-Fork-clause-enough g c =
    let f = c.in-Fork.fork.value in
    let trie = subst IsTrie c.in-Fork.is c.loop-at.invariant.0 in
    let in_f = rw c.deref.ensures at (sym c.contains.ensures ∙ c.if-not-contains.false) in
    let bit = rw (c.len-len.ensures.len, c.deref.ensures) at c.bit_after.ensures in
    let child = match_child (g.F.Family.bits c.args.addr) f trie in_f c.bit_after.result bit in
    let few = rw c.in-Fork.is at c.loop-at.invariant.2 in
    let nothing = rw c.deref-in-Fork-2.ensures at c.in_default-branch-in-Fork.ensures.empty in
    omega (arith, few, child.1, ap (λ (b : Branch _ _). matching_prefixes (routes b) (g.F.Family.bits c.args.addr)) nothing)
