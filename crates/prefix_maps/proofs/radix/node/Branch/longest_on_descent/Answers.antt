use Rattle.std.proofs.Common.{◌≡◌, cond, Some, None, sym, ◌∙◌, subst, inl, inr, ◌⊎◌, true}
use Rattle.std.specs.Option.{option_or}
use Rattle.bgp_prefix.specs.Prefixes.{contains}
use Rattle.bgp_prefix.specs.Keys.{is_nil, last_match}
use Rattle.prefix_maps.specs.Tries.{routes, IsTrie}
use Rattle.prefix_maps.specs.declared.radix.node.Branch.{Branch}
use Rattle.prefix_maps.proofs.MatchLaws.{match_below, match_kept, own_kept, own_none, missed_fork}
use Rattle.prefix_maps.proofs.radix.node.Branch.longest_on_descent.Goals as goal
use Rattle.prefix_maps.proofs.radix.node.Branch.longest_on_descent.Goals.{then-not-is_empty+else-not-contains, else-not-is_empty}

pub returns-then-not-contains : goal.returns-then-not-contains
returns-then-not-contains g c =
    let out = rw c.deref-then-not-is_empty.ensures at (sym c.contains.ensures ∙ c.if-not-contains.true) in
    rw (missed_fork (g.F.Family.bits c.args.addr) _ c.in-Fork.fork c.in-Fork.is c.loop-at.invariant.0 out).0 at c.loop-at.invariant.1

pub returns-in_default-branch-in-Fork : goal.returns-in_default-branch-in-Fork
returns-in_default-branch-in-Fork g c =
    let f = c.in-Fork.fork.value in
    let trie = subst IsTrie c.in-Fork.is c.loop-at.invariant.0 in
    let bit = rw (c.len.ensures.len, c.deref-in-Fork-2.ensures) at c.bit_after.ensures in
    let either : (is_nil f.here ≡ true) ⊎ (contains f.prefix (g.F.Family.bits c.args.addr) ≡ true) = elim c.if-not-is_empty.branch [
      | then-not-is_empty+else-not-contains w ↦ inr (rw w.deref-then-not-is_empty.ensures at (sym w.contains.ensures ∙ w.if-not-contains.false))
      | else-not-is_empty w ↦ inl (rw c.deref.ensures at (sym c.is_empty.ensures ∙ w.if-not-is_empty.false))
    ] in
    let own : option_or (cond (is_nil f.here) None (Some f.prefix)) c.loop-at.found ≡ c.if-not-is_empty.found = elim c.if-not-is_empty.branch [
      | then-not-is_empty+else-not-contains w ↦ own_kept f.prefix f.here _ _ (rw c.deref.ensures at (sym c.is_empty.ensures ∙ w.if-not-is_empty.true)) (rw w.deref-then-not-is_empty-2.ensures at w.found-is)
      | else-not-is_empty w ↦ own_none f.prefix f.here _ _ (rw c.deref.ensures at (sym c.is_empty.ensures ∙ w.if-not-is_empty.false)) w.found-is
    ] in
    let below = match_below (g.F.Family.bits c.args.addr) f trie c.bit_after.result bit either in
    let whole = rw (c.in-Fork.is, below.0) at c.loop-at.invariant.1 in
    let nothing = rw c.deref-in-Fork.ensures at c.in_default-branch-in-Fork.ensures.empty in
    subst (λ (b : Branch _ _). option_or (last_match (routes b) (g.F.Family.bits c.args.addr)) c.if-not-is_empty.found ≡ last_match (routes c.args.self.now) (g.F.Family.bits c.args.addr)) nothing (match_kept _ _ _ _ _ whole own)

pub loop-at-preserved : goal.loop-at-preserved
loop-at-preserved g c =
    let f = c.in-Fork.fork.value in
    let trie = subst IsTrie c.in-Fork.is c.loop-at.invariant.0 in
    let bit = rw (c.len.ensures.len, c.deref-in-Fork-2.ensures) at c.bit_after.ensures in
    let either : (is_nil f.here ≡ true) ⊎ (contains f.prefix (g.F.Family.bits c.args.addr) ≡ true) = elim c.if-not-is_empty.branch [
      | then-not-is_empty+else-not-contains w ↦ inr (rw w.deref-then-not-is_empty.ensures at (sym w.contains.ensures ∙ w.if-not-contains.false))
      | else-not-is_empty w ↦ inl (rw c.deref.ensures at (sym c.is_empty.ensures ∙ w.if-not-is_empty.false))
    ] in
    let own : option_or (cond (is_nil f.here) None (Some f.prefix)) c.loop-at.found ≡ c.if-not-is_empty.found = elim c.if-not-is_empty.branch [
      | then-not-is_empty+else-not-contains w ↦ own_kept f.prefix f.here _ _ (rw c.deref.ensures at (sym c.is_empty.ensures ∙ w.if-not-is_empty.true)) (rw w.deref-then-not-is_empty-2.ensures at w.found-is)
      | else-not-is_empty w ↦ own_none f.prefix f.here _ _ (rw c.deref.ensures at (sym c.is_empty.ensures ∙ w.if-not-is_empty.false)) w.found-is
    ] in
    let below = match_below (g.F.Family.bits c.args.addr) f trie c.bit_after.result bit either in
    let whole = rw (c.in-Fork.is, below.0) at c.loop-at.invariant.1 in
    rw (rw c.deref-in-Fork.ensures at c.in_Some-branch-in-Fork.ensures.branch) (below.1, match_kept _ _ _ _ _ whole own)
