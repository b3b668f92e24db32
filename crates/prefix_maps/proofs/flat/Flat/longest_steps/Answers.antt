use Rattle.std.proofs.Common.{◌≡◌, ◌+◌, ◌-◌, ◌∙◌, ap, sym, subst, arith, ℕ}
use Rattle.bgp_prefix.specs.Prefixes.{IsIpPrefix, network_of}
use Rattle.prefix_maps.proofs.LongestLaws.{longest_found, longest_none}
use Rattle.prefix_maps.proofs.WalkLaws.{IsWalk, IsWalk-start, IsWalk-skip, IsWalk-match, IsWalk-miss}
use Rattle.prefix_maps.proofs.OrderLaws.{AllKeys-from_all}
use Rattle.prefix_maps.proofs.flat.Flat.longest_steps.Goals as goal

pub loop-at-init : goal.loop-at-init
loop-at-init g c =
    let sorted = rw c.self.view_is at c.self.invariant.sorted in
    let known = rw c.self.view_is at c.self.invariant.known in
    let short = rw c.self.view_is at c.self.invariant.short in
    rw c.WIDTH-limit.ensures (IsWalk-start c.args.self.now (g.F.Family.bits c.args.addr) sorted known g.F.Family.WIDTH short c.count_up_to_address-at.result c.count_up_to_address-at.ensures.bound c.count_up_to_address-at.ensures.end.0 c.count_up_to_address-at.ensures.end.1)

pub loop-at-preserved-then-len-limit : goal.loop-at-preserved-then-len-limit
loop-at-preserved-then-len-limit g c =
    let l = c.loop-at in
    let at : l.at ≡ l.at - 1 + 1 = omega arith in
    let walk = subst (λ (n : ℕ). IsWalk g.F.Family.WIDTH c.args.self.now (g.F.Family.bits c.args.addr) n l.limit l.steps l.longest) at l.invariant in
    let read = rw c.self.view_is at c.index.ensures in
    IsWalk-skip c.args.self.now (g.F.Family.bits c.args.addr) (l.at - 1) l.limit l.steps l.longest c.index.result.now walk read (omega arith)

pub loop-at-preserved-then-contains : goal.loop-at-preserved-then-contains
loop-at-preserved-then-contains g c =
    let l = c.loop-at in
    let at : l.at ≡ l.at - 1 + 1 = omega arith in
    let walk = subst (λ (n : ℕ). IsWalk g.F.Family.WIDTH c.args.self.now (g.F.Family.bits c.args.addr) n l.limit l.steps l.longest) at l.invariant in
    let read = rw c.self.view_is at c.index.ensures in
    rw (c.len-limit.ensures.len, c.or-longest.ensures) (IsWalk-match c.args.self.now (g.F.Family.bits c.args.addr) (l.at - 1) l.limit l.steps l.longest c.index.result.now walk read (omega arith) (sym c.if-contains.ensures))

pub loop-at-preserved : goal.loop-at-preserved
loop-at-preserved g c =
    let l = c.loop-at in
    let at : l.at ≡ l.at - 1 + 1 = omega arith in
    let walk = subst (λ (n : ℕ). IsWalk g.F.Family.WIDTH c.args.self.now (g.F.Family.bits c.args.addr) n l.limit l.steps l.longest) at l.invariant in
    let read = rw c.self.view_is at c.index.ensures in
    let host = ap (λ p. p.addr) c.in-Some.ensures.prefix ∙ ap (network_of (g.F.Family.bits c.args.addr)) c.WIDTH.ensures ∙ g.F.Family.whole c.args.addr in
    let len = ap (λ p. p.len) c.in-Some.ensures.prefix in
    let s = c.shared_len-limit.ensures in
    IsWalk-miss c.args.self.now (g.F.Family.bits c.args.addr) (l.at - 1) l.limit l.steps l.longest c.index.result.now walk read c.shared_len-limit.result (omega arith) (sym c.if-contains.ensures) s.in_p (rw host at s.shared) (λ less. rw host at (s.longest less (omega (arith, less, len, s.known_p.short))))

pub returns-clause-found : goal.returns-clause-found
returns-clause-found g c =
    let walk = c.loop-at.invariant in
    let none : c.loop-at.at ≡ 0 = omega arith in
    let es = c.args.self.now in
    longest_found (g.F.Family.bits c.args.addr) es walk.sorted (AllKeys-from_all (λ k. IsIpPrefix k.prefix) es walk.known) c.loop-at.longest (rw none at walk.found)

pub returns-clause-none : goal.returns-clause-none
returns-clause-none g c =
    let walk = c.loop-at.invariant in
    let none : c.loop-at.at ≡ 0 = omega arith in
    let es = c.args.self.now in
    longest_none (g.F.Family.bits c.args.addr) es walk.sorted (AllKeys-from_all (λ k. IsIpPrefix k.prefix) es walk.known) c.loop-at.longest (rw none at walk.found)
