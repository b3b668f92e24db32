use Rattle.std.proofs.Common.{◌≡◌, ◌-◌, ◌+◌, None, drop, sym, subst, arith, ℕ}
use Rattle.bgp_prefix.specs.Keys.{last_match}
use Rattle.prefix_maps.proofs.MatchLaws.{last_at}
use Rattle.prefix_maps.proofs.flat.Flat.last_match.Goals as goal

pub returns-then-contains : goal.returns-then-contains
returns-then-contains g c =
    let l = c.loop-at in
    let at : l.at ≡ l.at - 1 + 1 = omega arith in
    let none = subst (λ (n : ℕ). last_match (drop n c.args.self.now) (g.F.Family.bits c.args.addr) ≡ None) at l.invariant.none in
    let read = rw c.self.view_is at c.index.ensures in
    record { last = last_at (g.F.Family.bits c.args.addr) c.args.self.now (l.at - 1) c.index.result.now (omega (arith, l.invariant.inside)) read none (sym c.if-contains.ensures) }
