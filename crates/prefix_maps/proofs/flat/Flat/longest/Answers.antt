use Rattle.std.proofs.Common.{◌∙◌, ap, sym, arith}
use Rattle.prefix_maps.proofs.NetworkLaws.{network}
use Rattle.bgp_prefix.specs.Prefixes.{network_of}
use Rattle.prefix_maps.proofs.JumpLaws.{none_found, match_found, falls, IsLimit-miss}
use Rattle.prefix_maps.proofs.flat.Flat.longest.Goals as goal

pub returns-then-at-eq0-clause-none : goal.returns-then-at-eq0-clause-none
returns-then-at-eq0-clause-none g c =
    let l = c.loop-self in
    let host = ap (λ p. p.addr) c.in-Some.ensures.prefix ∙ ap (network_of (g.F.Family.bits c.args.addr)) c.WIDTH.ensures ∙ g.F.Family.whole c.args.addr in
    let net = c.shortened.ensures.prefix ∙ ap (λ a. network a l.limit) host in
    none_found c.args.self.now (g.F.Family.bits c.args.addr) l.limit c.count_up_to-at.result l.invariant c.count_up_to-at.ensures.bound (rw net at c.count_up_to-at.ensures.end) (omega arith)

pub returns-then-contains-clause-found : goal.returns-then-contains-clause-found
returns-then-contains-clause-found g c =
    let l = c.loop-self in
    let host = ap (λ p. p.addr) c.in-Some.ensures.prefix ∙ ap (network_of (g.F.Family.bits c.args.addr)) c.WIDTH.ensures ∙ g.F.Family.whole c.args.addr in
    let net = c.shortened.ensures.prefix ∙ ap (λ a. network a l.limit) host in
    let read = rw c.self.view_is at c.index.ensures in
    match_found c.args.self.now (g.F.Family.bits c.args.addr) l.limit c.count_up_to-at.result l.invariant c.count_up_to-at.ensures.bound (rw net at c.count_up_to-at.ensures.end) c.index.result.now (omega arith) read (sym c.if-contains.ensures)

pub loop-self-smaller : goal.loop-self-smaller
loop-self-smaller g c =
    let l = c.loop-self in
    let host = ap (λ p. p.addr) c.in-Some.ensures.prefix ∙ ap (network_of (g.F.Family.bits c.args.addr)) c.WIDTH.ensures ∙ g.F.Family.whole c.args.addr in
    let len = ap (λ p. p.len) c.in-Some.ensures.prefix in
    let net = c.shortened.ensures.prefix ∙ ap (λ a. network a l.limit) host in
    let read = rw c.self.view_is at c.index.ensures in
    let s = c.shared_len-limit.ensures in
    falls c.args.self.now (g.F.Family.bits c.args.addr) l.limit c.count_up_to-at.result l.invariant c.count_up_to-at.ensures.bound (rw net at c.count_up_to-at.ensures.end) c.index.result.now (omega arith) read c.shared_len-limit.result (sym c.if-contains.ensures) s.in_p (rw host at s.shared) (λ less. rw host at (s.longest less (omega (arith, less, len, c.WIDTH.ensures, s.short_p))))

pub loop-self-preserved : goal.loop-self-preserved
loop-self-preserved g c =
    let l = c.loop-self in
    let host = ap (λ p. p.addr) c.in-Some.ensures.prefix ∙ ap (network_of (g.F.Family.bits c.args.addr)) c.WIDTH.ensures ∙ g.F.Family.whole c.args.addr in
    let len = ap (λ p. p.len) c.in-Some.ensures.prefix in
    let net = c.shortened.ensures.prefix ∙ ap (λ a. network a l.limit) host in
    let read = rw c.self.view_is at c.index.ensures in
    let s = c.shared_len-limit.ensures in
    IsLimit-miss c.args.self.now (g.F.Family.bits c.args.addr) l.limit c.count_up_to-at.result l.invariant c.count_up_to-at.ensures.bound (rw net at c.count_up_to-at.ensures.end) c.index.result.now (omega arith) read c.shared_len-limit.result (sym c.if-contains.ensures) s.in_p (rw host at s.shared) (λ less. rw host at (s.longest less (omega (arith, less, len, c.WIDTH.ensures, s.short_p))))
