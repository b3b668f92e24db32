use Rattle.std.proofs.Common.{◌≤◌, sym, arith}
use Rattle.prefix_maps.proofs.JumpLaws.{IsLimit-start}
use Rattle.chunked_map.proofs.KeyedLists.{all_of_each}
use Rattle.chunked_map.proofs.LastPrefixes.{none_last, found_last, falls_last, miss_last}
use Rattle.chunked_map.proofs.chunked_map.ChunkedMapPrefixMap.longest.Goals as goal

pub returns-in_default-clause-none : goal.returns-in_default-clause-none
returns-in_default-clause-none g c =
    let last = rw (c.self.view_is, c.shortened.ensures.prefix, c.host_prefix-host.ensures, c.in_default.is) at c.last_up_to.ensures in
    none_last c.args.self.now (g.F.Family.bits c.args.addr) c.loop-prefix.limit c.loop-prefix.invariant last

pub returns-then-contains-clause-found : goal.returns-then-contains-clause-found
returns-then-contains-clause-found g c =
    let last = rw (c.self.view_is, c.shortened.ensures.prefix, c.host_prefix-host.ensures, c.in-Some.is) at c.last_up_to.ensures in
    found_last c.args.self.now (g.F.Family.bits c.args.addr) c.loop-prefix.limit c.loop-prefix.invariant _ last (sym c.if-contains.ensures)

pub loop-prefix-smaller : goal.loop-prefix-smaller
loop-prefix-smaller g c =
    let last = rw (c.self.view_is, c.shortened.ensures.prefix, c.host_prefix-host.ensures, c.in-Some.is) at c.last_up_to.ensures in
    let s = rw c.host_prefix-host.ensures at c.shared_len-limit.ensures in
    falls_last c.args.self.now (g.F.Family.bits c.args.addr) c.loop-prefix.limit c.loop-prefix.invariant _ last _ (sym c.if-contains.ensures) s.in_p s.shared (λ less. s.longest less (omega (arith, less, s.short_p)))

pub loop-prefix-preserved : goal.loop-prefix-preserved
loop-prefix-preserved g c =
    let last = rw (c.self.view_is, c.shortened.ensures.prefix, c.host_prefix-host.ensures, c.in-Some.is) at c.last_up_to.ensures in
    let s = rw c.host_prefix-host.ensures at c.shared_len-limit.ensures in
    miss_last c.args.self.now (g.F.Family.bits c.args.addr) c.loop-prefix.limit c.loop-prefix.invariant _ last _ (sym c.if-contains.ensures) s.in_p s.shared (λ less. s.longest less (omega (arith, less, s.short_p)))

pub loop-prefix-init : goal.loop-prefix-init
loop-prefix-init g c =
    let w = g.F.Family.WIDTH in
    let sorted = rw c.self.view_is at c.self.invariant.branches.sorted in
    let known = rw c.self.view_is at c.self.invariant.branches.known in
    let short = rw c.self.view_is at c.self.invariant.short in
    rw c.WIDTH-limit.ensures (IsLimit-start w c.args.self.now (g.F.Family.bits c.args.addr) g.F.Family.narrow sorted known (all_of_each (λ k. k.prefix.len ≤ w) c.args.self.now short))
