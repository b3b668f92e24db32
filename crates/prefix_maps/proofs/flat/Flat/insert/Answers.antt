use Rattle.std.proofs.Common.{◌≡◌, ◌≤◌, List, Some, set, sym, ap, ◌∙◌, subst, T}
use Rattle.std.specs.List.{All}
use Rattle.std.specs.FinMap.{put}
use Rattle.bgp_prefix.specs.Prefixes.{IsIpPrefix}
use Rattle.bgp_prefix.specs.Keys.{key_cmp, RouteKey}
use Rattle.std.specs.FinMap.Entries.{is_sorted, is_sorted-put}
use Rattle.bgp_prefix.proofs.KeyLaws.{key_cmp_total}
use Rattle.bgp_prefix.proofs.SearchLaws.{at_find, at_put, gap_put, gap_absent}
use Rattle.bgp_prefix.proofs.SortedMaps.{of_put}
use Rattle.prefix_maps.proofs.flat.Flat.insert.Goals as goal

after_put : {V : Type 0} (P : RouteKey → Type 0) (new old : List (RouteKey × V)) (key : RouteKey) (value : V) → new ≡ put key_cmp key value old → P key → All (λ e. P e.0) old → All (λ e. P e.0) new
after_put P new old key value is one all = rw is (of_put P key value old one all)

pub returns-in-Ok-clause-before : goal.returns-in-Ok-clause-before
returns-in-Ok-clause-before g c =
    let read = rw c.self.view_is at c.index_mut.ensures.value in
    ap Some c.replace.ensures.value ∙ ap (λ e. Some e.1) read ∙ sym (at_find key_cmp key_cmp_total c.args.self.now c.args.key c.in-Ok.at c.index_mut.result.now c.in-Ok.ensures.sorted c.in-Ok.ensures.found)

pub returns-in-Ok-clause-ok : goal.returns-in-Ok-clause-ok
returns-in-Ok-clause-ok g c =
    let read = rw c.self.view_is at c.index_mut.ensures.value in
    rw (c.self.view_is, c.replace.ensures.after) (ap (λ e. set c.args.self.now c.in-Ok.at (e.0, c.args.value)) read ∙ sym (at_put key_cmp key_cmp_total c.args.self.now c.args.key c.args.value c.in-Ok.at c.index_mut.result.now c.in-Ok.ensures.sorted c.in-Ok.ensures.found))

pub returns-in-Ok-clause-sorted : goal.returns-in-Ok-clause-sorted
returns-in-Ok-clause-sorted g c =
    subst (λ (es : List (RouteKey × _)). T (is_sorted key_cmp es)) (sym (returns-in-Ok-clause-ok g c)) (is_sorted-put key_cmp key_cmp_total c.args.key c.args.value c.args.self.now c.in-Ok.ensures.sorted)

pub invariant_of-self : goal.invariant_of-self
invariant_of-self g c = record {
  sorted = returns-in-Ok-clause-sorted g c;
  known = after_put (λ k. IsIpPrefix k.prefix) _ c.args.self.now c.args.key c.args.value (returns-in-Ok-clause-ok g c) c.len.ensures.known (rw c.self.view_is at c.self.invariant.known);
  short = after_put (λ k. k.prefix.len ≤ g.F.Family.WIDTH) _ c.args.self.now c.args.key c.args.value (returns-in-Ok-clause-ok g c) (rw c.len.ensures.len at c.len.ensures.short) (rw c.self.view_is at c.self.invariant.short);
}

pub returns-in_ok-insert-in-Err-clause-before : goal.returns-in_ok-insert-in-Err-clause-before
returns-in_ok-insert-in-Err-clause-before g c = sym (gap_absent key_cmp key_cmp_total c.args.self.now c.args.key _ c.in-Err.ensures.absent).0

pub returns-in_ok-insert-in-Err-clause-ok : goal.returns-in_ok-insert-in-Err-clause-ok
returns-in_ok-insert-in-Err-clause-ok g c =
    rw c.self.view_is at c.in_ok-insert-in-Err.ensures.items ∙ sym (gap_put key_cmp key_cmp_total c.args.self.now c.args.key c.args.value c.in-Err.at c.in-Err.ensures.absent)

pub returns-in_ok-insert-in-Err-clause-sorted : goal.returns-in_ok-insert-in-Err-clause-sorted
returns-in_ok-insert-in-Err-clause-sorted g c =
    subst (λ (es : List (RouteKey × _)). T (is_sorted key_cmp es)) (sym (returns-in_ok-insert-in-Err-clause-ok g c)) (is_sorted-put key_cmp key_cmp_total c.args.key c.args.value c.args.self.now c.in-Err.ensures.sorted)

pub invariant_of-self-in-Err : goal.invariant_of-self-in-Err
invariant_of-self-in-Err g c = record {
  sorted = returns-in_ok-insert-in-Err-clause-sorted g c;
  known = after_put (λ k. IsIpPrefix k.prefix) _ c.args.self.now c.args.key c.args.value (returns-in_ok-insert-in-Err-clause-ok g c) c.len.ensures.known (rw c.self.view_is at c.self.invariant.known);
  short = after_put (λ k. k.prefix.len ≤ g.F.Family.WIDTH) _ c.args.self.now c.args.key c.args.value (returns-in_ok-insert-in-Err-clause-ok g c) (rw c.len.ensures.len at c.len.ensures.short) (rw c.self.view_is at c.self.invariant.short);
}

pub invariant_of-self-in_err-insert-in-Err : goal.invariant_of-self-in_err-insert-in-Err
invariant_of-self-in_err-insert-in-Err g c = rw c.in_err-insert-in-Err.ensures.items c.self.invariant
