use Rattle.std.proofs.Common.{◌≤◌, List, Some, not, sym, ap, ◌∙◌, subst, T}
use Rattle.std.specs.Ordering.{eq_by_cmp}
use Rattle.std.specs.List.{All}
use Rattle.std.proofs.lemmas.List.Elements.{All-filter}
use Rattle.bgp_prefix.specs.Prefixes.{IsIpPrefix}
use Rattle.bgp_prefix.specs.Keys.{key_cmp, RouteKey}
use Rattle.std.specs.FinMap.Entries.{is_sorted, is_sorted-where_key}
use Rattle.bgp_prefix.proofs.KeyLaws.{key_cmp_total}
use Rattle.bgp_prefix.proofs.SearchLaws.{at_find, at_without, gap_absent}
use Rattle.prefix_maps.proofs.flat.Flat.remove.Goals as goal

pub returns-in-Ok-clause-before : goal.returns-in-Ok-clause-before
returns-in-Ok-clause-before g c =
    let read = rw c.self.view_is at c.remove.ensures.value in
    ap (λ e. Some e.1) read ∙ sym (at_find key_cmp key_cmp_total c.args.self.now c.args.key.now c.in-Ok.at c.remove.result c.in-Ok.ensures.sorted c.in-Ok.ensures.found)

pub returns-in-Ok-clause-removed : goal.returns-in-Ok-clause-removed
returns-in-Ok-clause-removed g c =
    rw c.self.view_is at c.remove.ensures.items ∙ sym (at_without key_cmp key_cmp_total c.args.self.now c.args.key.now c.in-Ok.at c.in-Ok.ensures.sorted c.in-Ok.ensures.found)

pub returns-in-Ok-clause-sorted : goal.returns-in-Ok-clause-sorted
returns-in-Ok-clause-sorted g c =
    subst (λ (es : List (RouteKey × _)). T (is_sorted key_cmp es)) (sym (returns-in-Ok-clause-removed g c)) (is_sorted-where_key key_cmp (λ x. not (eq_by_cmp key_cmp c.args.key.now x)) c.args.self.now c.in-Ok.ensures.sorted)

pub invariant_of-self : goal.invariant_of-self
invariant_of-self g c = record {
  sorted = returns-in-Ok-clause-sorted g c;
  known = subst (λ (es : List (RouteKey × _)). All (λ e. IsIpPrefix e.0.prefix) es) (sym (returns-in-Ok-clause-removed g c)) (All-filter (λ e. not (eq_by_cmp key_cmp c.args.key.now e.0)) (λ e. IsIpPrefix e.0.prefix) c.args.self.now (rw c.self.view_is at c.self.invariant.known));
  short = subst (λ (es : List (RouteKey × _)). All (λ e. e.0.prefix.len ≤ g.F.Family.WIDTH) es) (sym (returns-in-Ok-clause-removed g c)) (All-filter (λ e. not (eq_by_cmp key_cmp c.args.key.now e.0)) (λ e. e.0.prefix.len ≤ g.F.Family.WIDTH) c.args.self.now (rw c.self.view_is at c.self.invariant.short));
}

pub returns-in-Err-clause-before : goal.returns-in-Err-clause-before
returns-in-Err-clause-before g c = sym (gap_absent key_cmp key_cmp_total c.args.self.now c.args.key.now _ c.in-Err.ensures.absent).0

pub returns-in-Err-clause-removed : goal.returns-in-Err-clause-removed
returns-in-Err-clause-removed g c = sym (gap_absent key_cmp key_cmp_total c.args.self.now c.args.key.now _ c.in-Err.ensures.absent).1
