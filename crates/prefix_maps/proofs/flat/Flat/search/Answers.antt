use Rattle.std.proofs.Common.{◌≡◌, rules, length, Some, refl, ◌∙◌, ap, sym, arith, true}
use Rattle.std.specs.Ordering.{is_lt, nat_cmp, ordering_then, partial_ordering_then, is_some_and}
use Rattle.std.specs.declared.cmp.Ordering.{Ordering}
use Rattle.std.specs.declared.cmp.Ordering.TheVariants.{Less, Equal, Greater}
use Rattle.bgp_prefix.specs.Keys.{key_cmp}
use Rattle.bgp_prefix.proofs.KeyLaws.{key_cmp_total}
use Rattle.std.proofs.lemmas.List.Sorted.{answers_always}
use Rattle.bgp_prefix.proofs.SearchLaws.{searched}
use Rattle.bgp_prefix.proofs.SortedMaps.{gap_at_end}
use Rattle.prefix_maps.proofs.flat.Flat.search.Goals as goal

-- the derived order is that of the keys
lt_is : (a b c : Ordering) → is_lt (ordering_then (ordering_then a b) c) ≡ is_some_and is_lt (partial_ordering_then (Some (ordering_then a b)) (Some c))
lt_is Less b c = refl
lt_is Equal Less c = refl
lt_is Equal Equal c = refl
lt_is Equal Greater c = refl
lt_is Greater b c = refl

pub returns-in_default-2 : goal.returns-in_default-2
returns-in_default-2 g c =
    let facts = c.binary_search_by_key.ensures in
    let by_key = facts.position (λ item. item.0) (answers_always _ _ _ (λ f a r g called. search rules)) in
    let s = searched key_cmp key_cmp_total c.deref-in_default-2.result.now c.args.key.now c.binary_search_by_key.result (rw c.deref-in_default-2.ensures.value c.self.invariant.sorted) facts.bound by_key in
    rw (← c.self.view_is, ← c.deref-in_default-2.ensures.value) (record { found = s.found; absent = s.absent; sorted = rw c.deref-in_default-2.ensures.value c.self.invariant.sorted })

pub returns-in-Some-clause-absent : goal.returns-in-Some-clause-absent
returns-in-Some-clause-absent g c =
    let es = c.args.self.now in
    let key = c.args.key.now in
    let last = c.in-Some.last.now in
    let n : c.len.result ≡ length es = omega (arith, ap length c.self.view_is) in
    let list : c.deref.result.now ≡ es = c.deref.ensures.value ∙ c.self.view_is in
    let at_end = rw list at c.in-Some.ensures.item in
    let less : is_lt (key_cmp last.0 key) ≡ true = lt_is (nat_cmp last.0.prefix.addr key.prefix.addr) (nat_cmp last.0.prefix.len key.prefix.len) (nat_cmp last.0.id key.id) ∙ sym c.if-lt.ensures in
    rw n (gap_at_end es key last (rw c.self.view_is at c.self.invariant.sorted) at_end.3.0 at_end.1 less)
