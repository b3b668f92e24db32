use Rattle.std.proofs.Common.{◌≡◌, ◌∷◌, [], ◌++◌, true, List, Option, Some, map, length, get_or, T, sym, subst, ap, arith, ◌∙◌}
use Rattle.std.proofs.Math.ListN.{set}
use Rattle.std.specs.List.{filter, AllByRecursion}
use Rattle.std.specs.BinaryHeap.{heap_items, IsUpperBound}
use Rattle.std.specs.List.Sorted.{IsPermutation}
use Rattle.std.specs.Option.{IfSome}
use Rattle.std.specs.FinMap.{is_sorted}
use Rattle.bgp_prefix.specs.Prefixes.{IpPrefix}
use Rattle.bgp_prefix.specs.Keys.{key_cmp}
use Rattle.table_dumps.specs.Checkpoints.{prefix_route}
use Rattle.checkpoint_writing.specs.Merging.{Entries, AtOrAbove, AreAbove, IsMerge, StepsOver, PushesHead, MergeState, Head, has_prefix, others_of, top_of, first_before}
use Rattle.checkpoint_writing.proofs.HeadLaws.{get_all}
use Rattle.checkpoint_writing.proofs.MergeLaws.{same_get, stays_empty, stays_before, top_place, steps, merge_step}
use Rattle.checkpoint_writing.proofs.merge.Merge.take_first.Goals as goal

pub returns-in_default-clause-step : goal.returns-in_default-clause-step
returns-in_default-clause-step g c =
    let m = c.args.self.now in
    stays_empty m.lists m.heads c.requires.merge c.args.prefix.now c.args.routes.now.items (sym c.in_default.ensures.top) c.requires.least

pub returns-then-not-is_same-clause-step : goal.returns-then-not-is_same-clause-step
returns-then-not-is_same-clause-step g c =
    let m = c.args.self.now in
    let first = c.in-Some.first in
    stays_before m.lists m.heads c.requires.merge c.args.prefix.now c.args.routes.now.items first (sym c.in-Some.ensures.top) (c.in-Some.ensures.least c.requires.merge.heap) c.requires.least (sym c.is_same.ensures ∙ c.if-not-is_same.true)

pub index_mut-requires : goal.index_mut-requires
index_mut-requires g c =
    let m = c.args.self.now in
    let place = top_place m.lists m.heads c.in-Some.first c.requires.merge (sym c.in-Some.ensures.top) in
    omega (arith, place.0, c.self.inside.cursors.ok.0, ap (λ (s : MergeState). length s.lists) c.self.view_is)

pub overflow_cast-peer : goal.overflow_cast-peer
overflow_cast-peer g c =
    let m = c.args.self.now in
    let place = top_place m.lists m.heads c.in-Some.first c.requires.merge (sym c.in-Some.ensures.top) in
    omega (arith, place.0, c.requires.merge.few)

pub take_routes-requires-clause-sorted : goal.take_routes-requires-clause-sorted
take_routes-requires-clause-sorted g c =
    let lists : List Entries = c.self.inside.cursors.items in
    let at = c.in-Some.first.1 in
    let merge = subst IsMerge (sym c.self.view_is) c.requires.merge in
    let place = top_place lists (heap_items c.self.inside.heads) c.in-Some.first merge (subst (λ (m : MergeState). top_of m.heads ≡ Some c.in-Some.first) (sym c.self.view_is) (sym c.in-Some.ensures.top)) in
    let own : c.index_mut.result.now ≡ get_or lists at [] = c.index_mut.ensures.value ∙ same_get lists at c.index_mut.result.now [] place.0 in
    subst (λ (es : Entries). T (is_sorted key_cmp es)) (sym own) (get_all (λ (es : Entries). T (is_sorted key_cmp es)) lists at [] merge.sorted place.0)

pub take_routes-requires-clause-least : goal.take_routes-requires-clause-least
take_routes-requires-clause-least g c =
    let lists : List Entries = c.self.inside.cursors.items in
    let at = c.in-Some.first.1 in
    let merge = subst IsMerge (sym c.self.view_is) c.requires.merge in
    let place = top_place lists (heap_items c.self.inside.heads) c.in-Some.first merge (subst (λ (m : MergeState). top_of m.heads ≡ Some c.in-Some.first) (sym c.self.view_is) (sym c.in-Some.ensures.top)) in
    let above : AreAbove c.args.prefix.now lists = subst (λ (m : MergeState). AreAbove c.args.prefix.now m.lists) (sym c.self.view_is) c.requires.least in
    let own : c.index_mut.result.now ≡ get_or lists at [] = c.index_mut.ensures.value ∙ same_get lists at c.index_mut.result.now [] place.0 in
    subst (AllByRecursion (AtOrAbove c.args.prefix.now)) (sym own) (get_all (λ (es : Entries). AllByRecursion (AtOrAbove c.args.prefix.now) es) lists at [] above place.0)

pub returns-clause-merge : goal.returns-clause-merge
returns-clause-merge g c =
    let lists : List Entries = c.self.inside.cursors.items in
    let heads = heap_items c.self.inside.heads in
    let first = c.in-Some.first in
    let merge = subst IsMerge (sym c.self.view_is) c.requires.merge in
    let top : top_of heads ≡ Some c.in-Some.first = subst (λ (m : MergeState). top_of m.heads ≡ Some c.in-Some.first) (sym c.self.view_is) (sym c.in-Some.ensures.top) in
    let place = top_place lists heads first merge top in
    let own : c.index_mut.result.now ≡ get_or lists first.1 [] = c.index_mut.ensures.value ∙ same_get lists first.1 c.index_mut.result.now [] place.0 in
    let popped = subst (λ (o : Option Head). IfSome o (λ (x : Head). IsPermutation heads (record { 0 = x } ∷ heap_items c.drop_top.new.heads))) top c.drop_top.ensures.top in
    let pushed = subst (λ (o : Option IpPrefix). PushesHead o first.1 (heap_items c.drop_top.new.heads) (heap_items c.push_head.new.heads)) c.in_ok-next.ensures.next c.in_ok-push_head.ensures in
    merge_step lists heads merge c.args.prefix.now first c.take_routes.new.self (heap_items c.drop_top.new.heads) (heap_items c.push_head.new.heads) top
    (sym c.is_same.ensures ∙ c.if-not-is_same.false) (c.in_ok-next.ensures.left ∙ ap (others_of c.args.prefix.now) own)
    popped (c.drop_top.ensures.heap merge.heap) pushed

pub returns-clause-step : goal.returns-clause-step
returns-clause-step g c =
    let lists : List Entries = c.self.inside.cursors.items in
    let heads = heap_items c.self.inside.heads in
    let first = c.in-Some.first in
    let p = c.args.prefix.now in
    let merge = subst IsMerge (sym c.self.view_is) c.requires.merge in
    let top : top_of heads ≡ Some c.in-Some.first = subst (λ (m : MergeState). top_of m.heads ≡ Some c.in-Some.first) (sym c.self.view_is) (sym c.in-Some.ensures.top) in
    let place = top_place lists heads first merge top in
    let own : c.index_mut.result.now ≡ get_or lists first.1 [] = c.index_mut.ensures.value ∙ same_get lists first.1 c.index_mut.result.now [] place.0 in
    let above : AreAbove p lists = subst (λ (m : MergeState). AreAbove p m.lists) (sym c.self.view_is) c.requires.least in
    let bound = subst (λ (m : MergeState). IsUpperBound first_before (record { 0 = first }) m.heads) (sym c.self.view_is) (c.in-Some.ensures.least c.requires.merge.heap) in
    let step =
    steps lists heads merge p c.args.routes.now.items c.take_routes.new.routes.items first c.take_routes.new.self top bound above (sym c.is_same.ensures ∙ c.if-not-is_same.false)
    (c.in_ok-next.ensures.taken ∙ ap (λ (es : Entries). c.args.routes.now.items ++ map (prefix_route first.1) (filter (has_prefix p) es)) own)
    (c.in_ok-next.ensures.left ∙ ap (others_of p) own) in
    subst (λ (m : MergeState). StepsOver p m.lists c.args.routes.now.items (set lists first.1 c.take_routes.new.self) c.take_routes.new.routes.items true) c.self.view_is step
