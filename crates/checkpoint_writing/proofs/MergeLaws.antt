-- A merge of peers' entries, kept from step to step.
use Rattle.std.proofs.Common.{◌≡◌, inl, inr, ℕ, zero, suc, ◌+◌, ◌^◌, ◌<◌, Bool, true, false, not, List, [], ◌∷◌, ◌++◌, length, map, get_or, Option, Some, None, T, refl, sym, ap, subst, ◌∙◌, arith, append_assoc, append-nil}
use Rattle.std.proofs.Math.ListN.{set}
use Rattle.std.proofs.lemmas.List.{length-set, length-append}
use Rattle.std.specs.BinaryHeap.{IsHeap, IsUpperBound}
use Rattle.std.specs.List.{filter, AllByRecursion}
use Rattle.std.specs.List.Sorted.{IsPermutation}
use Rattle.std.specs.Ordering.{is_lt, nat_cmp, ordering_then}
use Rattle.std.specs.declared.cmp.Ordering.{Ordering}
use Rattle.std.specs.declared.cmp.Ordering.TheVariants.{Less}
use Rattle.std.specs.declared.cmp.Reverse.{Reverse}
use Rattle.std.specs.FinMap.Entries.{is_sorted, is_sorted-where_key}
use borrow.Author.Tests.{both_ways}
use Rattle.bgp_prefix.specs.Prefixes.{IpPrefix, prefix_cmp, prefix_eq}
use Rattle.bgp_prefix.specs.Keys.{RouteKey, key_cmp, begins_with}
use Rattle.bgp_prefix.proofs.KeyLaws.{same_prefix}
use Rattle.bgp_update.specs.declared.route.Route.{Route}
use Rattle.mrt_writing.specs.RibRecords.{PrefixRoute}
use Rattle.table_dumps.specs.Checkpoints.{prefix_route}
use Rattle.checkpoint_writing.specs.Merging.{Entries, has_prefix, first_prefix, prefixes_among, routes_among, others_of, without, AtOrAbove, AreAbove, NoneHas, IsLeast, TakesLeast, StepsOver, entries_count, Head, head_cmp, is_head, first_before, top_of, PushesHead, MergeState, IsMerge}
use Rattle.checkpoint_writing.proofs.HeadLaws.{AreCounted, IsBound, head_at, set_all, get_all, others_above, routes_step, without_step, none_has, no_routes, all_left, all_above, head_stands, top_is_head, top_is_least, none_counted, head_later, head_here, counted_more, counted_same, counted_left, counted_next, step_fewer, without_fewer}

all_more : {A : Type 0} (P : A → Type 0) (xs : List A) (x : A) → AllByRecursion P xs → P x → AllByRecursion P (xs ++ x ∷ [])
all_more P [] x h p = (p, tt)
all_more P (y ∷ xs) x h p = (h.0, all_more P xs x h.1 p)

pub same_get : {A : Type 0} (xs : List A) (i : ℕ) (d e : A) → i < length xs → get_or xs i d ≡ get_or xs i e
same_get [] i d e within = absurd (omega arith)
same_get (x ∷ xs) zero d e within = refl
same_get (x ∷ xs) (suc i) d e within = same_get xs i d e (omega arith)

abbrev pub state : List Entries → List (Reverse Head) → MergeState
state lists heads = record { lists = lists; heads = heads }

-- ---- one peer more

pub merge_more : (lists : List Entries) (es : Entries) (heads more : List (Reverse Head)) → IsMerge (state lists heads) → T (is_sorted key_cmp es) → length lists + 1 < 256 ^ 2 → PushesHead (first_prefix es) (length lists) heads more → IsMerge (state (lists ++ es ∷ []) more)
merge_more lists [] heads more h s few pushed = record {
  sorted = all_more (λ (es : Entries). T (is_sorted key_cmp es)) lists [] h.sorted s;
  few = omega (arith, few, length-append lists ([] ∷ []));
  heap = subst (IsHeap first_before) (sym pushed) h.heap;
  counted = subst (AreCounted (lists ++ [] ∷ [])) (sym pushed) (counted_same lists heads h.counted);
}
merge_more lists (e ∷ es) heads more h s few pushed = record {
  sorted = all_more (λ (fs : Entries). T (is_sorted key_cmp fs)) lists (e ∷ es) h.sorted s;
  few = omega (arith, few, length-append lists ((e ∷ es) ∷ []));
  heap = pushed.1 h.heap;
  counted = counted_more lists e es heads more h.counted pushed.0;
}

-- ---- what the top is

-- the list of the head on top begins with its prefix
pub top_place : (lists : List Entries) (heads : List (Reverse Head)) (x : Head) → IsMerge (state lists heads) → top_of heads ≡ Some x → (x.1 < length lists) × (begins_with x.0 (get_or lists x.1 []) ≡ true)
top_place lists [] x h top = absurd cc
top_place lists (y ∷ heads) x h top =
    let same : y.0 ≡ x = cc in
    let found = head_at 0 lists y.0 (top_is_head lists y heads h.counted) in
    let place : found.at ≡ x.1 = omega (arith, found.place, ap (λ (k : Head). k.1) same) in (
      omega (arith, found.within, place),
      (λ i. begins_with (sym same i).0 (get_or lists (sym place i) [])) ∙ found.begins,
    )

module _ (lists : List Entries) (heads : List (Reverse Head)) (merge : IsMerge (state lists heads)) where
  top_bound : (x : Head) → IsUpperBound first_before (record { 0 = x }) heads → IsBound 0 lists x
  top_bound x bound = top_is_least lists (record { 0 = x }) heads merge.counted bound

  -- ---- no peer has the prefix

  abbrev Stays : IpPrefix → List PrefixRoute → Type 0
  Stays p routes = StepsOver p lists routes lists routes false

  stays : (p : IpPrefix) (routes : List PrefixRoute) → AreAbove p lists → NoneHas p lists → Stays p routes
  stays p routes above none = record {
    routes_are = refl;
    left = refl;
    above = above;
    fewer = λ e. absurd cc;
    same = λ e. refl;
    none = λ e. none;
  }

  no_heads : top_of heads ≡ None → (k : Head) → is_head 0 lists k ≡ true → ⊥
  no_heads top k h = by_heads heads top merge.counted
    where
      by_heads : (hs : List (Reverse Head)) → top_of hs ≡ None → AreCounted lists hs → ⊥
      by_heads [] t counted = none_counted lists k counted h
      by_heads (y ∷ hs) t counted = absurd cc

  pub stays_empty : (p : IpPrefix) (routes : List PrefixRoute) → top_of heads ≡ None → AreAbove p lists → Stays p routes
  stays_empty p routes top above = stays p routes above (none_has p 0 lists (λ k h. absurd (no_heads top k h)) above merge.sorted)

  -- a prefix that isn't on top, and above none, is before the top
  before_top : (p : IpPrefix) (x : Head) → top_of heads ≡ Some x → AreAbove p lists → prefix_eq p x.0 ≡ false → prefix_cmp p x.0 ≡ Less
  before_top p x top above other =
      let place = top_place lists heads x merge top in
      by_list (get_or lists x.1 []) (get_all (λ (es : Entries). AllByRecursion (AtOrAbove p) es) lists x.1 [] above place.0) place.1
    where
      by_first : (e : RouteKey × Route) → AtOrAbove p e → prefix_eq x.0 e.0.prefix ≡ true → prefix_cmp p x.0 ≡ Less
      by_first e (inl same) t = absurd (both_ways (prefix_eq p x.0) other (ap (prefix_eq p) (same_prefix x.0 e.0.prefix t) ∙ same))
      by_first e (inr less) t = ap (prefix_cmp p) (same_prefix x.0 e.0.prefix t) ∙ less

      by_list : (es : Entries) → AllByRecursion (AtOrAbove p) es → begins_with x.0 es ≡ true → prefix_cmp p x.0 ≡ Less
      by_list [] a t = absurd cc
      by_list (e ∷ es) a t = by_first e a.0 t

  pub stays_before : (p : IpPrefix) (routes : List PrefixRoute) (x : Head) → top_of heads ≡ Some x → IsUpperBound first_before (record { 0 = x }) heads → AreAbove p lists → prefix_eq p x.0 ≡ false → Stays p routes
  stays_before p routes x top bound above other =
      stays p routes above (none_has p 0 lists (λ k h. by_test k h (prefix_eq p k.0) refl) above merge.sorted)
    where
      by_test : (k : Head) → is_head 0 lists k ≡ true → (b : Bool) → prefix_eq p k.0 ≡ b → b ≡ false
      by_test k h false t = refl
      by_test k h true t =
          absurd (both_ways (is_lt (head_cmp k x)) (top_bound x bound k h)
          (ap (λ (q : IpPrefix). is_lt (ordering_then (prefix_cmp q x.0) (nat_cmp k.1 x.1))) (sym (same_prefix p k.0 t))
          ∙ ap (λ (r : Ordering). is_lt (ordering_then r (nat_cmp k.1 x.1))) (before_top p x top above other)))

  -- ---- the peer on top has it

  pub steps : (p : IpPrefix) (routes later : List PrefixRoute) (x : Head) (es : Entries) → top_of heads ≡ Some x → IsUpperBound first_before (record { 0 = x }) heads → AreAbove p lists → prefix_eq p x.0 ≡ true
      → later ≡ routes ++ map (prefix_route x.1) (filter (has_prefix p) (get_or lists x.1 [])) → es ≡ others_of p (get_or lists x.1 [])
      → StepsOver p lists routes (set lists x.1 es) later true
  steps p routes later x es top bound above own taken left =
      let place = top_place lists heads x merge top in
      let same : p ≡ x.0 = same_prefix p x.0 own in
      let within = place.0 in
      let begins : begins_with p (get_or lists x.1 []) ≡ true = ap (λ (q : IpPrefix). begins_with q (get_or lists x.1 [])) same ∙ place.1 in
      let here = map (prefix_route x.1) (filter (has_prefix p) (get_or lists x.1 [])) in
      let rest = others_of p (get_or lists x.1 []) in
      let bound_of : IsBound 0 lists (p, 0 + x.1) = λ k h. (λ i. is_lt (head_cmp k (same i, zero_more x.1 i))) ∙ top_bound x bound k h in
      record {
        routes_are =
            (λ i. taken i ++ routes_among p 0 (set lists x.1 (left i)))
            ∙ append_assoc routes here (routes_among p 0 (set lists x.1 rest))
            ∙ ap (λ (l : List PrefixRoute). routes ++ l)
            (sym (routes_step p 0 x.1 lists within bound_of above merge.sorted
            ∙ ap (λ (n : ℕ). map (prefix_route n) (filter (has_prefix p) (get_or lists x.1 [])) ++ routes_among p 0 (set lists x.1 rest)) (zero_more x.1)));
        left = ap (λ (l : Entries). without p (set lists x.1 l)) left ∙ without_step p x.1 lists;
        above = set_all (λ (fs : Entries). AllByRecursion (AtOrAbove p) fs) lists x.1 es above (subst (AllByRecursion (AtOrAbove p)) (sym left) (others_above p (get_or lists x.1 []) (get_all (λ (fs : Entries). AllByRecursion (AtOrAbove p) fs) lists x.1 [] above within)));
        fewer = λ _. subst (λ (l : Entries). entries_count (set lists x.1 l) < entries_count lists) (sym left) (step_fewer p lists x.1 within begins);
        same = λ e. absurd cc;
        none = λ e. absurd cc;
      }
    where
      zero_more : (n : ℕ) → 0 + n ≡ n
      zero_more n = omega arith

  pub merge_step : (p : IpPrefix) (x : Head) (es : Entries) (mid new : List (Reverse Head)) → top_of heads ≡ Some x → prefix_eq p x.0 ≡ true → es ≡ others_of p (get_or lists x.1 [])
      → IsPermutation heads (record { 0 = x } ∷ mid) → IsHeap first_before mid → PushesHead (first_prefix es) x.1 mid new → IsMerge (state (set lists x.1 es) new)
  merge_step p x es mid new top own left popped heap pushed =
      let place = top_place lists heads x merge top in
      let sorted : T (is_sorted key_cmp es) = subst (λ (l : Entries). T (is_sorted key_cmp l)) (sym left) (is_sorted-where_key key_cmp (λ (k : RouteKey). not (prefix_eq p k.prefix)) (get_or lists x.1 []) (get_all (λ (fs : Entries). T (is_sorted key_cmp fs)) lists x.1 [] merge.sorted place.0)) in
      record {
        sorted = set_all (λ (fs : Entries). T (is_sorted key_cmp fs)) lists x.1 es merge.sorted sorted;
        few = omega (arith, merge.few, length-set {A = Entries} lists x.1 es);
        heap = (by_first (first_prefix es) refl pushed).0;
        counted = (by_first (first_prefix es) refl pushed).1;
      }
    where
      by_first : (first : Option IpPrefix) → first_prefix es ≡ first → PushesHead first x.1 mid new → IsHeap first_before new × AreCounted (set lists x.1 es) new
      by_first None t same =
          let place = top_place lists heads x merge top in (
            subst (IsHeap first_before) (sym same) heap,
            subst (AreCounted (set lists x.1 es)) (sym same) (counted_left lists x.0 x.1 es heads mid place.0 place.1 merge.counted popped t),
          )
      by_first (Some q) t moved =
          let place = top_place lists heads x merge top in
          (moved.1 heap, counted_next lists x.0 x.1 es heads mid place.0 place.1 merge.counted popped q new t moved.0)

  -- ---- a whole prefix

  pub none_left : top_of heads ≡ None → prefixes_among lists ≡ []
  none_left top = by_lists 0 lists (no_heads top)
    where
      by_lists : (n : ℕ) (ls : List Entries) → ((k : Head) → is_head n ls k ≡ true → ⊥) → prefixes_among ls ≡ []
      by_lists n [] none = refl
      by_lists n ([] ∷ ls) none = by_lists (n + 1) ls (λ k h. none k (head_later n [] ls k h))
      by_lists n ((e ∷ es) ∷ ls) none = absurd (none (e.0.prefix, n) (head_here n e es ls))

  pub begins_least : (x : Head) → top_of heads ≡ Some x → IsUpperBound first_before (record { 0 = x }) heads → IsLeast x.0 lists
  begins_least x top bound =
      let place = top_place lists heads x merge top in
      record { stands = head_stands x.0 x.1 lists place.0 place.1; least = all_above x.0 x.1 0 lists (top_bound x bound) merge.sorted }

  pub left_fewer : (x : Head) (new : List Entries) → top_of heads ≡ Some x → new ≡ without x.0 lists → entries_count new < entries_count lists
  left_fewer x new top left =
      let place = top_place lists heads x merge top in
      subst (λ (ls : List Entries). entries_count ls < entries_count lists) (sym left) (without_fewer x.0 x.1 lists place.0 place.1)

-- once no peer has the prefix, its routes are taken
pub takes_least : (p : IpPrefix) (old new : List Entries) (routes : List PrefixRoute) → IsLeast p old → routes ++ routes_among p 0 new ≡ routes_among p 0 old → without p new ≡ without p old → NoneHas p new → TakesLeast old new routes p
takes_least p old new routes least taken left none = record {
  least = least;
  routes_are = sym (append-nil routes) ∙ ap (λ (l : List PrefixRoute). routes ++ l) (sym (no_routes p 0 new none)) ∙ taken;
  left = sym (all_left p new none) ∙ left;
}
