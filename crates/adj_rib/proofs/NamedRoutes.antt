-- Maps of numbers of routes, as they change and as routes are added.
use Rattle.std.proofs.Common.{◌≡◌, ℕ, Bool, true, false, cond, List, Option, Some, None, refl, sym, ap, subst, ◌∙◌}
use Rattle.std.specs.Prelude.{is_some, if◌then◌else◌}
use Rattle.std.specs.Option.{option_map, IfSome}
use Rattle.std.specs.Ordering.{eq_by_cmp}
use Rattle.std.specs.FinMap as finite
use Rattle.bgp_prefix.specs.Keys.{key_cmp}
use Rattle.bgp_prefix.specs.Keys.{RouteKey}
use Rattle.bgp_prefix.proofs.KeyLaws.{key_cmp_total}
use Rattle.bgp_update.specs.declared.route.Route.{Route}
use Rattle.adj_rib.specs.declared.churn.Churn.{Churn}
use Rattle.adj_rib.specs.declared.outcome.Outcome.{Outcome}
use Rattle.adj_rib.specs.declared.routes.RouteId.{RouteId}
use Rattle.bgp_update.specs.Decoded.{IsGrown}
use Rattle.adj_rib.specs.Routes.{IsNamed, route_at, named_routes, AreNamed}
use Rattle.bgp_update.specs.Equality.{route_eq}
use Rattle.adj_rib.specs.declared.outcome.Outcome.TheVariants.{Same, Changed, Gone, Void}
use Rattle.adj_rib.specs.declared.outcome.What.TheVariants as whats
use Rattle.adj_rib.specs.Plain.{Note}
use Rattle.adj_rib.specs.Histories.{announced_note, withdrawn_note, what_over, what_without}
use Rattle.adj_rib.specs.Noting.{applied_noting, what_of}
use Rattle.adj_rib.specs.Steps.{announce, withdraw}
use Rattle.adj_rib.specs.Churns.{announced_over}
use Rattle.adj_rib.specs.Applied.{RouteMap, counted}
use Rattle.adj_rib.proofs.RouteBlocks.{IsNamed-grown, route_at-grown}
use Rattle.adj_rib.proofs.MappedValues.{get-map_values, map_values-empty, map_values-insert, map_values-remove, map_values-same, len-map_values}

abbrev pub IsId : List ℕ → RouteId → Type 0
IsId bytes id = IsNamed bytes id.at

abbrev pub by_id : List ℕ → RouteId → Route
by_id bytes id = route_at bytes id.at

pub AreNamed-empty : (bytes : List ℕ) (ids : finite.FinMap key_cmp RouteId) → ids ≡ finite.empty → AreNamed bytes ids
AreNamed-empty bytes ids e k =
    let none : finite.get ids k ≡ None = ap (λ (m : finite.FinMap key_cmp RouteId). finite.get m k) e ∙ finite.get-empty key_cmp k in
    subst (λ (o : Option RouteId). IfSome o (IsId bytes)) (sym none) tt

if_cond : (bytes : List ℕ) (b : Bool) (x y : Option RouteId) → IfSome x (IsId bytes) → IfSome y (IsId bytes) → IfSome (cond b x y) (IsId bytes)
if_cond bytes true x y h g = h
if_cond bytes false x y h g = g

pub AreNamed-insert : (bytes : List ℕ) (before after : finite.FinMap key_cmp RouteId) (key : RouteKey) (id : RouteId) → after ≡ finite.insert before key id → IsNamed bytes id.at → AreNamed bytes before → AreNamed bytes after
AreNamed-insert bytes before after key id e named h k =
    let is : finite.get after k ≡ cond (eq_by_cmp key_cmp k key) (Some id) (finite.get before k) = ap (λ (m : finite.FinMap key_cmp RouteId). finite.get m k) e ∙ finite.get-insert key_cmp_total before key id k in
    subst (λ (o : Option RouteId). IfSome o (IsId bytes)) (sym is) (if_cond bytes (eq_by_cmp key_cmp k key) (Some id) (finite.get before k) named (h k))

pub AreNamed-remove : (bytes : List ℕ) (before after : finite.FinMap key_cmp RouteId) (key : RouteKey) → after ≡ finite.remove before key → AreNamed bytes before → AreNamed bytes after
AreNamed-remove bytes before after key e h k =
    let is : finite.get after k ≡ cond (eq_by_cmp key_cmp k key) None (finite.get before k) = ap (λ (m : finite.FinMap key_cmp RouteId). finite.get m k) e ∙ finite.get-remove key_cmp_total before key k in
    subst (λ (o : Option RouteId). IfSome o (IsId bytes)) (sym is) (if_cond bytes (eq_by_cmp key_cmp k key) None (finite.get before k) tt (h k))

more_named : (before after : List ℕ) (o : Option RouteId) → IsGrown before after → IfSome o (IsId before) → IfSome o (IsId after)
more_named before after None g h = tt
more_named before after (Some id) g h = IsNamed-grown before after id.at g h

pub AreNamed-grown : (before after : List ℕ) (ids : finite.FinMap key_cmp RouteId) → IsGrown before after → AreNamed before ids → AreNamed after ids
AreNamed-grown before after ids g h k = more_named before after (finite.get ids k) g (h k)

same_route : (before after : List ℕ) (o : Option RouteId) → IsGrown before after → IfSome o (IsId before) → IfSome o (λ id. by_id after id ≡ by_id before id)
same_route before after None g h = tt
same_route before after (Some id) g h = route_at-grown before after id.at g h

-- the routes of a map stay as routes are added
pub named_routes-grown : (before after : List ℕ) (ids : finite.FinMap key_cmp RouteId) → IsGrown before after → AreNamed before ids → named_routes after ids ≡ named_routes before ids
named_routes-grown before after ids g h = map_values-same (by_id after) (by_id before) ids (λ k. same_route before after (finite.get ids k) g (h k))

pub named_routes-empty : (bytes : List ℕ) (ids : finite.FinMap key_cmp RouteId) → ids ≡ finite.empty → named_routes bytes ids ≡ finite.empty
named_routes-empty bytes ids e = map_values-empty (by_id bytes) ids e

pub named_routes-remove : (bytes : List ℕ) (before after : finite.FinMap key_cmp RouteId) (key : RouteKey) → after ≡ finite.remove before key → named_routes bytes after ≡ finite.remove (named_routes bytes before) key
named_routes-remove bytes before after key e = ap (named_routes bytes) e ∙ map_values-remove (by_id bytes) before key

pub get-named_routes : (bytes : List ℕ) (ids : finite.FinMap key_cmp RouteId) (key : RouteKey) → finite.get (named_routes bytes ids) key ≡ option_map (by_id bytes) (finite.get ids key)
get-named_routes bytes ids key = get-map_values (by_id bytes) ids key

pub len-named_routes : (bytes : List ℕ) (ids : finite.FinMap key_cmp RouteId) → finite.len (named_routes bytes ids) ≡ finite.len ids
len-named_routes bytes ids = len-map_values (by_id bytes) ids

mapped_is : {A B : Type 0} (f : A → B) (o : Option A) → is_some o ≡ is_some (option_map f o)
mapped_is f None = refl
mapped_is f (Some x) = refl

pub had_route : (bytes : List ℕ) (ids : finite.FinMap key_cmp RouteId) (key : RouteKey) → is_some (finite.get ids key) ≡ is_some (finite.get (named_routes bytes ids) key)
had_route bytes ids key = mapped_is (by_id bytes) (finite.get ids key) ∙ ap is_some (sym (get-named_routes bytes ids key))

what_announced : (old : Option Route) (route : Route) → what_of (announced_over old route) ≡ what_over old route
what_announced None route = refl
what_announced (Some old) route = elim (route_eq old route) as (λ b. what_of (if b then Same else Changed) ≡ (if b then whats.Same else whats.Changed)) [ true ↦ refl | false ↦ refl ]

what_withdrawn : (old : Option Route) → what_of (if is_some old then Gone else Void) ≡ what_without old
what_withdrawn None = refl
what_withdrawn (Some old) = refl

-- a table of numbers after a change, with what is counted and noted of it
module _ {K : Type 0} (keep : K → Note → K) (bytes : List ℕ) (before after : finite.FinMap key_cmp RouteId) (key : RouteKey) (old : Option RouteId) (was : old ≡ finite.get before key) (outcome : Outcome) (c d : Churn) (count : d ≡ counted outcome c) (kept now : K) where
  abbrev was_named : RouteMap
  was_named = named_routes bytes before

  had : option_map (by_id bytes) old ≡ finite.get was_named key
  had = ap (option_map (by_id bytes)) was ∙ sym (get-named_routes bytes before key)

  pub announced : (id : RouteId) → after ≡ finite.insert before key id → outcome ≡ announced_over (option_map (by_id bytes) old) (route_at bytes id.at) → now ≡ keep kept (record { what = what_of outcome; key = key; route = Some (route_at bytes id.at); before = option_map (by_id bytes) old }) →
      ((named_routes bytes after, d), now) ≡ applied_noting keep ((was_named, c), kept) (announce key (route_at bytes id.at))
  announced id is by noted =
      let route = route_at bytes id.at in
      let grown : named_routes bytes after ≡ finite.insert was_named key route = ap (named_routes bytes) is ∙ map_values-insert (by_id bytes) before key id in
      let over : outcome ≡ announced_over (finite.get was_named key) route = by ∙ ap (λ (o : Option Route). announced_over o route) had in
      let churn : d ≡ counted (announced_over (finite.get was_named key) route) c = count ∙ ap (λ (o : Outcome). counted o c) over in
      let what = ap what_of over ∙ what_announced (finite.get was_named key) route in
      let told : now ≡ keep kept (announced_note (finite.get was_named key) key route) = noted ∙ (λ i. keep kept (record { what = what i; key = key; route = Some route; before = had i })) in
      λ i. ((grown i, churn i), told i)

  pub withdrawn : after ≡ finite.remove before key → outcome ≡ (if is_some old then Gone else Void) → now ≡ keep kept (record { what = what_of outcome; key = key; route = option_map (by_id bytes) old; before = option_map (by_id bytes) old }) →
      ((named_routes bytes after, d), now) ≡ applied_noting keep ((was_named, c), kept) (withdraw key)
  withdrawn is by noted =
      let less : named_routes bytes after ≡ finite.remove was_named key = named_routes-remove bytes before after key is in
      let over : outcome ≡ (if is_some (finite.get was_named key) then Gone else Void) = by ∙ ap (λ b. if b then Gone else Void) (mapped_is (by_id bytes) old ∙ ap is_some had) in
      let churn : d ≡ counted (if is_some (finite.get was_named key) then Gone else Void) c = count ∙ ap (λ (o : Outcome). counted o c) over in
      let what = ap what_of over ∙ what_withdrawn (finite.get was_named key) in
      let told : now ≡ keep kept (withdrawn_note (finite.get was_named key) key) = noted ∙ (λ i. keep kept (record { what = what i; key = key; route = had i; before = had i })) in
      λ i. ((less i, churn i), told i)

-- before an announcement: what is there stays as routes are added
pub stays : (before after : List ℕ) (ids : finite.FinMap key_cmp RouteId) (table : RouteMap) → IsGrown before after → AreNamed before ids → named_routes before ids ≡ table → named_routes after ids ≡ table
stays before after ids table g h e = named_routes-grown before after ids g h ∙ e

-- one more route is moved to another block
pub put_again : (before after : List ℕ) (ids next : finite.FinMap key_cmp RouteId) (so_far : RouteMap) (key : RouteKey) (id : RouteId) (route : Route) → IsGrown before after → AreNamed before ids → named_routes before ids ≡ so_far → next ≡ finite.insert ids key id → route_at after id.at ≡ route → named_routes after next ≡ finite.insert so_far key route
put_again before after ids next so_far key id route g h was e is =
    ap (named_routes after) e ∙ map_values-insert (by_id after) ids key id ∙ (λ i. finite.insert (stays before after ids so_far g h was i) key (is i))
