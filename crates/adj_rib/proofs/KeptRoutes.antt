-- The entries of a table that are left where some keys and routes are chosen.
use Rattle.std.proofs.Common.{◌≡◌, ℕ, ◌+◌, ◌<◌, Bool, true, false, cond, ◌&&◌, List, [], ◌∷◌, ◌++◌, length, get_or, take, T, refl, sym, ap, subst, ◌∙◌}
use Rattle.std.specs.Prelude.{if◌then◌else◌}
use Rattle.std.specs.Borrow.{Bor}
use Rattle.std.specs.List.{filter, fold}
use Rattle.std.specs.FinMap as finite
use Rattle.std.specs.FinMap.Entries.{is_sorted, below_all}
use Rattle.std.proofs.lemmas.List.{map-append}
use Rattle.std.proofs.lemmas.List.Elements.{filter-append}
use Rattle.std.proofs.lemmas.List.Sums.{fold-append}
use Rattle.std.proofs.lemmas.Grind.{take_at_read}
use Rattle.bgp_prefix.specs.Keys.{RouteKey}
use Rattle.bgp_prefix.specs.Keys.{key_cmp}
use Rattle.bgp_prefix.proofs.SearchLaws.{first, second}
use Rattle.bgp_update.specs.declared.route.Route.{Route}
use Rattle.peer_units.specs.Choices.{Choices}
use Rattle.adj_rib.specs.declared.routes.RouteId.{RouteId}
use Rattle.adj_rib.specs.Applied.{RouteMap}
use Rattle.adj_rib.specs.MappedValues.{put_entry}
use Rattle.adj_rib.specs.Routes.{AreNamed, IsNamed, named_routes, route_at, routes_now}
use Rattle.adj_rib.specs.Selecting.{chosen_entries, is_chosen_entry}
use Rattle.adj_rib.proofs.MappedValues.{map_values-insert}
use Rattle.adj_rib.proofs.NamedRoutes.{AreNamed-insert, by_id}
use Rattle.adj_rib.proofs.Refolded.{refolded}

-- ---- the entries that are left

module _ (choices : Choices) where
  -- one more listed entry
  pub chosen_more : (bytes : List ℕ) (es : List (RouteKey × Bor RouteId)) (i : ℕ) (e : RouteKey × Bor RouteId) → i < length es → e ≡ get_or es i e →
      fold put_entry finite.empty (chosen_entries choices (routes_now bytes (take (i + 1) es)))
      ≡ (if is_chosen_entry choices (e.0, route_at bytes e.1.now.at)
      then finite.insert (fold put_entry finite.empty (chosen_entries choices (routes_now bytes (take i es)))) e.0 (route_at bytes e.1.now.at)
      else fold put_entry finite.empty (chosen_entries choices (routes_now bytes (take i es))))
  chosen_more bytes es i e lt read =
      let entry : RouteKey × Route = (e.0, route_at bytes e.1.now.at) in
      let so_far : List (RouteKey × Route) = routes_now bytes (take i es) in
      let more : take (i + 1) es ≡ take i es ++ e ∷ [] = (take_at_read es i e lt).1 ∙ ap (λ (x : RouteKey × Bor RouteId). take i es ++ x ∷ []) (sym read) in
      ap (λ (l : List (RouteKey × Bor RouteId)). fold put_entry finite.empty (chosen_entries choices (routes_now bytes l))) more
      ∙ ap (λ (l : List (RouteKey × Route)). fold put_entry finite.empty (chosen_entries choices l)) (map-append (λ (x : RouteKey × Bor RouteId). (x.0, route_at bytes x.1.now.at)) (take i es) (e ∷ []))
      ∙ ap (fold put_entry finite.empty) (filter-append (is_chosen_entry choices) so_far (entry ∷ []))
      ∙ fold-append put_entry finite.empty (chosen_entries choices so_far) (chosen_entries choices (entry ∷ []))
      ∙ elim (is_chosen_entry choices entry) as (λ b. fold put_entry (fold put_entry finite.empty (chosen_entries choices so_far)) (cond b (entry ∷ []) [])
      ≡ (if b then finite.insert (fold put_entry finite.empty (chosen_entries choices so_far)) e.0 (route_at bytes e.1.now.at) else fold put_entry finite.empty (chosen_entries choices so_far))) [
        | true ↦ refl
        | false ↦ refl
      ]

both_true : (a b : Bool) → T a → T b → T (a && b)
both_true true b h g = g
both_true false b h g = absurd h

-- a key is added with the number of its route, if it is chosen
module _ (bytes : List ℕ) (ids next : finite.FinMap key_cmp RouteId) where
  pub named_more : (b : Bool) (key : RouteKey) (id : RouteId) → next ≡ (if b then finite.insert ids key id else ids) → IsNamed bytes id.at → AreNamed bytes ids → AreNamed bytes next
  named_more true key id e named h = AreNamed-insert bytes ids next key id e named h
  named_more false key id e named h = subst (AreNamed bytes) (sym e) h

  pub kept_more : (so_far : RouteMap) (b : Bool) (key : RouteKey) (id : RouteId) → next ≡ (if b then finite.insert ids key id else ids) → named_routes bytes ids ≡ so_far → named_routes bytes next ≡ (if b then finite.insert so_far key (route_at bytes id.at) else so_far)
  kept_more so_far true key id e was = ap (named_routes bytes) e ∙ map_values-insert (by_id bytes) ids key id ∙ ap (λ (m : RouteMap). finite.insert m key (route_at bytes id.at)) was
  kept_more so_far false key id e was = ap (named_routes bytes) e ∙ was

-- entries that are in order are so without some of them
module _ (p : RouteKey × Route → Bool) where
  below_kept : (k : RouteKey) (es : List (RouteKey × Route)) → T (below_all key_cmp k es) → T (below_all key_cmp k (filter p es))
  below_kept k [] h = h
  below_kept k (e ∷ es) h =
      elim (p e) as (λ b. T (below_all key_cmp k (cond b (e ∷ filter p es) (filter p es)))) [
        | true ↦ both_true _ _ (first _ _ h) (below_kept k es (second _ _ h))
        | false ↦ below_kept k es (second _ _ h)
      ]

  sorted_kept : (es : List (RouteKey × Route)) → T (is_sorted key_cmp es) → T (is_sorted key_cmp (filter p es))
  sorted_kept [] h = h
  sorted_kept (e ∷ es) h =
      elim (p e) as (λ b. T (is_sorted key_cmp (cond b (e ∷ filter p es) (filter p es)))) [
        | true ↦ both_true _ _ (below_kept e.0 es (first _ _ h)) (sorted_kept es (second _ _ h))
        | false ↦ sorted_kept es (second _ _ h)
      ]

  -- what is left of a map's entries is the entries of a map
  pub entries_kept : (m : RouteMap) → finite.entries (fold put_entry finite.empty (filter p (finite.entries m))) ≡ filter p (finite.entries m)
  entries_kept m =
      let kept : List (RouteKey × Route) = filter p (finite.entries m) in
      let same : finite.entries (finite.from_sorted kept) ≡ kept = finite.entries-from_sorted key_cmp kept (sorted_kept (finite.entries m) (finite.entries_sorted m)) in
      ap (λ (es : List (RouteKey × Route)). finite.entries (fold put_entry finite.empty es)) (sym same)
      ∙ ap finite.entries (refolded (finite.from_sorted kept))
      ∙ same
