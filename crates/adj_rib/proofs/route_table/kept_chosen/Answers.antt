use Rattle.std.proofs.Common.{◌≡◌, ◌∙◌, ap, sym, subst, List}
use Rattle.std.specs.List.{All, fold}
use Rattle.std.proofs.lemmas.Result.{IfOk-weaker}
use Rattle.std.specs.Borrow.{Bor}
use Rattle.std.specs.FinMap as finite
use Rattle.bgp_prefix.specs.Keys.{RouteKey}
use Rattle.bgp_update.specs.declared.route.Route.{Route}
use Rattle.adj_rib.specs.declared.routes.RouteId.{RouteId}
use Rattle.adj_rib.specs.MappedValues.{put_entry}
use Rattle.adj_rib.specs.Routes.{IsNamed, named_routes, routes_now}
use Rattle.adj_rib.specs.Selecting.{chosen_entries, is_chosen_entry}
use Rattle.adj_rib.proofs.KeptRoutes.{entries_kept}
use Rattle.adj_rib.proofs.Listings.{routes_listed, listed_named}
use Rattle.adj_rib.proofs.route_table.kept_chosen.Goals as goal

pub keep_listed-requires : goal.keep_listed-requires
keep_listed-requires g c =
    subst (All (λ (e : RouteKey × Bor RouteId). IsNamed c.args.routes.now e.1.now.at)) (sym c.as_slice.ensures.value)
    (listed_named c.args.routes.now (g.M.PrefixMap.contents c.args.table.now) c.in_ok-listed.listed.items c.requires c.in_ok-listed.ensures)

pub returns-clause-chosen : goal.returns-clause-chosen
returns-clause-chosen g c =
    let choices = c.args.chosen.now in
    let bytes = c.args.routes.now in
    let ids = g.M.PrefixMap.contents c.args.table.now in
    let whole : finite.entries (fold put_entry finite.empty (chosen_entries choices (routes_now bytes c.as_slice.result.now))) ≡ chosen_entries choices (finite.entries (named_routes bytes ids)) =
    ap (λ (l : List (RouteKey × Bor RouteId)). finite.entries (fold put_entry finite.empty (chosen_entries choices (routes_now bytes l)))) c.as_slice.ensures.value
    ∙ ap (λ (l : List (RouteKey × Route)). finite.entries (fold put_entry finite.empty (chosen_entries choices l))) (routes_listed bytes ids c.in_ok-listed.listed.items c.in_ok-listed.ensures)
    ∙ entries_kept (is_chosen_entry choices) (named_routes bytes ids) in
    IfOk-weaker c.keep_listed.result (λ kept. named_routes bytes (g.M.PrefixMap.contents kept) ≡ fold put_entry finite.empty (chosen_entries choices (routes_now bytes c.as_slice.result.now)))
    (λ kept. finite.entries (named_routes bytes (g.M.PrefixMap.contents kept)) ≡ chosen_entries choices (finite.entries (named_routes bytes ids))) (λ kept h. ap finite.entries h ∙ whole) c.keep_listed.ensures.chosen
