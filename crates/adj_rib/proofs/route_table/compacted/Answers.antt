use Rattle.std.proofs.Common.{◌≡◌, ◌∙◌, ap, sym, subst, List}
use Rattle.std.specs.List.{All, fold}
use Rattle.std.proofs.lemmas.Result.{IfOk-weaker}
use Rattle.std.specs.Borrow.{Bor}
use Rattle.std.specs.FinMap as finite
use Rattle.bgp_prefix.specs.Keys.{RouteKey}
use Rattle.bgp_update.specs.declared.route.Route.{Route}
use Rattle.adj_rib.specs.declared.routes.RouteId.{RouteId}
use Rattle.adj_rib.specs.MappedValues.{put_entry}
use Rattle.adj_rib.specs.Routes.{IsNamed, named_routes, routes_now}
use Rattle.adj_rib.proofs.Listings.{routes_listed, listed_named}
use Rattle.adj_rib.proofs.Refolded.{refolded}
use Rattle.adj_rib.proofs.route_table.compacted.Goals as goal

pub move_listed-requires : goal.move_listed-requires
move_listed-requires g c =
    subst (All (λ (e : RouteKey × Bor RouteId). IsNamed c.args.routes.now e.1.now.at)) (sym c.as_slice.ensures.value)
    (listed_named c.args.routes.now (g.M.PrefixMap.contents c.args.table.now) c.in_ok-listed.listed.items c.requires c.in_ok-listed.ensures)

pub returns-clause-same : goal.returns-clause-same
returns-clause-same g c =
    let whole : fold put_entry finite.empty (routes_now c.args.routes.now c.as_slice.result.now) ≡ named_routes c.args.routes.now (g.M.PrefixMap.contents c.args.table.now) =
    ap (λ (l : List (RouteKey × Bor RouteId)). fold put_entry finite.empty (routes_now c.args.routes.now l)) c.as_slice.ensures.value
    ∙ ap (λ (l : List (RouteKey × Route)). fold put_entry finite.empty l) (routes_listed c.args.routes.now (g.M.PrefixMap.contents c.args.table.now) c.in_ok-listed.listed.items c.in_ok-listed.ensures)
    ∙ refolded (named_routes c.args.routes.now (g.M.PrefixMap.contents c.args.table.now)) in
    IfOk-weaker c.move_listed.result (λ r. named_routes r.0 (g.M.PrefixMap.contents r.1) ≡ fold put_entry finite.empty (routes_now c.args.routes.now c.as_slice.result.now))
    (λ r. named_routes r.0 (g.M.PrefixMap.contents r.1) ≡ named_routes c.args.routes.now (g.M.PrefixMap.contents c.args.table.now)) (λ r h. h ∙ whole) c.move_listed.ensures.same
