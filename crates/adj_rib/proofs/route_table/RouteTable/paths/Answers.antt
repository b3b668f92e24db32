use Rattle.std.proofs.Common.{◌≡◌, ◌∙◌, ℕ, ap, sym, subst}
use Rattle.std.specs.List.{All}
use Rattle.std.proofs.lemmas.Result.{IfOk-weaker}
use Rattle.std.specs.Borrow.{Bor}
use Rattle.std.specs.FinMap as finite
use Rattle.bgp_prefix.specs.Maps.{paths_of}
use Rattle.adj_rib.specs.declared.routes.RouteId.{RouteId}
use Rattle.adj_rib.specs.Applied.{RouteMap}
use Rattle.adj_rib.specs.Routes.{IsNamed, routes_now}
use Rattle.adj_rib.proofs.Listings.{paths_listed, paths_named}
use Rattle.adj_rib.proofs.route_table.RouteTable.paths.Goals as goal

pub with_routes-requires : goal.with_routes-requires
with_routes-requires g c =
    subst (All (λ (e : ℕ × Bor RouteId). IsNamed c.self.inside.routes e.1.now.at)) (sym c.as_slice.ensures.value)
    (paths_named c.self.inside.routes (g.M.PrefixMap.contents c.self.inside.map) c.args.prefix.now c.in_ok-listed.listed.items c.self.invariant c.in_ok-listed.ensures)

pub returns : goal.returns
returns g c =
    let whole : routes_now c.self.inside.routes c.as_slice.result.now ≡ paths_of c.args.prefix.now (finite.entries c.args.self.now) =
    ap (routes_now c.self.inside.routes) c.as_slice.ensures.value
    ∙ paths_listed c.self.inside.routes (g.M.PrefixMap.contents c.self.inside.map) c.args.prefix.now c.in_ok-listed.listed.items c.in_ok-listed.ensures
    ∙ ap (λ (m : RouteMap). paths_of c.args.prefix.now (finite.entries m)) c.self.view_is in
    IfOk-weaker c.with_routes.result (λ v. v.items ≡ routes_now c.self.inside.routes c.as_slice.result.now) (λ v. v.items ≡ paths_of c.args.prefix.now (finite.entries c.args.self.now)) (λ v h. h ∙ whole) c.with_routes.ensures
