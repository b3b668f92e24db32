use Rattle.std.proofs.Common.{◌≡◌, ◌∙◌, ap, sym, subst}
use Rattle.std.specs.List.{All}
use Rattle.std.proofs.lemmas.Result.{IfOk-weaker}
use Rattle.std.specs.Borrow.{Bor}
use Rattle.std.specs.FinMap as finite
use Rattle.bgp_prefix.specs.Keys.{RouteKey}
use Rattle.adj_rib.specs.declared.routes.RouteId.{RouteId}
use Rattle.adj_rib.specs.Applied.{RouteMap}
use Rattle.adj_rib.specs.Routes.{IsNamed, routes_now}
use Rattle.adj_rib.proofs.Listings.{routes_listed, listed_named}
use Rattle.adj_rib.proofs.route_table.RouteTable.entries.Goals as goal

pub with_routes-requires : goal.with_routes-requires
with_routes-requires g c =
    let all : All (λ (e : RouteKey × Bor RouteId). IsNamed c.self.inside.routes e.1.now.at) c.in_ok-listed.listed.items =
    listed_named c.self.inside.routes (g.M.PrefixMap.contents c.self.inside.map) c.in_ok-listed.listed.items c.self.invariant c.in_ok-listed.ensures in
    subst (All (λ (e : RouteKey × Bor RouteId). IsNamed c.self.inside.routes e.1.now.at)) (sym c.as_slice.ensures.value) all

pub returns : goal.returns
returns g c =
    let whole : routes_now c.self.inside.routes c.as_slice.result.now ≡ finite.entries c.args.self.now =
    ap (routes_now c.self.inside.routes) c.as_slice.ensures.value
    ∙ routes_listed c.self.inside.routes (g.M.PrefixMap.contents c.self.inside.map) c.in_ok-listed.listed.items c.in_ok-listed.ensures
    ∙ ap (λ (m : RouteMap). finite.entries m) c.self.view_is in
    IfOk-weaker c.with_routes.result (λ v. v.items ≡ routes_now c.self.inside.routes c.as_slice.result.now) (λ v. v.items ≡ finite.entries c.args.self.now) (λ v h. h ∙ whole) c.with_routes.ensures
