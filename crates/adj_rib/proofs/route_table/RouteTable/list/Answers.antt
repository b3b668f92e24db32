use Rattle.std.proofs.Common.{◌≡◌, ◌∙◌, ◌++◌, ap, sym, subst, List, arith}
use Rattle.std.specs.List.{All}
use Rattle.std.specs.Borrow.{Bor}
use Rattle.std.specs.FinMap as finite
use Rattle.bgp_prefix.specs.Keys.{RouteKey}
use Rattle.bgp_update.specs.declared.route.Route.{Route}
use Rattle.adj_rib.specs.declared.routes.RouteId.{RouteId}
use Rattle.adj_rib.specs.Applied.{RouteMap}
use Rattle.adj_rib.specs.Routes.{IsNamed, ids_now, routes_now}
use Rattle.adj_rib.proofs.NamedRoutes.{len-named_routes}
use Rattle.adj_rib.proofs.Listings.{routes_listed, listed_named}
use Rattle.adj_rib.proofs.route_table.RouteTable.list.Goals as goal

pub list-requires : goal.list-requires
list-requires g c =
    let same = len-named_routes c.self.inside.routes (g.M.PrefixMap.contents c.self.inside.map) in
    let whole = ap (λ (m : RouteMap). finite.len m) c.self.view_is in
    omega (arith, c.requires.ids, c.clear.ensures.len, c.clear.ensures.capacity, same, whole)

pub list_routes-requires-clause-named : goal.list_routes-requires-clause-named
list_routes-requires-clause-named g c =
    let listed : ids_now c.list.new.all.items ≡ finite.entries (g.M.PrefixMap.contents c.self.inside.map) =
    c.list.ensures.entries ∙ ap (λ (es : List (RouteKey × Bor RouteId)). ids_now es ++ finite.entries (g.M.PrefixMap.contents c.self.inside.map)) c.clear.ensures.items in
    subst (All (λ (e : RouteKey × Bor RouteId). IsNamed c.self.inside.routes e.1.now.at)) (sym c.as_slice.ensures.value)
    (listed_named c.self.inside.routes (g.M.PrefixMap.contents c.self.inside.map) c.list.new.all.items c.self.invariant listed)

pub list_routes-requires-clause-room : goal.list_routes-requires-clause-room
list_routes-requires-clause-room g c =
    let same = len-named_routes c.self.inside.routes (g.M.PrefixMap.contents c.self.inside.map) in
    let whole = ap (λ (m : RouteMap). finite.len m) c.self.view_is in
    omega (arith, c.requires.all, c.clear-2.ensures.len, c.clear-2.ensures.capacity, c.clear.ensures.len, c.list.ensures.len, c.as_slice.ensures.len, same, whole)

pub returns-clause-entries : goal.returns-clause-entries
returns-clause-entries g c =
    let listed : ids_now c.list.new.all.items ≡ finite.entries (g.M.PrefixMap.contents c.self.inside.map) =
    c.list.ensures.entries ∙ ap (λ (es : List (RouteKey × Bor RouteId)). ids_now es ++ finite.entries (g.M.PrefixMap.contents c.self.inside.map)) c.clear.ensures.items in
    c.list_routes.ensures.routes ∙ ap (λ (es : List (RouteKey × Route)). es ++ routes_now c.self.inside.routes c.as_slice.result.now) c.clear-2.ensures.items
    ∙ ap (routes_now c.self.inside.routes) c.as_slice.ensures.value
    ∙ routes_listed c.self.inside.routes (g.M.PrefixMap.contents c.self.inside.map) c.list.new.all.items listed
    ∙ ap (λ (m : RouteMap). finite.entries m) c.self.view_is
