use Rattle.std.proofs.Common.{◌∙◌, sym, ap}
use Rattle.std.specs.FinMap as finite
use Rattle.adj_rib.specs.Applied.{RouteMap}
use Rattle.adj_rib.proofs.NamedRoutes.{len-named_routes}
use Rattle.adj_rib.proofs.route_table.RouteTable.len.Goals as goal

pub returns : goal.returns
returns g c = c.len.ensures ∙ sym (len-named_routes c.self.inside.routes (g.M.PrefixMap.contents c.self.inside.map)) ∙ ap (λ (m : RouteMap). finite.len m) c.self.view_is
