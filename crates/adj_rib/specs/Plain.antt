-- What happened to keys of either family.
use Rattle.std.specs.Prelude.{Option}
use Rattle.bgp_prefix.specs.Keys.{RouteKey}
use Rattle.bgp_update.specs.declared.route.Route.{Route}
use Rattle.adj_rib.specs.declared.outcome.What.{What}

-- one thing that happened to a key: the route is the one that the key has from then on, or the one that went; there is
-- none where a key without a route is withdrawn. Before it the key had the other one, or none.
pub record Note : Type 0 where
  pub what : What
  pub key : RouteKey
  pub route : Option Route
  pub before : Option Route
