-- A route by another next hop (RFC 4760, section 3).
use Rattle.std.specs.Prelude.{◌≡◌, Option}
use Rattle.bgp_update.specs.declared.next_hop.NextHop.{NextHop}
use Rattle.bgp_update.specs.declared.route.Route.{Route}

abbrev pub by_hop : Route → Option NextHop → Route
by_hop route hop = record route { next_hop = hop }

-- a route differs from another one by its next hop alone
abbrev pub IsByHop : Route → Route → Type 0
IsByHop plain route = route ≡ by_hop plain route.next_hop
