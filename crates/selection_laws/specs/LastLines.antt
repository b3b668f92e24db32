-- What the last line of a key in a history says.
use Rattle.std.specs.Prelude.{List, map, Option, Some, None, unwrap_or, if◌then◌else◌}
use Rattle.std.specs.List.{filter, filter_map, last_or}
use Rattle.bgp_prefix.specs.Keys.{RouteKey, key_eq}
use Rattle.bgp_update.specs.declared.route.Route.{Route}
use Rattle.route_choice.specs.Choices.{every_route}
use Rattle.peer_units.specs.Choices.{Choices}
use Rattle.peer_units.specs.Plain.{PrefixChoice}
use Rattle.peer_units.specs.declared.unit.PeerKey.{PeerKey}
use Rattle.adj_rib.specs.Plain.{Note}
use Rattle.adj_rib.specs.declared.outcome.What.{What}
use Rattle.adj_rib.specs.declared.outcome.What.TheVariants.{New, Changed, Same, Gone, Void, Lost}
use Rattle.peer_tables.specs.Histories.{RowState}
use Rattle.peer_tables.specs.Peers.{peer_eq}

-- the route that stays: that of an announcement, and none after a withdrawal, a break or a clear
abbrev pub staying : What → Option Route → Option Route
staying New route = route
staying Changed route = route
staying Same route = route
staying Gone route = None
staying Void route = None
staying Lost route = None

-- what a note says of a key: nothing, or which route the key has from then on, if any
abbrev pub noted_of : RouteKey → Note → Option (Option Route)
noted_of k note = if key_eq k note.key then Some (staying note.what note.route) else None

-- the route of a key after these notes: what the last note of the key says, and none where it has none
abbrev pub route_by_last : List Note → RouteKey → Option Route
route_by_last notes k = unwrap_or (last_or None (filter_map (noted_of k) notes)) None

-- a choice of prefixes, with all routes
abbrev pub all_routes_of : List PrefixChoice → Choices
all_routes_of prefixes = record { prefixes = prefixes; routes = every_route }

-- what a row says of its key: it doesn't tell which route the key had before
abbrev pub row_note : RowState → Note
row_note row = record { what = row.what; key = row.key; route = row.route; before = None }

-- the notes of a peer's rows
abbrev pub notes_at : PeerKey → List RowState → List Note
notes_at q rows = map row_note (filter (λ row. peer_eq row.peer q) rows)
