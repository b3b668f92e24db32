-- Reports over the tables of all peers.
use Rattle.std.specs.Prelude.{ℕ, IsTrue, Bool, not, ◌&&◌, ◌||◌, ◌==◌, List, [], ◌∷◌, length, map, Option, Some, None, nat_le, nat_lt, if◌then◌else◌}
use Rattle.std.specs.List.{flat_map, filter, filter_map, count_by, list_any, list_all}
use Rattle.std.specs.Option.{option_and_then, option_map, option_eq, option_cmp}
use Rattle.std.specs.declared.cmp.Ordering.{Ordering}
use Rattle.std.specs.declared.cmp.Ordering.TheVariants.{Less, Equal, Greater}
use Rattle.std.specs.Ordering.{nat_cmp, ordering_then, is_lt}
use Rattle.std.specs.FinMap.{is_sorted}
use Rattle.bgp_prefix.specs.Prefixes.{IpPrefix, prefix_cmp, prefix_eq, contains}
use Rattle.bgp_prefix.specs.Keys.{key_cmp}
use Rattle.bgp_prefix.specs.Ordered.{in_order}
use Rattle.bgp_prefix.specs.Keys.{RouteKey}
use Rattle.bgp_update.specs.declared.route.Route.{Route}
use Rattle.bgp_update.specs.Paths.{origin_as_of}
use Rattle.peer_units.specs.declared.unit.PeerKey.{PeerKey}
use Rattle.peer_units.specs.declared.unit.Place.{Place}
use Rattle.peer_units.specs.declared.unit.Damage.{Damage}
use Rattle.peer_tables.specs.Histories.{PeerWatch}
use Rattle.peer_tables.specs.Tables.{Seat, TablesState, all_faults}
use Rattle.rib_report.specs.Rows.{TableRow}
use Rattle.rib_report.specs.Plain.{VisibilityRow, OriginRow, SeenRow}
use Rattle.rib_report.specs.declared.reports.churn.ChurnRow.{ChurnRow}
use Rattle.rib_report.specs.declared.reports.peers.PeerRow.{PeerRow}

-- ---- entries

abbrev pub entry_row : PeerKey → RouteKey × Route → TableRow
entry_row peer e = record { peer = peer; key = e.0; route = e.1 }

-- every entry of a peer's table, keys in order
abbrev pub rows_of_seat : Seat → List TableRow
rows_of_seat seat = map (entry_row seat.key) seat.session.table

-- every entry of every table: peers by number, keys in order
abbrev pub route_rows : TablesState → List TableRow
route_rows tables = flat_map rows_of_seat tables.seats

-- ---- longest match

-- a row of a route of a prefix, by its identifier
abbrev pub path_row : PeerKey → IpPrefix → ℕ × Route → TableRow
path_row peer p e = record { peer = peer; key = record { prefix = p; id = e.0 }; route = e.1 }

-- the prefix of the entry contains the address
abbrev pub matches_entry : ℕ → RouteKey × Route → Bool
matches_entry addr e = contains e.0.prefix addr

-- the other entry's prefix is the same, is shorter, or doesn't contain the address
abbrev pub yields : ℕ → RouteKey × Route → RouteKey × Route → Bool
yields addr e other =
    not (matches_entry addr other) || (prefix_eq e.0.prefix other.0.prefix || nat_lt other.0.prefix.len e.0.prefix.len)

-- its prefix contains the address, and every other prefix of the table that does is shorter
abbrev pub is_longest : ℕ → List (RouteKey × Route) → RouteKey × Route → Bool
is_longest addr table e = matches_entry addr e && list_all (yields addr e) table

-- all entries of the longest match in a peer's table (RFC 1812, 5.2.4.3)
abbrev pub matches_of_seat : ℕ → Seat → List TableRow
matches_of_seat addr seat = map (entry_row seat.key) (filter (is_longest addr seat.session.table) seat.session.table)

abbrev pub match_rows : TablesState → ℕ → List TableRow
match_rows tables addr = flat_map (matches_of_seat addr) tables.seats

-- ---- visibility

-- its keys strictly rise
abbrev pub HasOrder : Seat → Type 0
HasOrder seat = IsTrue (is_sorted key_cmp seat.session.table)

-- the prefix of each entry of a peer's table, once for each identifier
abbrev pub seat_prefixes : Seat → List IpPrefix
seat_prefixes seat = map (λ e. e.0.prefix) seat.session.table

-- the prefixes of all tables, one table after another
abbrev pub table_prefixes : TablesState → List IpPrefix
table_prefixes tables = flat_map seat_prefixes tables.seats

-- every prefix of any table, each once, in order
abbrev pub prefixes_in_tables : TablesState → List IpPrefix
prefixes_in_tables tables = in_order prefix_cmp (table_prefixes tables)

-- a key of the peer's table has this prefix
abbrev pub is_visible_at : IpPrefix → Seat → Bool
is_visible_at p seat = list_any (prefix_eq p) (seat_prefixes seat)

-- at how many peers a prefix is visible
abbrev pub visibility_of : TablesState → IpPrefix → ℕ
visibility_of tables p = count_by (is_visible_at p) tables.seats

-- every prefix of these peers' tables, in order, and at how many of them it is visible
abbrev pub visible_among : List Seat → List (IpPrefix × ℕ)
visible_among seats = map (λ p. (p, count_by (is_visible_at p) seats)) (in_order prefix_cmp (flat_map seat_prefixes seats))

abbrev pub visibility_rows : TablesState → List VisibilityRow
visibility_rows tables = map (λ p. record { prefix = p; peers = visibility_of tables p }) (prefixes_in_tables tables)

-- ---- origins

-- the origin AS of a route, where it has one (RFC 6811, section 2)
abbrev pub route_origin : Route → Option ℕ
route_origin route = option_and_then origin_as_of route.path

abbrev pub origin_pair : RouteKey × Route → Option (IpPrefix × ℕ)
origin_pair e = option_map (λ origin. (e.0.prefix, origin)) (route_origin e.1)

-- by prefix, and then by number
abbrev pub pair_cmp : IpPrefix × ℕ → IpPrefix × ℕ → Ordering
pair_cmp a b = ordering_then (prefix_cmp a.0 b.0) (nat_cmp a.1 b.1)

-- the same prefix and number
abbrev pub pair_eq : IpPrefix × ℕ → IpPrefix × ℕ → Bool
pair_eq a b = prefix_eq a.0 b.0 && (a.1 == b.1)

-- the prefix and the origin AS of each route that has one
abbrev pub seat_origins : Seat → List (IpPrefix × ℕ)
seat_origins seat = filter_map origin_pair seat.session.table

-- the prefixes and origin ASes of these peers' routes, each pair once, in order
abbrev pub origins_in_order : List Seat → List (IpPrefix × ℕ)
origins_in_order seats = in_order pair_cmp (flat_map seat_origins seats)

abbrev pub table_origins : TablesState → List (IpPrefix × ℕ)
table_origins tables = flat_map seat_origins tables.seats

-- the set of the origin ASes of a prefix's routes, ascending
abbrev pub origins_among : List (IpPrefix × ℕ) → IpPrefix → OriginRow
origins_among pairs p =
    record { prefix = p; origins = in_order nat_cmp (map (λ e. e.1) (filter (λ e. prefix_eq p e.0) pairs)) }

-- the set of the origin ASes of a prefix's routes at all peers, ascending
abbrev pub origins_of : TablesState → IpPrefix → List ℕ
origins_of tables p = (origins_among (table_origins tables) p).origins

abbrev pub has_several : OriginRow → Bool
has_several row = nat_le 2 (length row.origins)

-- each prefix that has an origin AS, in order
abbrev pub grouped_origins : List (IpPrefix × ℕ) → List OriginRow
grouped_origins pairs = map (origins_among pairs) (in_order prefix_cmp (map (λ e. e.0) pairs))

-- the prefixes with at least two different origins
abbrev pub origin_rows : TablesState → List OriginRow
origin_rows tables = filter has_several (grouped_origins (table_origins tables))

-- ---- seen

-- an origin AS by number, none last
abbrev pub origin_cmp : Option ℕ → Option ℕ → Ordering
origin_cmp (Some a) (Some b) = nat_cmp a b
origin_cmp (Some a) None = Less
origin_cmp None (Some b) = Greater
origin_cmp None None = Equal

-- by prefix, and then by origin AS
abbrev pub prefix_origin_cmp : IpPrefix × Option ℕ → IpPrefix × Option ℕ → Ordering
prefix_origin_cmp a b = ordering_then (prefix_cmp a.0 b.0) (origin_cmp a.1 b.1)

-- the same prefix and origin AS, or none at both
abbrev pub prefix_origin_eq : IpPrefix × Option ℕ → IpPrefix × Option ℕ → Bool
prefix_origin_eq a b = prefix_eq a.0 b.0 && option_eq (λ m n. m == n) a.1 b.1

-- the prefix and the origin AS of a route, which may have none (RFC 6811, section 2)
abbrev pub prefix_origin : RouteKey × Route → IpPrefix × Option ℕ
prefix_origin e = (e.0.prefix, route_origin e.1)

-- the prefix and the origin AS of each route of a peer
abbrev pub seat_prefix_origins : Seat → List (IpPrefix × Option ℕ)
seat_prefix_origins seat = map prefix_origin seat.session.table

-- a route of the peer's table has this prefix and this origin AS
abbrev pub is_seen_at : IpPrefix × Option ℕ → Seat → Bool
is_seen_at e seat = list_any (prefix_origin_eq e) (seat_prefix_origins seat)

-- how many peers have a route of the prefix with this origin AS
abbrev pub seen_of : TablesState → IpPrefix × Option ℕ → ℕ
seen_of tables e = count_by (is_seen_at e) tables.seats

-- every prefix and origin AS of these peers' routes, in order, and at how many of the peers it is seen
abbrev pub seen_among : List Seat → List ((IpPrefix × Option ℕ) × ℕ)
seen_among seats =
    map (λ e. (e, count_by (is_seen_at e) seats)) (in_order prefix_origin_cmp (flat_map seat_prefix_origins seats))

-- every prefix and origin AS of all peers' routes, each once, in order, and how many peers have such a route
abbrev pub seen_rows : TablesState → List SeenRow
seen_rows tables =
    map (λ e. record { prefix = e.0; origin = e.1; peers = seen_of tables e })
    (in_order prefix_origin_cmp (flat_map seat_prefix_origins tables.seats))

-- ---- churn

abbrev pub peer_churn : Seat → ChurnRow
peer_churn seat = record { peer = seat.key; churn = seat.session.churn }

abbrev pub churn_rows : TablesState → List ChurnRow
churn_rows tables = map peer_churn tables.seats

-- what a watch counted, and what each of these did
abbrev pub watch_churn : PeerWatch → ChurnRow
watch_churn watched = record { peer = watched.key; churn = watched.watch.churn }

abbrev pub watch_churns : List PeerWatch → List ChurnRow
watch_churns watches = map watch_churn watches

-- ---- peers

-- a peer as its units leave it
abbrev pub peer_row : Seat → PeerRow
peer_row seat = record {
  peer = seat.key;
  is_established = seat.session.established;
  routes = length seat.session.table;
  units = seat.session.arrivals.units;
  first = seat.session.churn.first;
  last = seat.session.churn.last;
  place = seat.session.arrivals.first;
}

abbrev pub peer_rows : TablesState → List PeerRow
peer_rows tables = map peer_row tables.seats

-- ---- faults

-- by file, offset and entry, none first
abbrev pub place_cmp : Place → Place → Ordering
place_cmp a b =
    ordering_then (nat_cmp a.file b.file)
    (ordering_then (nat_cmp a.offset b.offset) (option_cmp nat_cmp a.entry b.entry))

-- behind those that stand earlier
abbrev pub placed : Damage → List Damage → List Damage
placed d [] = d ∷ []
placed d (e ∷ es) = if is_lt (place_cmp e.place d.place) then e ∷ placed d es else d ∷ e ∷ es

-- in place order; those of one place as they stood
abbrev pub in_place_order : List Damage → List Damage
in_place_order [] = []
in_place_order (d ∷ ds) = placed d (in_place_order ds)

abbrev pub fault_rows : TablesState → List Damage
fault_rows tables = in_place_order (all_faults tables)
