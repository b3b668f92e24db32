-- The reports over units and refusals alone.
use Rattle.std.specs.Prelude.{◌≡◌, ℕ, Bool, List, ◌++◌, length, map, Option}
use Rattle.std.specs.List.{flat_map, filter, filter_map, count_by, list_any}
use Rattle.bgp_prefix.specs.Prefixes.{IpPrefix, prefix_cmp, prefix_eq}
use Rattle.bgp_prefix.specs.Ordered.{in_order}
use Rattle.bgp_prefix.specs.Keys.{RouteKey}
use Rattle.bgp_update.specs.declared.route.Route.{Route}
use Rattle.peer_units.specs.declared.unit.Damage.{Damage}
use Rattle.peer_units.specs.declared.unit.PeerKey.{PeerKey}
use Rattle.peer_units.specs.Plain.{Unit as ReplayUnit}
use Rattle.adj_rib.specs.Steps.{is_established, steps_of}
use Rattle.adj_rib.specs.Tables.{table_of}
use Rattle.adj_rib.specs.Arrived.{recorded_places}
use Rattle.adj_rib.specs.Churns.{churn_of, damaged_of, stopped, first_of}
use Rattle.peer_tables.specs.Peers.{peers_of, units_of_peer}
use Rattle.peer_tables.specs.Tables.{TablesState}
use Rattle.rib_report.specs.Plain.{VisibilityRow, OriginRow, SeenRow}
use Rattle.rib_report.specs.Rows.{TableRow}
use Rattle.rib_report.specs.declared.reports.churn.ChurnRow.{ChurnRow}
use Rattle.rib_report.specs.declared.reports.peers.PeerRow.{PeerRow}
use Rattle.rib_report.specs.Reports.{entry_row, is_longest, origin_pair, grouped_origins, has_several, prefix_origin, prefix_origin_cmp, prefix_origin_eq, in_place_order, route_rows, match_rows, visibility_rows, origin_rows, seen_rows, churn_rows, peer_rows, fault_rows}

-- the table that a peer's own units leave
abbrev pub table_at : List ReplayUnit → PeerKey → List (RouteKey × Route)
table_at units q = table_of (steps_of (units_of_peer units q))

-- every entry of every peer's table
abbrev pub unit_routes : List ReplayUnit → List TableRow
unit_routes units = flat_map (λ q. map (entry_row q) (table_at units q)) (peers_of units)

-- at each peer, all entries of the longest match (RFC 1812, 5.2.4.3)
abbrev pub unit_matches : List ReplayUnit → ℕ → List TableRow
unit_matches units addr =
    flat_map (λ q. map (entry_row q) (filter (is_longest addr (table_at units q)) (table_at units q))) (peers_of units)

abbrev pub prefixes_at : List ReplayUnit → PeerKey → List IpPrefix
prefixes_at units q = map (λ e. e.0.prefix) (table_at units q)

-- a key of the peer's table has this prefix
abbrev pub is_visible : List ReplayUnit → IpPrefix → PeerKey → Bool
is_visible units p q = list_any (prefix_eq p) (prefixes_at units q)

-- each prefix of any table once, in order, and at how many peers it is visible
abbrev pub unit_visibility : List ReplayUnit → List VisibilityRow
unit_visibility units =
    map (λ p. record { prefix = p; peers = count_by (is_visible units p) (peers_of units) })
    (in_order prefix_cmp (flat_map (prefixes_at units) (peers_of units)))

-- the prefixes with at least two different origins, over all peers
abbrev pub unit_origins : List ReplayUnit → List OriginRow
unit_origins units =
    filter has_several (grouped_origins (flat_map (λ q. filter_map origin_pair (table_at units q)) (peers_of units)))

abbrev pub prefix_origins_at : List ReplayUnit → PeerKey → List (IpPrefix × Option ℕ)
prefix_origins_at units q = map prefix_origin (table_at units q)

-- a route of the peer's table has this prefix and this origin AS
abbrev pub is_seen : List ReplayUnit → IpPrefix × Option ℕ → PeerKey → Bool
is_seen units e q = list_any (prefix_origin_eq e) (prefix_origins_at units q)

-- each prefix and origin AS of any table's routes once, in order, and at how many peers it is seen
abbrev pub unit_seen : List ReplayUnit → List SeenRow
unit_seen units =
    map (λ e. record { prefix = e.0; origin = e.1; peers = count_by (is_seen units e) (peers_of units) })
    (in_order prefix_origin_cmp (flat_map (prefix_origins_at units) (peers_of units)))

-- what each peer's own units did
abbrev pub unit_churn : List ReplayUnit → List ChurnRow
unit_churn units = map (λ q. record { peer = q; churn = churn_of (units_of_peer units q) }) (peers_of units)

-- a peer as its own units leave it: whether its session is established, its routes and recorded units, and when and
-- where these begin
abbrev pub peer_at : List ReplayUnit → PeerKey → PeerRow
peer_at units q =
    let own = units_of_peer units q in
    record {
      peer = q;
      is_established = is_established own;
      routes = length (table_at units q);
      units = stopped (length (recorded_places own));
      first = (churn_of own).first;
      last = (churn_of own).last;
      place = first_of (recorded_places own);
    }

abbrev pub unit_peers : List ReplayUnit → List PeerRow
unit_peers units = map (peer_at units) (peers_of units)

-- the refusals and every peer's damaged units, in place order
abbrev pub unit_faults : List ReplayUnit → List Damage → List Damage
unit_faults units refused =
    in_place_order (refused ++ flat_map (λ q. damaged_of (units_of_peer units q)) (peers_of units))

-- Each report on the tables has the rows of the report over units and refusals.
pub record HasReportsOf (units : List ReplayUnit) (refused : List Damage) (tables : TablesState) : Type 0 where
  pub routes : route_rows tables ≡ unit_routes units
  pub matches : (addr : ℕ) → match_rows tables addr ≡ unit_matches units addr
  pub visibility : visibility_rows tables ≡ unit_visibility units
  pub origins : origin_rows tables ≡ unit_origins units
  pub seen : seen_rows tables ≡ unit_seen units
  pub churn : churn_rows tables ≡ unit_churn units
  pub peers : peer_rows tables ≡ unit_peers units
  pub faults : fault_rows tables ≡ unit_faults units refused
