-- The tables of all peers.
use Rattle.std.specs.Prelude.{◌≡◌, ℕ, List, ◌++◌, map, IsPermutation}
use Rattle.std.specs.List.{flat_map, enumerate_from}
use Rattle.std.specs.List.Sorted.{IsStrictlyIncreasing}
use Rattle.bgp_prefix.specs.Keys.{RouteKey}
use Rattle.bgp_update.specs.declared.route.Route.{Route}
use Rattle.peer_units.specs.declared.unit.PeerKey.{PeerKey}
use Rattle.peer_units.specs.declared.unit.Damage.{Damage}
use Rattle.peer_units.specs.Plain.{Unit as ReplayUnit}
use Rattle.peer_units.specs.Choices.{Choices}
use Rattle.adj_rib.specs.Sessions.{SessionState, session_of, chosen_session}
use Rattle.peer_tables.specs.Peers.{peers_of, units_of_peer}

-- a session under its peer's number
pub record Seat : Type 0 where
  pub number : ℕ
  pub key : PeerKey
  pub session : SessionState

pub record TablesState : Type 0 where
  pub seats : List Seat
  pub refused : List Damage

-- exactly the seats handed in, each once, by number
pub record IsCollected (seats : List Seat) (refused : List Damage) (tables : TablesState) : Type 0 where
  pub same : IsPermutation seats tables.seats
  pub ascending : IsStrictlyIncreasing (map (λ s. s.number) tables.seats)
  pub refused_kept : tables.refused ≡ refused

-- the tables that stand for units and refusals: of each peer, by number, what its own units make of a session
unfoldable pub tables_of : List ReplayUnit → List Damage → TablesState
tables_of units refused = record {
  seats = map (λ e. record { number = e.0; key = e.1; session = session_of (units_of_peer units e.1) })
      (enumerate_from 0 (peers_of units));
  refused = refused;
}

-- the tables of which the chosen routes of chosen prefixes are left
abbrev pub chosen_seat : Choices → Seat → Seat
chosen_seat choices seat = record seat { session = chosen_session choices seat.session }

abbrev pub chosen_tables : Choices → TablesState → TablesState
chosen_tables choices tables = record tables { seats = map (chosen_seat choices) tables.seats }

-- all faults: the refusals, then each peer's
abbrev pub all_faults : TablesState → List Damage
all_faults tables = tables.refused ++ flat_map (λ s. s.session.faults) tables.seats

-- every entry of these seats' tables: the seats in their order, the keys of each in order
abbrev pub seat_routes : List Seat → List (RouteKey × Route)
seat_routes seats = flat_map (λ s. s.session.table) seats

-- all routes: peers by number
abbrev pub all_routes : TablesState → List (RouteKey × Route)
all_routes tables = seat_routes tables.seats
