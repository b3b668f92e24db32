-- What happened to the keys of all peers, and which of it is listed.
use Rattle.std.specs.Prelude.{ℕ, Bool, true, false, not, ◌&&◌, Option, List, [], map}
use Rattle.std.specs.List.{filter}
use Rattle.mrt_frame.specs.Positions.{flat_map_after}
use Rattle.peer_units.specs.Choices.{Choices}
use Rattle.peer_units.specs.Plain.{Payload}
use Rattle.peer_units.specs.declared.unit.Payload.TheVariants.{State, Message, Entry, Clear}
use Rattle.peer_units.specs.declared.unit.PeerKey.{PeerKey}
use Rattle.peer_units.specs.Plain.{Unit as ReplayUnit}
use Rattle.adj_rib.specs.Plain.{Note}
use Rattle.adj_rib.specs.declared.outcome.What.{What}
use Rattle.adj_rib.specs.declared.outcome.What.TheVariants.{New, Changed, Same, Gone, Void, Lost}
use Rattle.adj_rib.specs.Histories.{WatchState, is_before, is_chosen_note, unit_notes, watch_of}
use Rattle.bgp_prefix.specs.Keys.{RouteKey}
use Rattle.bgp_update.specs.declared.route.Route.{Route}
use Rattle.bgp_prefix.specs.Prefixes.{IpPrefix}
use Rattle.peer_tables.specs.declared.history.HistoryRow.{HistoryRow}
use Rattle.peer_tables.specs.declared.history.By.{By}
use Rattle.peer_tables.specs.declared.history.By.TheVariants as by
use Rattle.peer_tables.specs.declared.history.Listed.{Listed}
use Rattle.peer_tables.specs.declared.history.Listed.TheVariants.{Nothing, Changes, All}
use Rattle.peer_tables.specs.declared.history.Listing.{Listing}
use Rattle.peer_tables.specs.Peers.{peers_of, units_of_peer}

-- ---- what happened

-- What each unit did to the keys of its peer, each beside the unit: in the order of the units, and within a unit in
-- that of its steps. A unit is taken after its peer's own units before it.
unfoldable pub history_of : List ReplayUnit → List (ReplayUnit × Note)
history_of units =
    flat_map_after (λ before unit. map (λ note. (unit, note)) (unit_notes (units_of_peer before unit.peer) unit)) [] units

-- the same for the units of one peer
unfoldable pub history_of_own : List ReplayUnit → List (ReplayUnit × Note)
history_of_own own = flat_map_after (λ before unit. map (λ note. (unit, note)) (unit_notes before unit)) [] own

-- what happened at the peers that pass a test
abbrev pub history_where : (PeerKey → Bool) → List (ReplayUnit × Note) → List (ReplayUnit × Note)
history_where takes history = filter (λ e. takes e.0.peer) history

-- ---- which of it is listed

-- what brings about what a unit does
abbrev pub by_of : Payload → By
by_of (State from to rule) = by.State
by_of (Message bytes width add_path rules) = by.Update
by_of (Entry rules key attrs) = by.Rib
by_of Clear = by.Rib

-- one thing that happened to a key of a peer, at a time in microseconds
pub record RowState : Type 0 where
  pub time : ℕ
  pub peer : PeerKey
  pub by : By
  pub what : What
  pub key : RouteKey
  pub route : Option Route

-- a row as it is read
abbrev pub row_state : HistoryRow IpPrefix → RowState
row_state row = record {
  time = row.time;
  peer = row.peer;
  by = row.by;
  what = row.what;
  key = row.key;
  route = row.route;
}

-- the row of a note at a time on a peer
abbrev pub noted_row : ℕ → PeerKey → By → Note → RowState
noted_row time peer by note = record {
  time = time;
  peer = peer;
  by = by;
  what = note.what;
  key = note.key;
  route = note.route;
}

-- the row of what happened
abbrev pub row_of : ReplayUnit × Note → RowState
row_of e = noted_row e.0.time e.0.peer (by_of e.0.payload) e.1

-- more than an announcement of the route that was there
abbrev pub is_change : What → Bool
is_change New = true
is_change Changed = true
is_change Same = false
is_change Gone = true
is_change Void = true
is_change Lost = true

-- whether what happened has a row
abbrev pub is_asked : Listed → What → Bool
is_asked Nothing what = false
is_asked Changes what = is_change what
is_asked All what = true

-- what happened to a chosen key, or to a chosen route of it, from the first second on
abbrev pub is_listed : Listing → Choices → ReplayUnit × Note → Bool
is_listed listing choices e =
    not (is_before listing.since e.0.time) && (is_chosen_note choices e.1 && is_asked listing.listed e.1.what)

-- The rows of units: lanes, rings and workers don't occur.
unfoldable pub history_rows : Listing → Choices → List ReplayUnit → List RowState
history_rows listing choices units = map row_of (filter (is_listed listing choices) (history_of units))

-- ---- the watches on all peers

-- a watch on a peer
pub record PeerWatch : Type 0 where
  pub key : PeerKey
  pub watch : WatchState

-- for each peer of the units, by first appearance, the watch that took the peer's own units, and counts from this
-- second on
unfoldable pub watches_of : Option ℕ → Choices → List ReplayUnit → List PeerWatch
watches_of since choices units =
    map (λ q. record { key = q; watch = watch_of since choices (units_of_peer units q) }) (peers_of units)
