-- The numbers of peers, and the lanes that a dealing gives their units to.
use Rattle.std.specs.Prelude.{ℕ, List, map, ◌==◌}
use Rattle.std.specs.List.{filter, position_or_len}
use Rattle.peer_units.specs.Plain.{Unit as ReplayUnit}
use Rattle.peer_units.specs.declared.unit.PeerKey.{PeerKey}
use Rattle.adj_rib.specs.Sessions.{session_of}
use Rattle.peer_tables.specs.Peers.{peer_eq, peers_of, units_of_peer}
use Rattle.peer_tables.specs.Tables.{Seat}

-- a peer's number: its position by first appearance
abbrev pub number_of_peer : List ReplayUnit → PeerKey → ℕ
number_of_peer units q = position_or_len (peer_eq q) (peers_of units)

-- the lane of a unit among these: that of its peer's number
abbrev pub lane_of_unit : (ℕ → ℕ) → List ReplayUnit → ReplayUnit → ℕ
lane_of_unit lane_of units unit = lane_of (number_of_peer units unit.peer)

-- the units of a lane, in order
abbrev pub lane_units : (ℕ → ℕ) → List ReplayUnit → ℕ → List ReplayUnit
lane_units lane_of units lane = filter (λ unit. lane_of_unit lane_of units unit == lane) units

-- One session for each peer of these units, under its number among all: it stands for the peer's units here.
abbrev pub seats_of_lane : List ReplayUnit → List ReplayUnit → List Seat
seats_of_lane all units =
    map (λ q. record { number = number_of_peer all q; key = q; session = session_of (units_of_peer units q) })
    (peers_of units)
