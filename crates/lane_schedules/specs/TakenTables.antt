-- The tables of what lanes took.
use Rattle.std.specs.Prelude.{ℕ, List, [], map}
use Rattle.std.specs.List.{filter, flat_map, list_any, range_with_len}
use Rattle.peer_units.specs.Plain.{Unit as ReplayUnit}
use Rattle.adj_rib.specs.Sessions.{session_of}
use Rattle.peer_tables.specs.Peers.{peer_eq, peers_of, units_of_peer}
use Rattle.peer_tables.specs.Tables.{Seat, TablesState}
use Rattle.lane_deal.specs.Lanes.{number_of_peer}
use Rattle.lane_schedules.specs.Schedules.{LanesState}

-- what so many lanes took, lane after lane
abbrev pub units_taken : LanesState → ℕ → List ReplayUnit
units_taken s count = flat_map s.taken (range_with_len 0 count)

-- One session for each peer of the units taken, by its number among all units: it stands for the peer's units among
-- those taken.
abbrev pub seats_taken : List ReplayUnit → List ReplayUnit → List Seat
seats_taken all taken =
    map (λ q. record { number = number_of_peer all q; key = q; session = session_of (units_of_peer taken q) })
    (filter (λ q. list_any (λ u. peer_eq u.peer q) taken) (peers_of all))

-- the tables of what so many lanes took, without refusals
abbrev pub tables_taken : List ReplayUnit → LanesState → ℕ → TablesState
tables_taken all s count = record { seats = seats_taken all (units_taken s count); refused = [] }
