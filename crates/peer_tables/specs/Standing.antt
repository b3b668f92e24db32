-- Tables that stand for units and refusals.
use Rattle.std.specs.Prelude.{◌≡◌, ◌<◌, ℕ, List, length, map, Some}
use Rattle.std.specs.List.{All, Contains, slice_get}
use Rattle.std.specs.List.Sorted.{IsStrictlyIncreasing}
use Rattle.peer_units.specs.declared.unit.Damage.{Damage}
use Rattle.peer_units.specs.Plain.{Unit as ReplayUnit}
use Rattle.adj_rib.specs.Sessions.{IsSessionOf}
use Rattle.peer_tables.specs.Peers.{peers_of, units_of_peer}
use Rattle.peer_tables.specs.Tables.{Seat, TablesState}

-- It stands under the number of a peer of the units, and its session stands for that peer's units.
pub record IsSeatOf (units : List ReplayUnit) (seat : Seat) : Type 0 where
  pub numbered : slice_get (peers_of units) seat.number ≡ Some seat.key
  pub stands : IsSessionOf seat.session (units_of_peer units seat.key)

abbrev pub numbers_of : List Seat → List ℕ
numbers_of seats = map (λ s. s.number) seats

-- Each is the seat of a peer of the units, and no peer is without one.
pub record AreSeatsOf (units : List ReplayUnit) (seats : List Seat) : Type 0 where
  pub each : All (IsSeatOf units) seats
  pub every_peer : (number : ℕ) → number < length (peers_of units) → Contains (numbers_of seats) number

-- For each peer of the units, by number, one session that stands for the peer's units, and the refusals.
pub record AreTablesOf (tables : TablesState) (units : List ReplayUnit) (refused : List Damage) : Type 0 where
  pub seats : AreSeatsOf units tables.seats
  pub ascending : IsStrictlyIncreasing (numbers_of tables.seats)
  pub refused_kept : tables.refused ≡ refused
