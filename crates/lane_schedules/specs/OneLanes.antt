-- What a lane on one thread holds.
use Rattle.std.specs.Prelude.{ℕ, List}
use Rattle.peer_tables.specs.declared.tables.Seated.{Seated}
use Rattle.peer_tables.specs.Tables.{Seat}
use Rattle.bgp_prefix.specs.declared.family.Family.{Ghosts as AddressGhosts}
use Rattle.bgp_prefix.specs.declared.map.PrefixMap.{Ghosts}
use Rattle.adj_rib.specs.declared.routes.RouteId.{RouteId}
use Rattle.unit_rings.specs.Plain.{PeerUnit}
use Rattle.lane_schedules.specs.declared.schedule.OneLane.{OneLane}
use Rattle.lane_deal.specs.Collecting.{seats_held}

-- a lane, but for where it looks for its sessions
pub record OneLaneState (M A : Type 0) : Type 0 where
  pub ring : List PeerUnit
  pub seats : List (Seated M A)
  pub took : ℕ

module _ {M A : Type 0} {g : Ghosts M RouteId A} {a : AddressGhosts A} where
  abbrev pub one_lane_state : OneLane M A g a → OneLaneState M A
  one_lane_state lane = record { ring = lane.ring.items; seats = lane.seats.seats.items; took = lane.took }

  -- the sessions of all lanes
  abbrev pub seats_of_lanes : List (OneLane M A g a) → List Seat
  seats_of_lanes lanes = seats_held (λ lane. lane.seats.seats.items) lanes
