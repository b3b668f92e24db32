-- What a replayer shows between two rounds, and the units and refusals that it stands for.
use Rattle.std.specs.Prelude.{◌≡◌, ℕ, ◌+◌, ◌-◌, ◌^◌, ◌<◌, ◌≤◌, min, Bool, false, List, [], ◌++◌, length, Option, Some, option_to_list, slice_get}
use Rattle.std.specs.List.{flat_map}
use Rattle.bgp_prefix.specs.Keys.{RouteKey}
use Rattle.bgp_update.specs.declared.route.Route.{Route}
use Rattle.peer_units.specs.declared.unit.Damage.{Damage}
use Rattle.peer_units.specs.declared.unit.PeerKey.{PeerKey}
use Rattle.peer_units.specs.Plain.{Unit as ReplayUnit}
use Rattle.peer_tables.specs.Peers.{peers_of}
use Rattle.peer_tables.specs.Tables.{Seat, seat_routes}
use Rattle.unit_rings.specs.Plain.{PeerUnit}
use Rattle.lane_deal.specs.Lanes.{lane_units, seats_of_lane}
use Rattle.lane_deal.specs.Numbers.{with_numbers}

-- What the ends of a lane's ring tell: the producer's, what it sent and how many more units may wait; the consumer's,
-- what it received and what it knows to be waiting. Each unit goes with its peer's number.
pub record RingState : Type 0 where
  pub sent : List PeerUnit
  pub free : ℕ
  pub received : List PeerUnit
  pub known : List PeerUnit

-- a lane's ring, the sessions of its worker, and how many units this took
pub record LaneState : Type 0 where
  pub ring : RingState
  pub seats : List Seat
  pub took : ℕ

-- the lanes, the peers by number, the unit that came back from a full ring, the refusals, and how many units were dealt
pub record ReplayerState : Type 0 where
  pub lanes : List LaneState
  pub peers : List PeerKey
  pub blocked_unit : Option ReplayUnit
  pub refused : List Damage
  pub dealt : ℕ
  pub spent : Bool

-- every route of the lanes' sessions, lane after lane
abbrev pub held_routes : ReplayerState → List (RouteKey × Route)
held_routes r = flat_map (λ lane. seat_routes lane.seats) r.lanes

-- These units wait in a ring of this capacity: all that was sent, none of it received and all of it known to wait. That
-- as many more may wait as it has room for is known.
pub record WaitIn (capacity : ℕ) (waiting : List PeerUnit) (ring : RingState) : Type 0 where
  pub sent : ring.sent ≡ waiting
  pub received : ring.received ≡ []
  pub known : ring.known ≡ waiting
  pub room : length waiting ≤ capacity
  pub free : capacity ≤ length waiting + ring.free

-- These units were dealt to the lane, where all peers are numbered by `all`: some it took, and its worker's sessions
-- stand for them, in the order in which their peers came; the others wait in its ring.
pub record LaneStandsFor (capacity : ℕ) (all dealt : List ReplayUnit) (lane : LaneState) : Type 0 where
  pub taken : List ReplayUnit
  pub waiting : List ReplayUnit
  pub whole : taken ++ waiting ≡ dealt
  pub ring : WaitIn capacity (with_numbers (peers_of all) waiting) lane.ring
  pub seats : seats_of_lane all taken ≡ lane.seats
  pub counted : lane.took ≡ min (length taken) (2 ^ 64 - 1)

-- These units were dealt and these refusals listed, and there are lanes. The dealing gives the lane of a peer's number,
-- of so many lanes; the blocked unit's peer has its number already.
pub record ReplayerStandsFor (dealing : ℕ → ℕ → ℕ) (capacity : ℕ) (units : List ReplayUnit) (refused : List Damage)
    (r : ReplayerState) : Type 0 where
  pub unspent : r.spent ≡ false
  pub lanes : (lane : ℕ) (state : LaneState) → slice_get r.lanes lane ≡ Some state
      → LaneStandsFor capacity (units ++ option_to_list r.blocked_unit)
      (lane_units (λ number. dealing number (length r.lanes)) units lane) state
  pub peers : r.peers ≡ peers_of (units ++ option_to_list r.blocked_unit)
  pub refused_kept : r.refused ≡ refused
  pub some_lanes : 0 < length r.lanes
  pub dealt_counted : r.dealt ≡ min (length units) (2 ^ 64 - 1)

-- There are units that were dealt, and refusals that were listed.
pub record StandsForSome (dealing : ℕ → ℕ → ℕ) (capacity : ℕ) (r : ReplayerState) : Type 0 where
  pub units : List ReplayUnit
  pub refused : List Damage
  pub stands : ReplayerStandsFor dealing capacity units refused r
