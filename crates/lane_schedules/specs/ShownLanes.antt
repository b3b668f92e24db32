-- What lanes on one thread show.
use Rattle.std.specs.Prelude.{◌≡◌, ℕ, ◌<◌, ◌≤◌, ◌-◌, ◌^◌, List, [], length, map, min, slice_index_or}
use Rattle.peer_units.specs.Plain.{Unit as ReplayUnit}
use Rattle.peer_tables.specs.Peers.{peers_of}
use Rattle.bgp_prefix.specs.declared.family.Family.{Ghosts as AddressGhosts}
use Rattle.bgp_prefix.specs.declared.map.PrefixMap.{Ghosts}
use Rattle.bgp_update.specs.declared.unicast.Unicast.{Ghosts as UnicastGhosts}
use Rattle.adj_rib.specs.declared.routes.RouteId.{RouteId}
use Rattle.unit_rings.specs.Plain.{PeerUnit}
use Rattle.lane_schedules.specs.declared.schedule.OneLane.{OneLane}
use Rattle.lane_schedules.specs.declared.scheduled.Lanes.{Lanes}
use Rattle.lane_deal.specs.Numbers.{with_numbers}
use Rattle.lane_schedules.specs.OneLanes.{one_lane_state}
use Rattle.lane_schedules.specs.Schedules.{LanesState, IsShared}
use Rattle.lane_deal.specs.Shown.{SeatsHold}

module _ {M A : Type 0} {g : Ghosts M RouteId A} {a : AddressGhosts A} where
  -- the units that wait in the lane and those that it took, of these
  pub record LaneShows (all : List ReplayUnit) (lane : OneLane M A g a) (waiting taken : List ReplayUnit)
      : Type 0 where
    pub ring : lane.ring.items ≡ with_numbers (peers_of all) waiting
    pub seats : SeatsHold lane.seats (with_numbers (peers_of all) taken)
    pub took : lane.took ≡ min (length taken) (2 ^ 64 - 1)

  pub record LanesShow (all : List ReplayUnit) (undealt : List PeerUnit) (lanes : List (OneLane M A g a))
      (s : LanesState) : Type 0 where
    pub rest : undealt ≡ with_numbers (peers_of all) s.undealt
    pub each : (lane : ℕ) (d : OneLane M A g a) → lane < length lanes →
        LaneShows all (slice_index_or lanes lane d) (s.ring lane) (s.taken lane)
    pub past : (lane : ℕ) → length lanes ≤ lane → (s.ring lane ≡ []) × (s.taken lane ≡ [])

module _ {M A : Type 0} {g : Ghosts M RouteId A} {a : AddressGhosts A} {u : UnicastGhosts A} where
  -- Lanes that deal these units are in this state: what each took and what waits in its ring are, in order, its own of
  -- those dealt.
  pub record Shows (all : List ReplayUnit) (lanes : Lanes M A g a u) (s : LanesState) : Type 0 where
    pub lane_of : ℕ → ℕ
    pub shared : IsShared lane_of all s
    pub lists : LanesShow all lanes.undealt.items lanes.lanes.items s

  -- the same units are not dealt or wait, and the sessions are the same
  abbrev pub ShowsSame : Lanes M A g a u → Lanes M A g a u → Type 0
  ShowsSame old new =
      (old.undealt ≡ new.undealt) × (map one_lane_state old.lanes.items ≡ map one_lane_state new.lanes.items)
