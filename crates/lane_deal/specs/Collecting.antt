-- Sessions are handed in by the lanes, or given back.
use Rattle.std.specs.Prelude.{◌≡◌, ℕ, List, map}
use Rattle.std.specs.List.{flat_map}
use Rattle.peer_tables.specs.declared.tables.Seated.{Seated}
use Rattle.peer_tables.specs.Seats.{seat_of}
use Rattle.peer_tables.specs.Tables.{Seat}
use Rattle.bgp_prefix.specs.declared.family.Family.{Ghosts as AddressGhosts}
use Rattle.bgp_prefix.specs.declared.map.PrefixMap.{Ghosts}
use Rattle.adj_rib.specs.declared.routes.RouteId.{RouteId}
use Rattle.unit_rings.specs.UnitRings.{ListConsumer}
use Rattle.lane_deal.specs.declared.seats.Seats.{Seats}
use Rattle.lane_deal.specs.Plain.{Worker}

-- ---- lanes of any kind, by what they show and the sessions that they hold

-- the sessions of all lanes
abbrev pub seats_held : {L M A : Type 0} → (L → List (Seated M A)) → List L → List Seat
seats_held held lanes = flat_map (λ lane. map seat_of (held lane)) lanes

module _ {L S X : Type 0} (state : L → S) (held : S → List X) (with_held : S → List X → S) where
  -- the lane's sessions are those of the list, and the other way round
  pub record Exchanged (before after : L) (list list' : List X) : Type 0 where
    pub given : list' ≡ held (state before)
    pub got : state after ≡ with_held (state before) list

-- ---- workers

-- a worker, but for where it looks for its sessions
pub record WorkerState (M A : Type 0) : Type 0 where
  pub lane : ℕ
  pub consumer : ListConsumer
  pub seats : List (Seated M A)
  pub taken : ℕ

module _ {M A : Type 0} {g : Ghosts M RouteId A} {a : AddressGhosts A} where
  abbrev pub worker_state : Worker (Seats M A g a) → WorkerState M A
  worker_state w = record { lane = w.lane; consumer = w.consumer; seats = w.sessions.seats.items; taken = w.taken }

  -- the sessions of all workers
  abbrev pub seats_of_workers : List (Worker (Seats M A g a)) → List Seat
  seats_of_workers workers = seats_held (λ w. w.sessions.seats.items) workers
