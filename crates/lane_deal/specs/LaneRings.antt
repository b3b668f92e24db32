-- A lane between two rounds, and its ring made anew.
use Rattle.std.specs.Prelude.{◌≡◌, ℕ, ◌+◌, ◌-◌, ◌^◌, ◌<◌, ◌≤◌, min, List, [], ◌++◌, length, slice_index_or}
use Rattle.unit_rings.specs.Plain.{PeerUnit}
use Rattle.lane_deal.specs.Plain.{LaneSender, Worker}
use Rattle.lane_deal.specs.LaneSenders.{in_lane}
use Rattle.lane_deal.specs.Pairs.{ChangedBelow}
use Rattle.unit_rings.specs.UnitRings.{sent, known_free, received, known_items, ring_capacity, IsPair}

-- the two ends are those of one ring of this capacity, of which the worker knows all units and the dealer how many more
-- may wait
abbrev pub IsReady : {S : Type 0} → ℕ → LaneSender → Worker S → Type 0
IsReady capacity sender worker =
    IsPair sender.producer worker.consumer
    × (ring_capacity sender.producer ≡ capacity)
    × (received worker.consumer ≡ [])
    × (known_items worker.consumer ≡ sent sender.producer)
    × (length (sent sender.producer) ≤ capacity)
    × (known_free sender.producer + length (sent sender.producer) ≡ capacity)

abbrev pub AreReady : {S : Type 0} → ℕ → List LaneSender → List (Worker S) → Type 0
AreReady {S} capacity senders workers =
    (length workers ≡ length senders)
    × ((lane : ℕ) (d : LaneSender) (e : Worker S) → lane < length senders →
    IsReady capacity (slice_index_or senders lane d) (slice_index_or workers lane e))

module _ {S : Type 0} (stands_for : S → List PeerUnit → Type 0) where
  -- these items were dealt to the lane: some were taken, and the others wait in its ring
  pub record LaneStands (sender : LaneSender) (worker : Worker S) (dealt : List PeerUnit) : Type 0 where
    pub taken : List PeerUnit
    pub sessions : stands_for worker.sessions taken
    pub whole : taken ++ sent sender.producer ≡ dealt
    pub counted : worker.taken ≡ min (length taken) (2 ^ 64 - 1)

  -- each lane stands for its part of the items that were dealt
  abbrev pub LanesStand : (ℕ → ℕ) → List LaneSender → List (Worker S) → List PeerUnit → Type 0
  LanesStand lane_of senders workers dealt =
      (lane : ℕ) (d : LaneSender) (e : Worker S) → lane < length senders →
      LaneStands (slice_index_or senders lane d) (slice_index_or workers lane e) (in_lane lane_of lane dealt)

-- the waiting items were moved to a ring made anew
pub record Renewed {S : Type 0} (capacity : ℕ) (sender : LaneSender) (worker : Worker S) (sender' : LaneSender) (worker' : Worker S)
    : Type 0 where
  pub fifo : received worker.consumer ++ sent sender'.producer ≡ sent sender.producer
  pub sessions : worker'.sessions ≡ worker.sessions
  pub taken : worker'.taken ≡ worker.taken
  pub pair : IsPair sender'.producer worker'.consumer
  pub received : received worker'.consumer ≡ []
  pub known : known_items worker'.consumer ≡ sent sender'.producer
  pub room : length (sent sender'.producer) ≤ capacity
  pub free : known_free sender'.producer + length (sent sender'.producer) ≡ capacity
  pub fits : ring_capacity sender'.producer ≡ capacity

-- the two ends are those of one ring of this capacity
abbrev pub IsLane : {S : Type 0} → ℕ → LaneSender → Worker S → Type 0
IsLane capacity sender worker = IsPair sender.producer worker.consumer × (ring_capacity sender.producer ≡ capacity)

-- each lane was renewed
abbrev pub RenewedAll : {S : Type 0} → ℕ → List LaneSender → List (Worker S) → List LaneSender → List (Worker S) → Type 0
RenewedAll capacity senders workers senders' workers' =
    ChangedBelow (λ s s' w w'. Renewed capacity s w s' w') (length senders) senders senders' workers workers'

-- a lane to which nothing was dealt
pub record IsFresh {S : Type 0} (stands_for : S → List PeerUnit → Type 0) (capacity : ℕ) (sender : LaneSender)
    (worker : Worker S) : Type 0 where
  pub ready : IsReady capacity sender worker
  pub empty : sent sender.producer ≡ []
  pub sessions : stands_for worker.sessions []
  pub untaken : worker.taken ≡ 0

-- all lanes are fresh
pub record AreFresh {S : Type 0} (stands_for : S → List PeerUnit → Type 0) (capacity count : ℕ) (senders : List LaneSender)
    (workers : List (Worker S)) : Type 0 where
  pub senders_count : length senders ≡ count
  pub workers_count : length workers ≡ count
  pub each : (lane : ℕ) (d : LaneSender) (e : Worker S) → lane < count →
      IsFresh stands_for capacity (slice_index_or senders lane d) (slice_index_or workers lane e)

-- all that was dealt is taken
pub record Settled {S : Type 0} (stands_for : S → List PeerUnit → Type 0) (capacity : ℕ) (senders : List LaneSender)
    (workers : List (Worker S)) (senders' : List LaneSender) (workers' : List (Worker S)) : Type 0 where
  pub count : length senders' ≡ length senders
  pub ready : AreReady capacity senders' workers'
  pub stands : (lane_of : ℕ → ℕ) (dealt : List PeerUnit) → LanesStand stands_for lane_of senders workers dealt →
      LanesStand stands_for lane_of senders' workers' dealt
  pub empty : Worker S → (lane : ℕ) (d : LaneSender) → lane < length senders → sent (slice_index_or senders' lane d).producer ≡ []
