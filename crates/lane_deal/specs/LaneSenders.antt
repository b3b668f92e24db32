-- What the dealer does in a round.
use Rattle.std.specs.Prelude.{◌≡◌, ℕ, zero, suc, ◌+◌, ◌<◌, ◌≤◌, List, [], ◌∷◌, ◌++◌, length, filter, ◌==◌, slice_index_or}
use Rattle.unit_rings.specs.UnitRings.{sent, known_free, SameProducer}
use Rattle.unit_rings.specs.Plain.{PeerUnit}
use Rattle.lane_deal.specs.Plain.{LaneSender}

-- the items whose peer has this lane, in order
abbrev pub in_lane : (ℕ → ℕ) → ℕ → List PeerUnit → List PeerUnit
in_lane lane_of lane items = filter (λ item. lane_of item.number == lane) items

-- these items were pushed, in order
pub record Pushed (before after : LaneSender) (items : List PeerUnit) : Type 0 where
  pub ring : SameProducer before.producer after.producer
  pub sent : sent after.producer ≡ sent before.producer ++ items
  pub free : known_free before.producer ≤ known_free after.producer + length items

-- each item was pushed to the lane of its peer, in order
pub record Dealt (lane_of : ℕ → ℕ) (before after : List LaneSender) (items : List PeerUnit) : Type 0 where
  pub lanes : length after ≡ length before
  pub each : (lane : ℕ) (d : LaneSender) → lane < length before →
      Pushed (slice_index_or before lane d) (slice_index_or after lane d) (in_lane lane_of lane items)

-- how many more units the dealer may deal to the ring of a lane
abbrev pub room_of : List LaneSender → ℕ → ℕ
room_of [] lane = 0
room_of (sender ∷ senders) zero = known_free sender.producer
room_of (sender ∷ senders) (suc lane) = room_of senders lane
