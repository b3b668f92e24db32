-- What one round does to all lanes.
use Rattle.std.specs.Prelude.{◌≡◌, ℕ, ◌<◌, ◌≤◌, List, ◌++◌, length, slice_index_or, Option, Result}
use Rattle.std.specs.List.{filter_map}
use Rattle.unit_rings.specs.UnitRings.{sent}
use Rattle.mrt_frame.specs.declared.error.ReplayError.{ReplayError}
use Rattle.mrt_body.specs.Units.{unit_of}
use Rattle.mrt_body.specs.ToCome.{UnitsState}
use Rattle.lane_deal.specs.Dealers.{Dealer}
use Rattle.unit_rings.specs.Plain.{PeerUnit}
use Rattle.lane_deal.specs.Plain.{LaneSender, Worker}
use Rattle.lane_deal.specs.declared.step.Step.{Step}
use Rattle.lane_deal.specs.DealerSteps.{Deals}
use Rattle.lane_deal.specs.LaneSenders.{in_lane, room_of}
use Rattle.lane_deal.specs.LaneRings.{AreReady, LanesStand}
use Rattle.lane_deal.specs.Numbers.{with_numbers}

-- the round dealt these units, and took all that waited before it
pub record Rounded {S : Type 0} (stands_for : S → List PeerUnit → Type 0) (lane_of : ℕ → ℕ) (capacity : ℕ)
    (senders : List LaneSender) (workers : List (Worker S)) (senders' : List LaneSender) (workers' : List (Worker S))
    (items : List PeerUnit) : Type 0 where
  pub count : length senders' ≡ length senders
  pub ready : AreReady capacity senders' workers'
  pub stands : (dealt : List PeerUnit) → LanesStand stands_for lane_of senders workers dealt →
      LanesStand stands_for lane_of senders' workers' (dealt ++ items)
  pub taken : Worker S → (lane : ℕ) (d : LaneSender) → lane < length senders →
      length (sent (slice_index_or senders' lane d).producer) ≤ length (in_lane lane_of lane items)

-- what the dealer did in a round, and what came of it in the lanes
pub record PlaysLanes {S D : Type 0} (stands_for : S → List PeerUnit → Type 0) (lane_of : ℕ → ℕ) (capacity batch : ℕ)
    (senders : List LaneSender) (workers : List (Worker S)) (senders' : List LaneSender) (workers' : List (Worker S))
    (old new : Dealer D) (u : UnitsState) (known : List (Option (List ℕ))) (u' : UnitsState)
    (known' : List (Option (List ℕ))) (result : Result Step ReplayError) : Type 0 where
  pub deals : Deals lane_of batch (room_of senders) old new u known u' known' result
  pub rounded : Rounded stands_for lane_of capacity senders workers senders' workers'
      (with_numbers new.peers (filter_map unit_of deals.done))
