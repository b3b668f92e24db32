-- What the halves of lanes show.
use Rattle.std.specs.Prelude.{Bool, List, [], ◌∷◌, map}
use Rattle.unit_rings.specs.UnitRings.{sent, known_free, received, known_items}
use Rattle.peer_tables.specs.Seats.{seat_of}
use Rattle.bgp_prefix.specs.declared.family.Family.{Ghosts as AddressGhosts}
use Rattle.bgp_prefix.specs.declared.map.PrefixMap.{Ghosts}
use Rattle.adj_rib.specs.declared.routes.RouteId.{RouteId}
use Rattle.lane_deal.specs.Dealers.{Dealer}
use Rattle.unit_rings.specs.Plain.{PeerUnit}
use Rattle.lane_deal.specs.Plain.{LaneSender, Worker}
use Rattle.lane_deal.specs.declared.seats.Seats.{Seats}
use Rattle.lane_deal.specs.Replayers.{LaneState, ReplayerState}
use Rattle.lane_deal.specs.Seating.{HoldsUnits}

module _ {M A : Type 0} {g : Ghosts M RouteId A} {a : AddressGhosts A} where
  abbrev pub lane_state : LaneSender → Worker (Seats M A g a) → LaneState
  lane_state sender worker = record {
    ring = record {
      sent = sent sender.producer;
      free = known_free sender.producer;
      received = received worker.consumer;
      known = known_items worker.consumer;
    };
    seats = map seat_of worker.sessions.seats.items;
    took = worker.taken;
  }

  -- a sender and a worker for each lane
  abbrev pub lane_states : List LaneSender → List (Worker (Seats M A g a)) → List LaneState
  lane_states [] workers = []
  lane_states (sender ∷ senders) [] = []
  lane_states (sender ∷ senders) (worker ∷ workers) = lane_state sender worker ∷ lane_states senders workers

  -- the sessions of a lane stand for these units
  abbrev pub SeatsHold : Seats M A g a → List PeerUnit → Type 0
  SeatsHold seats items = HoldsUnits (map seat_of seats.seats.items) items

  -- what a replayer of these shows
  abbrev pub state_at : {D : Type 0} → Dealer D → List LaneSender → List (Worker (Seats M A g a)) → Bool → ReplayerState
  state_at dealer senders workers
      spent = record {
        lanes = lane_states senders
            workers;
        peers = dealer.peers;
        blocked_unit = dealer.blocked_unit;
        refused = dealer.refused.items;
        dealt = dealer.dealt;
        spent = spent;
      }
