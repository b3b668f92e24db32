-- Units that were decoded and wait to be taken.
use Rattle.std.specs.Prelude.{◌≡◌, ℕ, List, [], map, Result, slice_index_or}
use Rattle.mrt_frame.specs.declared.fault.Fault.{Fault}
use Rattle.peer_units.specs.Events.{event_in}
use Rattle.peer_units.specs.Plain.{Event}
use Rattle.unit_rings.specs.declared.unit_head.UnitHead.{UnitHead}
use Rattle.unit_rings.specs.Plain.{PeerUnit}

-- what there is of them
pub record BatchState : Type 0 where
  pub heads : List UnitHead
  pub events : List (Result Event Fault)

abbrev pub no_batch : BatchState
no_batch = record { heads = []; events = [] }

-- all of a unit but its payload
abbrev pub head_of : PeerUnit → UnitHead
head_of item = record { number = item.number; peer = item.unit.peer; place = item.unit.place; time = item.unit.time }

-- what each of these units means, or its first fault
abbrev pub events_of : List PeerUnit → List (Result Event Fault)
events_of items = map (λ item. event_in item.unit.payload) items

-- they are these units, in order
pub record AreDecoded (batch : BatchState) (items : List PeerUnit) : Type 0 where
  pub heads : batch.heads ≡ map head_of items
  pub events : batch.events ≡ events_of items

-- this unit is at an index of them
pub record IsDecodedAt (batch : BatchState) (at : ℕ) (item : PeerUnit) : Type 0 where
  pub head : (d : UnitHead) → slice_index_or batch.heads at d ≡ head_of item
  pub event : (d : Result Event Fault) → slice_index_or batch.events at d ≡ event_in item.unit.payload
