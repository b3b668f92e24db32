-- What a worker does in a round.
use Rattle.std.specs.Prelude.{◌≡◌, ◌+◌, ◌-◌, ◌^◌, ◌<◌, min, List, ◌++◌, length}
use mathlib.Core.List.{IsPrefix}
use Rattle.rtrb.specs.Ring.{SameConsumer}
use Rattle.unit_rings.specs.DecodedUnitLists.{AreDecoded, BatchState}
use Rattle.unit_rings.specs.Plain.{PeerUnit}
use Rattle.lane_deal.specs.Plain.{Worker}
use Rattle.unit_rings.specs.UnitRings.{received, known_items}

module _ {S : Type 0} (stands_for : S → List PeerUnit → Type 0) where
  -- the worker took these items, in order, into its sessions
  pub record Took (before after : Worker S) (items : List PeerUnit) : Type 0 where
    pub lane : after.lane ≡ before.lane
    pub ring : SameConsumer before.consumer after.consumer
    pub received : received after.consumer ≡ received before.consumer ++ items
    pub counted : after.taken ≡ min (before.taken + length items) (2 ^ 64 - 1)
    pub sessions : (taken : List PeerUnit) → stands_for before.sessions taken →
        stands_for after.sessions (taken ++ items)

  -- the worker gave these items to its sessions, in order
  pub record Takes (before after : Worker S) (items : List PeerUnit) : Type 0 where
    pub lane : after.lane ≡ before.lane
    pub ring : after.consumer ≡ before.consumer
    pub counted : after.taken ≡ min (before.taken + length items) (2 ^ 64 - 1)
    pub sessions : (taken : List PeerUnit) → stands_for before.sessions taken →
        stands_for after.sessions (taken ++ items)

  -- the worker took some of the items that it knew, the first ones
  pub record TookFront (before after : Worker S) : Type 0 where
    pub items : List PeerUnit
    pub took : Took before after items
    pub some : 0 < length items
    pub left : known_items before.consumer ≡ items ++ known_items after.consumer

  -- the worker took some items
  pub record TookSome (before after : Worker S) : Type 0 where
    pub items : List PeerUnit
    pub took : Took before after items

  -- the worker took some items, all that it knew at first among them
  pub record Worked (before after : Worker S) : Type 0 where
    pub items : List PeerUnit
    pub took : Took before after items
    pub known : IsPrefix (known_items before.consumer) items

  -- of these items the first ones were taken, and the others were decoded and wait
  pub record TakesAhead (before after : Worker S) (batch : BatchState) (items : List PeerUnit) : Type 0 where
    pub taken : List PeerUnit
    pub waiting : List PeerUnit
    pub takes : Takes before after taken
    pub decoded : AreDecoded batch waiting
    pub whole : items ≡ taken ++ waiting
