-- Rings of lists of units, seen as rings of units.
use Rattle.std.specs.Prelude.{◌≡◌, ℕ, ◌≤◌, List, ◌++◌}
use Rattle.std.specs.declared.alloc.Global.{Global}
use Rattle.rtrb.specs.Ends.{SameRing}
use Rattle.rtrb.specs.Ring.{sent as sent_lists, received as received_lists, known_items as lists_known}
use Rattle.rtrb.specs.declared.consumer.Consumer.{Consumer}
use Rattle.unit_rings.specs.Plain.{PeerUnit, UnitList, UnitProducer}
use Rattle.unit_rings.specs.declared.peer_unit.NonEmptyLists.{NonEmptyLists}
use Rattle.unit_rings.specs.UnitLists.{units_of, units_of_lists}

abbrev pub ListConsumer : Type 0
ListConsumer = Consumer UnitList Global NonEmptyLists

-- every unit dealt to the ring so far: those of the lists that were pushed, and those of the list that is being filled
abbrev pub sent : UnitProducer → List PeerUnit
sent p = units_of_lists (sent_lists p.lists) ++ units_of p.open_list

-- how many more units the dealer may deal to the ring
abbrev pub known_free : UnitProducer → ℕ
known_free p = p.free

-- how many units may wait in the ring
abbrev pub ring_capacity : UnitProducer → ℕ
ring_capacity p = p.capacity

-- every unit of the lists that were popped
abbrev pub received : ListConsumer → List PeerUnit
received c = units_of_lists (received_lists c)

-- the lists that the worker has seen in the ring
abbrev pub known_lists : ListConsumer → List UnitList
known_lists c = lists_known c

-- the units of the lists that the worker has seen in the ring
abbrev pub known_items : ListConsumer → List PeerUnit
known_items c = units_of_lists (lists_known c)

-- the two ends of one ring
abbrev pub IsPair : UnitProducer → ListConsumer → Type 0
IsPair p c = SameRing p.lists.end c.end

abbrev pub SameProducer : UnitProducer → UnitProducer → Type 0
SameProducer a b = SameRing a.lists.end b.lists.end × (b.capacity ≡ a.capacity)

-- nothing was dealt, and as many more units may wait as before, or more
abbrev pub ProducerLooked : UnitProducer → UnitProducer → Type 0
ProducerLooked a b = SameProducer a b × (sent b ≡ sent a) × (known_free a ≤ known_free b)
