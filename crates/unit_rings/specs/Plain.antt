-- Units on their way to the sessions, with keys of either family.
use Rattle.std.specs.Prelude.{ℕ, List}
use Rattle.bgp_prefix.specs.Prefixes.{IpPrefix}
use Rattle.bgp_update.specs.Families.{Rules}
use Rattle.unit_rings.specs.declared.listed_unit.ListedUnit.{ListedUnit as ListedUnitOf}
use Rattle.unit_rings.specs.declared.peer_unit.PeerUnit.{PeerUnit as PeerUnitOf}
use Rattle.unit_rings.specs.declared.unit_list.UnitList.{UnitList as UnitListOf}
use Rattle.unit_rings.specs.declared.unit_producer.UnitProducer.{UnitProducer as UnitProducerOf}

-- a unit, with its peer's number
abbrev pub PeerUnit : Type 0
PeerUnit = PeerUnitOf (List ℕ) IpPrefix Rules

-- a unit of a list
abbrev pub ListedUnit : Type 0
ListedUnit = ListedUnitOf IpPrefix Rules

abbrev pub UnitList : Type 0
UnitList = UnitListOf IpPrefix Rules

-- the dealer's end of a ring
abbrev pub UnitProducer : Type 0
UnitProducer = UnitProducerOf IpPrefix Rules
