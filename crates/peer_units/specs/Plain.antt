-- Units and what they mean, with keys and choices of prefixes of either family.
use Rattle.std.specs.Prelude.{ℕ, List}
use Rattle.bgp_prefix.specs.Prefixes.{IpPrefix}
use Rattle.bgp_update.specs.Families.{Rules}
use Rattle.peer_units.specs.declared.choice.PrefixChoice.{PrefixChoice as PrefixChoiceOf}
use Rattle.peer_units.specs.declared.unit.Payload.{Payload as PayloadOf}
use Rattle.peer_units.specs.declared.unit.Unit.{Unit as UnitOf}
use Rattle.peer_units.specs.declared.unit.Found.{Found as FoundOf}
use Rattle.peer_units.specs.declared.meaning.Event.{Event as EventOf}
use Rattle.peer_units.specs.declared.event_ref.EventRef.{EventRef as EventRefOf}
use Rattle.peer_units.specs.declared.decoded_events.DecodedEvent.{DecodedEvent as DecodedEventOf}

-- a prefix that is named, and how others may stand to it
abbrev pub PrefixChoice : Type 0
PrefixChoice = PrefixChoiceOf IpPrefix

-- what a unit says; a message and an entry have the rules by which they are read
abbrev pub Payload : Type 0
Payload = PayloadOf (List ℕ) IpPrefix Rules

abbrev pub Unit : Type 0
Unit = UnitOf (List ℕ) IpPrefix Rules

abbrev pub Found : Type 0
Found = FoundOf IpPrefix Rules

-- what a payload means
abbrev pub Event : Type 0
Event = EventOf IpPrefix

-- the same, with keys and routes that are borrowed
abbrev pub EventRef : Type 0
EventRef = EventRefOf IpPrefix

-- the same, with keys and routes among others
abbrev pub DecodedEvent : Type 0
DecodedEvent = DecodedEventOf IpPrefix
