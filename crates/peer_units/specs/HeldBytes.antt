-- Units whose bytes are held in some other form, as the units that they are.
use Rattle.std.specs.Prelude.{⊤}
use Rattle.peer_units.specs.declared.unit.Payload.{Payload}
use Rattle.peer_units.specs.declared.unit.Payload.TheVariants.{State, Message, Entry, Clear}
use Rattle.peer_units.specs.declared.unit.Unit.{Unit as UnitOf}

module _ {A B P K : Type 0} where
  -- the same payload, with the bytes that are held so
  abbrev pub payload_of_held : (A → B) → Payload A P K → Payload B P K
  payload_of_held bytes_of (State from to rule) = State from to rule
  payload_of_held bytes_of (Message bytes width add_path rules) = Message (bytes_of bytes) width add_path rules
  payload_of_held bytes_of (Entry rules key attrs) = Entry rules key (bytes_of attrs)
  payload_of_held bytes_of Clear = Clear

  -- the same unit
  abbrev pub unit_of_held : (A → B) → UnitOf A P K → UnitOf B P K
  unit_of_held bytes_of u = record { place = u.place; time = u.time; peer = u.peer; payload = payload_of_held bytes_of u.payload }

-- what holds its bytes, if it has some, is such
abbrev pub BytesMeet : {A P K : Type 0} → (A → Type 0) → Payload A P K → Type 0
BytesMeet Is (State from to rule) = ⊤
BytesMeet Is (Message bytes width add_path rules) = Is bytes
BytesMeet Is (Entry rules key attrs) = Is attrs
BytesMeet Is Clear = ⊤
