-- What payloads are of, and how many bytes they carry.
use Rattle.std.specs.Prelude.{Bool, true, false, List, [], ℕ, ◌≤◌, length}
use Rattle.mrt_frame.specs.Cuts.{body_limit}
use Rattle.peer_units.specs.Plain.{Payload}
use Rattle.peer_units.specs.declared.unit.Payload.{Payload as PayloadOf}
use Rattle.peer_units.specs.declared.unit.Payload.TheVariants.{State, Message, Entry, Clear}
use Rattle.peer_units.specs.declared.unit.Unit.{Unit as UnitOf}

-- ---- what is recorded

-- whether a payload is what a record has of the peer, and not that a RIB dump clears its table
abbrev pub is_recorded : Payload → Bool
is_recorded (State from to rule) = true
is_recorded (Message bytes width add_path rules) = true
is_recorded (Entry rules key attrs) = true
is_recorded Clear = false

-- ---- how many bytes a unit carries

module _ {P K : Type 0} where
  -- those of a message, or of an entry's attributes
  abbrev pub payload_bytes : PayloadOf (List ℕ) P K → List ℕ
  payload_bytes (State from to rule) = []
  payload_bytes (Message bytes width add_path rules) = bytes
  payload_bytes (Entry rules key attrs) = attrs
  payload_bytes Clear = []

  -- no more than the greatest body of a record
  abbrev pub IsSmallUnit : UnitOf (List ℕ) P K → Type 0
  IsSmallUnit unit = length (payload_bytes unit.payload) ≤ body_limit
