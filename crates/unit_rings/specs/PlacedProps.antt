-- That a payload's bytes are within a block is a proposition.
use Rattle.std.specs.Prelude.{ℕ}
use denote.Struct.Props as logic
use Rattle.bgp_update.specs.Decoded.{IsWithin}
use Rattle.bgp_update.specs.declared.decoded.Span.{Span}
use Rattle.peer_units.specs.declared.unit.Payload.{Payload}
use Rattle.peer_units.specs.declared.unit.Payload.TheVariants.{State, Message, Entry, Clear}
use Rattle.peer_units.specs.HeldBytes.{BytesMeet}

pub meet_prop : {P K : Type 0} (size : ℕ) (payload : Payload Span P K) → IsProp (BytesMeet (IsWithin size) payload)
meet_prop size (State from to rule) = Prim.hlevel logic.props
meet_prop size (Message place width add_path rules) = Prim.hlevel logic.props
meet_prop size (Entry rules key place) = Prim.hlevel logic.props
meet_prop size Clear = Prim.hlevel logic.props
