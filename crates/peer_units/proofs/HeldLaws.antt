-- Payloads whose bytes are held in some other form.
use Rattle.std.proofs.Common.{◌≡◌, ℕ, List, refl, ap, ◌∙◌}
use Rattle.peer_units.specs.HeldBytes.{payload_of_held, unit_of_held}
use Rattle.peer_units.specs.declared.unit.Payload.TheVariants.{State, Message, Entry, Clear}
use Rattle.peer_units.specs.Plain.{Payload, Unit as ReplayUnit}
use Rattle.peer_units.specs.Payloads.{payload_bytes}

-- a payload whose bytes are replaced by themselves
pub own_payload : (bytes : List ℕ) (payload : Payload) → bytes ≡ payload_bytes payload → payload_of_held (λ _. bytes) payload ≡ payload
own_payload bytes payload is = ap (λ b. payload_of_held (λ _. b) payload) is ∙ whole payload
  where
    whole : (payload : Payload) → payload_of_held (λ _. payload_bytes payload) payload ≡ payload
    whole (State from to rule) = refl
    whole (Message bytes width add_path rules) = refl
    whole (Entry rules key attrs) = refl
    whole Clear = refl

pub own_unit : (bytes : List ℕ) (u : ReplayUnit) → bytes ≡ payload_bytes u.payload → unit_of_held (λ _. bytes) u ≡ u
own_unit bytes u is =
    ap (λ payload. record { place = u.place; time = u.time; peer = u.peer; payload = payload }) (own_payload bytes u.payload is)
