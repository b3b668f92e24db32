-- What state changes say of a session (RFC 4271, 8.2.2; RFC 6396, 4.4.1), by the rule that is asked for.
use Rattle.std.specs.Prelude.{⊤, ◌≡◌, ℕ, Bool, true, not, ◌&&◌, List, Option, Some, None, ◌==◌, if◌then◌else◌}
use Rattle.std.specs.List.{All}
use Rattle.bgp_update.specs.Families.{Rules, by_entry_width, of_peer}
use Rattle.bgp_update.specs.declared.width.Width.{Width}
use Rattle.peer_units.specs.declared.state_rule.StateRule.{StateRule}
use Rattle.peer_units.specs.declared.state_rule.StateRule.TheVariants.{Recorded, Established}
use Rattle.peer_units.specs.Plain.{Payload}
use Rattle.peer_units.specs.declared.unit.Payload.TheVariants.{State, Message, Entry, Clear}
use Rattle.peer_units.specs.Plain.{Unit as ReplayUnit}

-- Established, of RFC 4271's states
abbrev pub ESTABLISHED : ℕ
ESTABLISHED = 6

-- A state change is a break: as it is recorded, unless both its states are Established; by Established, where one of
-- them is and the other isn't (own).
abbrev pub breaks : StateRule → ℕ → ℕ → Bool
breaks Recorded old new = not ((old == ESTABLISHED) && (new == ESTABLISHED))
breaks Established old new = if old == ESTABLISHED then not (new == ESTABLISHED) else new == ESTABLISHED

-- The peer is up after a state change: as it is recorded, where the new state is Established; by Established always
-- (own).
abbrev pub stays_up : StateRule → ℕ → Bool
stays_up Recorded new = new == ESTABLISHED
stays_up Established new = true

-- what a state change says of whether the peer is up
abbrev pub up_by : StateRule → ℕ → ℕ → Option Bool
up_by rule old new = Some (stays_up rule new)

-- whether the session is established after a state change, if the change tells: by Established a break alone does
abbrev pub established_by : StateRule → ℕ → ℕ → Option Bool
established_by Recorded old new = Some (new == ESTABLISHED)
established_by Established old new = if breaks Established old new then Some (new == ESTABLISHED) else None

-- a payload that, if it is a state change, is taken by this rule
abbrev pub IsByRule : StateRule → Payload → Type 0
IsByRule rule (State from to other) = other ≡ rule
IsByRule rule (Message bytes width add_path rules) = ⊤
IsByRule rule (Entry rules key attrs) = ⊤
IsByRule rule Clear = ⊤

-- units whose state changes are all taken by this rule
abbrev pub AreByRule : StateRule → List ReplayUnit → Type 0
AreByRule rule units = All (λ unit. IsByRule rule unit.payload) units

-- a payload that is read by these rules, if it is a message, as they are for an external or internal peer, or an entry
-- with AS numbers of some width
abbrev pub IsReadBy : Rules → Payload → Type 0
IsReadBy rules (State from to rule) = ⊤
IsReadBy rules (Message bytes width add_path others) = (external : Bool) × (others ≡ of_peer external rules)
IsReadBy rules (Entry others key attrs) = (width : Width) × (others ≡ by_entry_width width rules)
IsReadBy rules Clear = ⊤

-- units whose messages and entries are all read by these rules
abbrev pub AreReadBy : Rules → List ReplayUnit → Type 0
AreReadBy rules units = All (λ unit. IsReadBy rules unit.payload) units
