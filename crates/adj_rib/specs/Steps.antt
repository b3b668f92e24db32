-- What a peer's units do to its table (RFC 4271, 4.3, 8 and 9; RFC 6396, 4.4; RFC 4760, section 3).
use Rattle.std.specs.Prelude.{ℕ, Bool, true, not, ◌||◌, List, [], ◌∷◌, ◌++◌, map, Option, None, Result, Ok, Err, unwrap_or, if◌then◌else◌}
use Rattle.std.specs.List.{filter, filter_map, last_or}
use Rattle.bgp_prefix.specs.Keys.{among}
use Rattle.bgp_prefix.specs.Keys.{RouteKey}
use Rattle.mrt_frame.specs.Positions.{flat_map_after}
use Rattle.mrt_frame.specs.declared.fault.Fault.{Fault}
use Rattle.bgp_update.specs.declared.route.Route.{Route}
use Rattle.bgp_update.specs.Updates.{Update}
use Rattle.bgp_update.specs.Hops.{by_hop}
use Rattle.peer_units.specs.declared.state_rule.StateRule.{StateRule}
use Rattle.peer_units.specs.Plain.{Payload}
use Rattle.peer_units.specs.declared.unit.Payload.TheVariants.{State, Message, Entry, Clear}
use Rattle.peer_units.specs.Plain.{Unit as ReplayUnit}
use Rattle.peer_units.specs.Plain.{Event}
use Rattle.peer_units.specs.declared.meaning.Event.TheVariants as event
use Rattle.peer_units.specs.States.{breaks, established_by, up_by}
use Rattle.peer_units.specs.Events.{event_in}

-- a change of a table
pub data Step : Type 0 where
  break : Step
  clear : Step
  announce : RouteKey → Route → Step
  withdraw : RouteKey → Step

-- what a payload says by this, if it is a state change and says anything
abbrev pub state_says : (StateRule → ℕ → ℕ → Option Bool) → Payload → Option Bool
state_says says (State from to rule) = says rule from to
state_says says (Message bytes width add_path rules) = None
state_says says (Entry rules key attrs) = None
state_says says Clear = None

-- what the last state change says that says anything; true where none does
abbrev pub last_said : (StateRule → ℕ → ℕ → Option Bool) → List ReplayUnit → Bool
last_said says units = unwrap_or (last_or None (filter_map (λ u. state_says says u.payload) units)) true

-- The peer is up after the last state change, or there is none.
abbrev pub is_up : List ReplayUnit → Bool
is_up units = last_said up_by units

-- The session is established after the last state change that tells, or none does.
abbrev pub is_established : List ReplayUnit → Bool
is_established units = last_said established_by units

-- a break, or nothing
abbrev pub state_steps : StateRule → ℕ → ℕ → List Step
state_steps rule old new = if breaks rule old new then break ∷ [] else []

-- what is withdrawn, and neither announced nor reached (own, after 4.3)
abbrev pub withdrawals : Update → List Step
withdrawals u = map withdraw (filter (λ key. not (among u.announced key || among u.reached key)) u.withdrawn)

-- what is announced, with the route
abbrev pub announcements : Update → List Step
announcements u = map (λ key. announce key u.route) u.announced

-- what MP_REACH_NLRI announces, by its own next hop
abbrev pub reachings : Update → List Step
reachings u = map (λ key. announce key (by_hop u.route u.reached_hop)) u.reached

-- the withdrawals, then the announcements, then those of MP_REACH_NLRI, each in order
abbrev pub update_steps : Update → List Step
update_steps u = withdrawals u ++ announcements u ++ reachings u

-- the steps of an event of a peer that is up or not
abbrev pub event_steps : Bool → Event → List Step
event_steps up (event.State old new rule) = state_steps rule old new
event_steps up (event.Change update) = if up then update_steps update else []
event_steps up (event.Rib key route) = if up then announce key route ∷ [] else []
event_steps up event.Other = []
event_steps up event.Clear = clear ∷ []
event_steps up (event.Handled fault update) = if up then update_steps update else []

-- a damaged unit about which nothing is done takes no step
abbrev pub reading_steps : Bool → Result Event Fault → List Step
reading_steps up (Ok e) = event_steps up e
reading_steps up (Err fault) = []

unfoldable pub unit_steps : Bool → ReplayUnit → List Step
unit_steps up unit = reading_steps up (event_in unit.payload)

-- all steps, in order: each unit's, as the peer is up or not before it
unfoldable pub steps_of : List ReplayUnit → List Step
steps_of units = flat_map_after (λ before unit. unit_steps (is_up before) unit) [] units
