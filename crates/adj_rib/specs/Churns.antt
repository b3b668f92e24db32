-- What a peer's units did, counted.
use Rattle.std.specs.Prelude.{ℕ, ◌-◌, ◌^◌, Bool, true, false, not, ◌&&◌, List, [], ◌∷◌, min, Option, Some, None, Result, Ok, Err, is_some, ◌==◌, option_map, if◌then◌else◌}
use Rattle.std.specs.List.{count_by, filter_map, last_or}
use Rattle.mrt_frame.specs.declared.fault.Fault.{Fault}
use Rattle.bgp_update.specs.declared.route.Route.{Route}
use Rattle.mrt_frame.specs.Positions.{flat_map_after}
use Rattle.peer_units.specs.Plain.{Unit as ReplayUnit}
use Rattle.peer_units.specs.declared.unit.Damage.{Damage}
use Rattle.peer_units.specs.declared.unit.Place.{Place}
use Rattle.peer_units.specs.Plain.{Event}
use Rattle.peer_units.specs.declared.meaning.Event.TheVariants as event
use Rattle.peer_units.specs.States.{breaks}
use Rattle.peer_units.specs.Events.{event_in}
use Rattle.peer_units.specs.Payloads.{is_recorded}
use Rattle.adj_rib.specs.declared.churn.Churn.{Churn}
use Rattle.adj_rib.specs.declared.outcome.Outcome.{Outcome}
use Rattle.adj_rib.specs.declared.outcome.Outcome.TheVariants.{Added, Changed, Same, Gone, Void, Reset, Cleared}
use Rattle.bgp_update.specs.Equality.{route_eq}
use Rattle.adj_rib.specs.Steps.{Step, break, clear, announce, withdraw, is_up, steps_of}
use Rattle.adj_rib.specs.Tables.{route_at}

abbrev pub announced_over : Option Route → Route → Outcome
announced_over None route = Added
announced_over (Some old) route = if route_eq old route then Same else Changed

abbrev pub outcome_of : List Step → Step → Outcome
outcome_of before break = Reset
outcome_of before clear = Cleared
outcome_of before (announce k route) = announced_over (route_at before k) route
outcome_of before (withdraw k) = if is_some (route_at before k) then Gone else Void

-- the outcome of each step, beside the steps before it
unfoldable pub outcomes_of : List Step → List Outcome
outcomes_of steps = flat_map_after (λ before step. outcome_of before step ∷ []) [] steps

abbrev pub outcome_number : Outcome → ℕ
outcome_number Added = 0
outcome_number Changed = 1
outcome_number Same = 2
outcome_number Gone = 3
outcome_number Void = 4
outcome_number Reset = 5
outcome_number Cleared = 6

abbrev pub is_outcome : Outcome → Outcome → Bool
is_outcome outcome o = outcome_number o == outcome_number outcome

abbrev pub count_of : Outcome → List Outcome → ℕ
count_of outcome outcomes = count_by (is_outcome outcome) outcomes

-- an UPDATE or RIB entry, whole
abbrev pub is_routing : Result Event Fault → Bool
is_routing (Ok (event.Change update)) = true
is_routing (Ok (event.Rib key route)) = true
is_routing (Ok (event.State old new rule)) = false
is_routing (Ok event.Other) = false
is_routing (Ok event.Clear) = false
is_routing (Ok (event.Handled fault update)) = false
is_routing (Err fault) = false

-- a state change that is a break, whole
abbrev pub is_break : Result Event Fault → Bool
is_break (Ok (event.State old new rule)) = breaks rule old new
is_break (Ok (event.Change update)) = false
is_break (Ok (event.Rib key route)) = false
is_break (Ok event.Other) = false
is_break (Ok event.Clear) = false
is_break (Ok (event.Handled fault update)) = false
is_break (Err fault) = false

abbrev pub reading_of : ReplayUnit → Result Event Fault
reading_of unit = event_in unit.payload

-- whether each unit is an UPDATE or RIB entry of a peer that isn't up
abbrev pub idle_flags : List ReplayUnit → List Bool
idle_flags units = flat_map_after (λ before unit. (is_routing (reading_of unit) && not (is_up before)) ∷ []) [] units

-- the fault, whether anything is done about it or not
abbrev pub fault_of : Result Event Fault → Option Fault
fault_of (Ok (event.State old new rule)) = None
fault_of (Ok (event.Change update)) = None
fault_of (Ok (event.Rib key route)) = None
fault_of (Ok event.Other) = None
fault_of (Ok event.Clear) = None
fault_of (Ok (event.Handled fault update)) = Some fault
fault_of (Err fault) = Some fault

-- what is listed of a unit at a place
abbrev pub damage_at : Place → Result Event Fault → Option Damage
damage_at place reading = option_map (λ fault. record { place = place; fault = fault }) (fault_of reading)

-- the damaged units' places and faults, in order
unfoldable pub damaged_of : List ReplayUnit → List Damage
damaged_of units = filter_map (λ unit. damage_at unit.place (reading_of unit)) units

-- the first of some items, if there is one
abbrev pub first_of : {A : Type 0} → List A → Option A
first_of [] = None
first_of (x ∷ xs) = Some x

-- a count that stops at the greatest value
abbrev pub stopped : ℕ → ℕ
stopped n = min n (2 ^ 64 - 1)

-- the times of the units that are recorded
abbrev pub recorded_times : List ReplayUnit → List ℕ
recorded_times units =
    filter_map (λ (unit : ReplayUnit). if is_recorded unit.payload then Some unit.time else None) units

abbrev pub first_time : List ReplayUnit → Option ℕ
first_time units = first_of (recorded_times units)

abbrev pub last_time : List ReplayUnit → Option ℕ
last_time units = last_or None (recorded_times units)

unfoldable pub churn_of : List ReplayUnit → Churn
churn_of units =
    let outcomes = outcomes_of (steps_of units) in
    record {
      added = stopped (count_of Added outcomes);
      changed = stopped (count_of Changed outcomes);
      same = stopped (count_of Same outcomes);
      gone = stopped (count_of Gone outcomes);
      void = stopped (count_of Void outcomes);
      resets = stopped (count_of Reset outcomes);
      idle = stopped (count_by (λ flag. flag) (idle_flags units));
      refused = stopped (count_by (λ unit. is_some (fault_of (reading_of unit))) units);
      first = first_time units;
      last = last_time units;
    }
