-- What state changes said, the faults, the times and the arrivals after one more unit.
use Rattle.std.proofs.Common.{◌≡◌, ℕ, ◌==◌, Bool, true, false, cond, List, [], ◌∷◌, ◌++◌, Option, Some, None, Result, Ok, Err, refl, sym, ap, ◌∙◌}
use Rattle.std.specs.Prelude.{length, unwrap_or, if◌then◌else◌}
use Rattle.std.specs.List.{filter_map, cons_option, last_or}
use Rattle.std.specs.FinMap as finite
use Rattle.std.specs.FinMap.Entries.{find}
use Rattle.std.proofs.lemmas.List.{append-nil, length_push}
use Rattle.std.proofs.lemmas.List.Elements.{filter_map-append}
use Rattle.bgp_prefix.specs.Keys.{key_cmp}
use Rattle.bgp_prefix.specs.Keys.{RouteKey}
use Rattle.mrt_frame.specs.Fields.{◌>>=◌}
use Rattle.mrt_frame.specs.declared.fault.Fault.{Fault}
use Rattle.bgp_update.specs.declared.error_rule.ErrorRule.{ErrorRule}
use Rattle.bgp_update.specs.declared.width.Width.{Width}
use Rattle.bgp_update.specs.declared.route.Route.{Route}
use Rattle.bgp_update.specs.Attributes.{route_in}
use Rattle.bgp_update.specs.Families.{RouteRules, route_rules}
use Rattle.bgp_update.specs.Updates.{Update, update_in}
use Rattle.bgp_update.specs.Handling.{handled_entry, handled_update}
use Rattle.peer_units.specs.declared.state_rule.StateRule.{StateRule}
use Rattle.peer_units.specs.Plain.{Payload}
use Rattle.peer_units.specs.declared.unit.Payload.TheVariants.{State, Message, Entry, Clear}
use Rattle.peer_units.specs.Plain.{Unit as ReplayUnit}
use Rattle.peer_units.specs.declared.unit.Damage.{Damage}
use Rattle.peer_units.specs.declared.unit.Place.{Place}
use Rattle.peer_units.specs.Plain.{Event}
use Rattle.peer_units.specs.declared.meaning.Event.TheVariants as event
use Rattle.peer_units.specs.States.{up_by, established_by}
use Rattle.peer_units.specs.Payloads.{is_recorded}
use Rattle.peer_units.specs.DecodedEvents.{Means, is_recorded_event}
use Rattle.peer_units.specs.Events.{UPDATE, damaged_event, entry_event, event_in, message_event_in, message_in, update_event}
use Rattle.adj_rib.specs.declared.arrivals.Arrivals.{Arrivals}
use Rattle.adj_rib.specs.declared.churn.Churn.{Churn}
use Rattle.adj_rib.specs.Steps.{Step, state_says, last_said, is_up, is_established}
use Rattle.adj_rib.specs.Tables.{IsTable, table_of}
use Rattle.adj_rib.specs.Churns.{reading_of, damage_at, damaged_of, first_of, stopped, recorded_times, first_time, last_time}
use Rattle.adj_rib.specs.Arrived.{recorded_places, arrivals_of, arrived, arrived_by}
use Rattle.adj_rib.specs.Applied.{said_by, RouteMap, timed, timed_by, up_after, established_after, listed}
use Rattle.adj_rib.proofs.TableLaws.{last_or-append, find-table_of}
use Rattle.adj_rib.proofs.Stepping.{stopped_more}

-- ---- what state changes say

module _ (says : StateRule → ℕ → ℕ → Option Bool) where
  no_state_in_damage : (fault : Fault) (handled : Result Update Fault) → said_by says (damaged_event fault handled) ≡ None
  no_state_in_damage fault (Ok update) = refl
  no_state_in_damage fault (Err other) = refl

  no_state_in_update : (errors : ErrorRule) (r handled : Result Update Fault) → said_by says (update_event errors r handled) ≡ None
  no_state_in_update errors (Ok update) handled = refl
  no_state_in_update errors (Err fault) handled = no_state_in_damage fault handled

  no_state_in_route : (key : RouteKey) (r : Result Route Fault) (handled : Result Update Fault) → said_by says (entry_event key r handled) ≡ None
  no_state_in_route key (Ok route) handled = refl
  no_state_in_route key (Err fault) handled = no_state_in_damage fault handled

  no_state_in_message : (errors : ErrorRule) (rules : RouteRules) (width : Width) (add_path : Bool) (r : Result (ℕ × List ℕ) Fault) → said_by says (r >>= λ m. cond (m.0 == UPDATE) (update_event errors (update_in rules width add_path m.1) (handled_update errors rules width add_path m.1)) (Ok event.Other)) ≡ None
  no_state_in_message errors rules width add_path (Err fault) = refl
  no_state_in_message errors rules width add_path (Ok m) =
      elim (m.0 == UPDATE) as (λ b. said_by says (cond b (update_event errors (update_in rules width add_path m.1) (handled_update errors rules width add_path m.1)) (Ok event.Other)) ≡ None) [
        | true ↦ no_state_in_update errors (update_in rules width add_path m.1) (handled_update errors rules width add_path m.1)
        | false ↦ refl
      ]

  said_of_reading : (payload : Payload) → state_says says payload ≡ said_by says (event_in payload)
  unfolding event_in message_event_in
  said_of_reading (State from to rule) = refl
  said_of_reading (Message bytes width add_path rules) = sym (no_state_in_message rules.errors (route_rules rules) width add_path (message_in bytes))
  said_of_reading (Entry rules key attrs) = sym (no_state_in_route key (route_in (route_rules rules) rules.entry_width attrs) (handled_entry rules.errors (route_rules rules) rules.entry_width key attrs))
  said_of_reading Clear = refl

  abbrev said_in : List ReplayUnit → List Bool
  said_in units = filter_map (λ u. state_says says u.payload) units

  last_of : (o said : Option Bool) → unwrap_or (last_or o (cons_option said [])) true ≡ unwrap_or said (unwrap_or o true)
  last_of o None = refl
  last_of o (Some b) = refl

  last_said-push : (units : List ReplayUnit) (unit : ReplayUnit) → last_said says (units ++ unit ∷ []) ≡ unwrap_or (said_by says (reading_of unit)) (last_said says units)
  last_said-push units unit =
      ap (λ said. unwrap_or (last_or None said) true) (filter_map-append (λ (u : ReplayUnit). state_says says u.payload) units (unit ∷ []))
      ∙ ap (λ o. unwrap_or o true) (last_or-append None (said_in units) (cons_option (state_says says unit.payload) []))
      ∙ ap (λ said. unwrap_or (last_or (last_or None (said_in units)) (cons_option said [])) true) (said_of_reading unit.payload)
      ∙ last_of (last_or None (said_in units)) (said_by says (reading_of unit))

pub is_up-push : (units : List ReplayUnit) (unit : ReplayUnit) → is_up (units ++ unit ∷ []) ≡ up_after (is_up units) (reading_of unit)
is_up-push = last_said-push up_by

pub is_established-push : (units : List ReplayUnit) (unit : ReplayUnit) → is_established (units ++ unit ∷ []) ≡ established_after (is_established units) (reading_of unit)
is_established-push = last_said-push established_by

-- ---- the faults, and the times

listed-is : (faults : List Damage) (damage : Option Damage) → faults ++ cons_option damage [] ≡ listed faults damage
listed-is faults None = append-nil faults
listed-is faults (Some damage) = refl

pub damaged_of-push : (units : List ReplayUnit) (unit : ReplayUnit) → damaged_of (units ++ unit ∷ []) ≡ listed (damaged_of units) (damage_at unit.place (reading_of unit))
unfolding damaged_of
damaged_of-push units unit =
    filter_map-append (λ (u : ReplayUnit). damage_at u.place (reading_of u)) units (unit ∷ [])
    ∙ listed-is (filter_map (λ (u : ReplayUnit). damage_at u.place (reading_of u)) units) (damage_at unit.place (reading_of unit))

-- what is kept of recorded units, with one more unit
recorded-push : {A : Type 0} (f : ReplayUnit → A) (units : List ReplayUnit) (unit : ReplayUnit) → filter_map (λ (u : ReplayUnit). if is_recorded u.payload then Some (f u) else None) (units ++ unit ∷ []) ≡ filter_map (λ (u : ReplayUnit). if is_recorded u.payload then Some (f u) else None) units ++ (if is_recorded unit.payload then f unit ∷ [] else [])
recorded-push f units unit =
    filter_map-append (λ (u : ReplayUnit). if is_recorded u.payload then Some (f u) else None) units (unit ∷ [])
    ∙ elim (is_recorded unit.payload) as (λ b. filter_map (λ (u : ReplayUnit). if is_recorded u.payload then Some (f u) else None) units ++ cons_option (if b then Some (f unit) else None) [] ≡ filter_map (λ (u : ReplayUnit). if is_recorded u.payload then Some (f u) else None) units ++ (if b then f unit ∷ [] else [])) [
      | true ↦ refl
      | false ↦ refl
    ]

first_of-push : {A : Type 0} (xs : List A) (x : A) → first_of (xs ++ x ∷ []) ≡ Some (unwrap_or (first_of xs) x)
first_of-push [] x = refl
first_of-push (y ∷ xs) x = refl

first_of-more : {A : Type 0} (b : Bool) (xs : List A) (x : A) → first_of (xs ++ (if b then x ∷ [] else [])) ≡ (if b then Some (unwrap_or (first_of xs) x) else first_of xs)
first_of-more true xs x = first_of-push xs x
first_of-more false xs x = ap first_of (append-nil xs)

last_or-more : {A : Type 0} (b : Bool) (xs : List A) (x : A) → last_or None (xs ++ (if b then x ∷ [] else [])) ≡ (if b then Some x else last_or None xs)
last_or-more true xs x = last_or-append None xs (x ∷ [])
last_or-more false xs x = ap (last_or None) (append-nil xs)

pub first_time-push : (units : List ReplayUnit) (unit : ReplayUnit) → first_time (units ++ unit ∷ []) ≡ (if is_recorded unit.payload then Some (unwrap_or (first_time units) unit.time) else first_time units)
first_time-push units unit = ap first_of (recorded-push (λ (u : ReplayUnit). u.time) units unit) ∙ first_of-more (is_recorded unit.payload) (recorded_times units) unit.time

pub last_time-push : (units : List ReplayUnit) (unit : ReplayUnit) → last_time (units ++ unit ∷ []) ≡ (if is_recorded unit.payload then Some unit.time else last_time units)
last_time-push units unit = ap (last_or None) (recorded-push (λ (u : ReplayUnit). u.time) units unit) ∙ last_or-more (is_recorded unit.payload) (recorded_times units) unit.time

pub table_from_entries : (steps : List Step) (table : RouteMap) → finite.entries table ≡ table_of steps → IsTable steps table
table_from_entries steps table h p = finite.get-entries table p ∙ ap (find key_cmp p) h ∙ find-table_of steps p

-- the times of a unit, as it is told to be
pub timed_told : (unit : ReplayUnit) (place : Place) (time : ℕ) (event : Result Event Fault) → Means unit place time event → is_recorded_event (event_in unit.payload) ≡ is_recorded unit.payload → (c : Churn) → (if is_recorded_event event then timed time c else c) ≡ timed_by unit c
timed_told unit place time event m told c =
    ap (λ t. if is_recorded_event event then timed t c else c) (sym m.time_is)
    ∙ ap (λ b. if b then timed unit.time c else c) (ap is_recorded_event (sym m.event_is) ∙ told)

-- ---- how many units came

arrived-one : (places : List Place) (place : Place) → arrived place (record { units = stopped (length places); first = first_of places }) ≡ record { units = stopped (length (places ++ place ∷ [])); first = first_of (places ++ place ∷ []) }
unfolding arrived
arrived-one places place = λ i. record {
  units = (sym (stopped_more (length places)) ∙ ap stopped (sym (length_push places place))) i;
  first = sym (first_of-push places place) i;
}

arrived-more : (b : Bool) (places : List Place) (place : Place) → (if b then arrived place (record { units = stopped (length places); first = first_of places }) else record { units = stopped (length places); first = first_of places }) ≡ record { units = stopped (length (places ++ (if b then place ∷ [] else []))); first = first_of (places ++ (if b then place ∷ [] else [])) }
arrived-more true places place = arrived-one places place
arrived-more false places place = ap (λ (l : List Place). record { units = stopped (length l); first = first_of l }) (sym (append-nil places))

pub arrived-push : (units : List ReplayUnit) (unit : ReplayUnit) → arrived_by unit (arrivals_of units) ≡ arrivals_of (units ++ unit ∷ [])
unfolding arrivals_of
arrived-push units unit =
    arrived-more (is_recorded unit.payload) (recorded_places units) unit.place
    ∙ ap (λ (l : List Place). record { units = stopped (length l); first = first_of l }) (sym (recorded-push (λ (u : ReplayUnit). u.place) units unit))

pub arrived_told : (unit : ReplayUnit) (place : Place) (time : ℕ) (event : Result Event Fault) → Means unit place time event → is_recorded_event (event_in unit.payload) ≡ is_recorded unit.payload → (a : Arrivals) → (if is_recorded_event event then arrived place a else a) ≡ arrived_by unit a
arrived_told unit place time event m told a =
    ap (λ p. if is_recorded_event event then arrived p a else a) (sym m.place_is)
    ∙ ap (λ b. if b then arrived unit.place a else a) (ap is_recorded_event (sym m.event_is) ∙ told)
