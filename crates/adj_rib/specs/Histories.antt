-- What happened to each key of a peer: a note of each announcement and withdrawal, and of each route that a break or a
-- clear ended (RFC 4271, 3.2, 4.3 and 9).
use Rattle.std.specs.Prelude.{◌≡◌, ℕ, ◌/◌, Bool, false, not, ◌&&◌, ◌||◌, List, [], ◌∷◌, map, Option, Some, None, is_some, nat_lt, if◌then◌else◌}
use Rattle.std.specs.List.{count_by, filter}
use Rattle.mrt_frame.specs.Positions.{flat_map_after}
use Rattle.bgp_prefix.specs.Keys.{RouteKey}
use Rattle.bgp_update.specs.declared.route.Route.{Route}
use Rattle.bgp_update.specs.Equality.{route_eq}
use Rattle.route_choice.specs.Choices.{RouteChoice, is_chosen_route, names_nothing}
use Rattle.peer_units.specs.Choices.{Choices}
use Rattle.peer_units.specs.declared.unit.Damage.{Damage}
use Rattle.peer_units.specs.Plain.{Unit as ReplayUnit}
use Rattle.adj_rib.specs.declared.churn.Churn.{Churn}
use Rattle.adj_rib.specs.Plain.{Note}
use Rattle.adj_rib.specs.declared.outcome.What.{What}
use Rattle.adj_rib.specs.declared.outcome.What.TheVariants.{New, Changed, Same, Gone, Void, Lost}
use Rattle.adj_rib.specs.declared.outcome.Outcome.{Outcome}
use Rattle.adj_rib.specs.declared.outcome.Outcome.TheVariants as outcome
use Rattle.adj_rib.specs.Steps.{Step, break, clear, announce, withdraw, is_up, unit_steps, steps_of}
use Rattle.adj_rib.specs.Tables.{route_at, table_of}
use Rattle.adj_rib.specs.Churns.{damaged_of, fault_of, first_time, is_break, is_outcome, is_routing, last_time, reading_of, stopped}
use Rattle.adj_rib.specs.Selecting.{chooses, selected_entries}

-- ---- what a step does to keys

-- an announcement of this route, where the key had another one, an equal one or none
abbrev pub what_over : Option Route → Route → What
what_over None route = New
what_over (Some old) route = if route_eq old route then Same else Changed

-- a withdrawal, where the key had a route or none
abbrev pub what_without : Option Route → What
what_without None = Void
what_without (Some old) = Gone

-- an announcement of a key that had this route, or none: its route is the new one
abbrev pub announced_note : Option Route → RouteKey → Route → Note
announced_note old k route = record { what = what_over old route; key = k; route = Some route; before = old }

-- a withdrawal of it: its route is the one that went
abbrev pub withdrawn_note : Option Route → RouteKey → Note
withdrawn_note old k = record { what = what_without old; key = k; route = old; before = old }

-- an entry of a table that was emptied
abbrev pub lost_note : RouteKey × Route → Note
lost_note e = record { what = Lost; key = e.0; route = Some e.1; before = Some e.1 }

-- what a step does after these steps: a break or a clear ends each route, in the order of the keys
abbrev pub noted_after : List Step → Step → List Note
noted_after before break = map lost_note (table_of before)
noted_after before clear = map lost_note (table_of before)
noted_after before (announce k route) = announced_note (route_at before k) k route ∷ []
noted_after before (withdraw k) = withdrawn_note (route_at before k) k ∷ []

-- what further steps do after these, in their order
abbrev pub noted_behind : List Step → List Step → List Note
noted_behind before steps = flat_map_after noted_after before steps

-- ---- what a unit does

-- what a unit did to its peer's keys, after the peer's units before it
unfoldable pub unit_notes : List ReplayUnit → ReplayUnit → List Note
unit_notes before unit = noted_behind (steps_of before) (unit_steps (is_up before) unit)

-- there is a route, and it is chosen
abbrev pub has_chosen : RouteChoice → Option Route → Bool
has_chosen choice None = false
has_chosen choice (Some route) = is_chosen_route choice route

-- the route is chosen that the key has from then on or that went, or the one before it; where none is named, all are
abbrev pub meets_choice : RouteChoice → Note → Bool
meets_choice choice note = names_nothing choice || (has_chosen choice note.route || has_chosen choice note.before)

-- the notes on keys of chosen prefixes that are about chosen routes
abbrev pub is_chosen_note : Choices → Note → Bool
is_chosen_note choices note = meets_choice choices.routes note && chooses choices.prefixes note.key

abbrev pub chosen_notes : Choices → List Note → List Note
chosen_notes choices notes = filter (is_chosen_note choices) notes

-- ---- what is counted of it

-- whether a time, in microseconds, is before this second
abbrev pub is_before : Option ℕ → ℕ → Bool
is_before None time = false
is_before (Some since) time = nat_lt (time / 1000000) since

-- the units from this second on
abbrev pub units_within : Option ℕ → List ReplayUnit → List ReplayUnit
units_within since units = filter (λ unit. not (is_before since unit.time)) units

-- what the units from this second on did to chosen keys and routes, each after all the peer's units before it
unfoldable pub notes_within : Option ℕ → Choices → List ReplayUnit → List Note
notes_within since choices units =
    flat_map_after
    (λ before unit. if is_before since unit.time then [] else chosen_notes choices (unit_notes before unit)) [] units

-- whether each unit from this second on is an UPDATE or RIB entry of a peer that isn't up
unfoldable pub idle_within : Option ℕ → List ReplayUnit → List Bool
idle_within since units =
    flat_map_after
    (λ before unit. if is_before since unit.time then [] else (is_routing (reading_of unit) && not (is_up before)) ∷ [])
    [] units

-- the outcome of an announcement or a withdrawal; the break that ends a route is counted once and not for each route
abbrev pub outcome_noted : What → Option Outcome
outcome_noted New = Some outcome.Added
outcome_noted Changed = Some outcome.Changed
outcome_noted Same = Some outcome.Same
outcome_noted Gone = Some outcome.Gone
outcome_noted Void = Some outcome.Void
outcome_noted Lost = None

-- this outcome, where there is one
abbrev pub is_this : Outcome → Option Outcome → Bool
is_this o None = false
is_this o (Some other) = is_outcome o other

abbrev pub has_outcome : Outcome → Note → Bool
has_outcome o note = is_this o (outcome_noted note.what)

-- the counts of these notes, of whether each unit is idle, and of the units
abbrev pub churn_by : List Note → List Bool → List ReplayUnit → Churn
churn_by notes flags units = record {
  added = stopped (count_by (has_outcome outcome.Added) notes);
  changed = stopped (count_by (has_outcome outcome.Changed) notes);
  same = stopped (count_by (has_outcome outcome.Same) notes);
  gone = stopped (count_by (has_outcome outcome.Gone) notes);
  void = stopped (count_by (has_outcome outcome.Void) notes);
  resets = stopped (count_by (λ unit. is_break (reading_of unit)) units);
  idle = stopped (count_by (λ flag. flag) flags);
  refused = stopped (count_by (λ unit. is_some (fault_of (reading_of unit))) units);
  first = first_time units;
  last = last_time units;
}

-- What a peer's units from this second on did to chosen keys and routes, counted over a replay from the beginning; and how many of
-- them were breaks, idle or damaged, and the times of the first and the last.
unfoldable pub churn_within : Option ℕ → Choices → List ReplayUnit → Churn
churn_within since choices units =
    churn_by (notes_within since choices units) (idle_within since units) (units_within since units)

-- the counts of one, with those of announcements and withdrawals of another one
abbrev pub with_outcomes : Churn → Churn → Churn
with_outcomes c d = record c { added = d.added; changed = d.changed; same = d.same; gone = d.gone; void = d.void }

-- ---- what a watch is

-- what is kept of a peer of which some prefixes are watched, the table as its entries in order
pub record WatchState : Type 0 where
  pub up : Bool
  pub table : List (RouteKey × Route)
  pub churn : Churn
  pub faults : List Damage

-- what a watch on chosen prefixes and routes is that took these units, in this order, and counts from this second on
unfoldable pub watch_of : Option ℕ → Choices → List ReplayUnit → WatchState
watch_of since choices units = record {
  up = is_up units;
  table = selected_entries (chooses choices.prefixes) (table_of (steps_of units));
  churn = churn_within since choices units;
  faults = damaged_of units;
}

-- a watch on chosen prefixes and routes that took these units, and counts from this second on
abbrev pub WatchesFor : Option ℕ → Choices → List ReplayUnit → WatchState → Type 0
WatchesFor since choices units watch = watch ≡ watch_of since choices units
