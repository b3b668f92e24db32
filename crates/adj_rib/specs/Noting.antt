-- What one step, and one unit, does to what a session keeps and to what is kept of the notes on it, where the routes of
-- some keys alone are kept: the rules one at a time, as the code follows them.
use Rattle.std.specs.Prelude.{◌≡◌, Bool, List, [], ◌∷◌, map, Option, Some, None, Result, if◌then◌else◌}
use Rattle.std.specs.List.{fold}
use Rattle.std.specs.FinMap as finite
use Rattle.bgp_prefix.specs.Keys.{RouteKey}
use Rattle.mrt_frame.specs.declared.fault.Fault.{Fault}
use Rattle.route_choice.specs.Choices.{RouteChoice}
use Rattle.peer_units.specs.Plain.{Event}
use Rattle.peer_units.specs.Plain.{Unit as ReplayUnit}
use Rattle.peer_units.specs.declared.unit.Place.{Place}
use Rattle.adj_rib.specs.declared.churn.Churn.{Churn}
use Rattle.adj_rib.specs.declared.outcome.What.{What}
use Rattle.adj_rib.specs.declared.outcome.What.TheVariants.{New, Changed, Same, Gone, Void, Lost}
use Rattle.adj_rib.specs.declared.outcome.Outcome.{Outcome}
use Rattle.adj_rib.specs.declared.outcome.Outcome.TheVariants as outcome
use Rattle.adj_rib.specs.Plain.{Note}
use Rattle.adj_rib.specs.Steps.{Step, break, clear, announce, withdraw, reading_steps}
use Rattle.adj_rib.specs.Churns.{damage_at, reading_of}
use Rattle.adj_rib.specs.Applied.{RibState, RouteMap, applied, counted, established_after, listed, noted, timed_by, up_after}
use Rattle.adj_rib.specs.Selecting.{selected_steps}
use Rattle.adj_rib.specs.Histories.{announced_note, withdrawn_note, lost_note, meets_choice, outcome_noted}

-- what happened to a key by a step with this outcome
abbrev pub what_of : Outcome → What
what_of outcome.Added = New
what_of outcome.Changed = Changed
what_of outcome.Same = Same
what_of outcome.Gone = Gone
what_of outcome.Void = Void
what_of outcome.Reset = Lost
what_of outcome.Cleared = Lost

-- the notes on a step, beside the table before it
abbrev pub noted_on : RouteMap → Step → List Note
noted_on table break = map lost_note (finite.entries table)
noted_on table clear = map lost_note (finite.entries table)
noted_on table (announce k route) = announced_note (finite.get table k) k route ∷ []
noted_on table (withdraw k) = withdrawn_note (finite.get table k) k ∷ []

-- one more outcome counted, if there is one
abbrev pub counted_this : Option Outcome → Churn → Churn
counted_this None c = c
counted_this (Some o) c = counted o c

-- after one more note
abbrev pub counted_note : Churn → Note → Churn
counted_note c note = counted_this (outcome_noted note.what) c

-- what is kept beside something that stays
abbrev pub keep_beside : {X K : Type 0} → (K → Note → K) → X × K → Note → X × K
keep_beside keep kept note = (kept.0, keep kept.1 note)

-- counts, and what is kept, after one more note, if it is about a route that the choice beside them takes
abbrev pub keep_chosen : {K : Type 0} → (K → Note → K) → (RouteChoice × Churn) × K → Note → (RouteChoice × Churn) × K
keep_chosen keep seen note =
    if meets_choice seen.0.0 note then ((seen.0.0, counted_note seen.0.1 note), keep seen.1 note) else seen

-- a table with its counts, and what is kept of the notes, after one more step
abbrev pub applied_noting : {K : Type 0} → (K → Note → K) → (RouteMap × Churn) × K → Step → (RouteMap × Churn) × K
applied_noting keep seen step = (applied seen.0 step, fold keep seen.1 (noted_on seen.0.0 step))

-- The steps on selected keys were taken.
abbrev pub Takes : {K : Type 0} → (K → Note → K) → (RouteKey → Bool) → List Step → (RouteMap × Churn) × K → (RouteMap × Churn) × K → Type 0
Takes keep selects steps seen now = now ≡ fold (applied_noting keep) seen (selected_steps selects steps)

-- after the steps of a reading on selected keys
unfoldable pub followed_noting : {K : Type 0} → (K → Note → K) → (RouteKey → Bool) → RibState × K → Result Event Fault → RibState × K
followed_noting keep selects seen reading =
    let now = fold (applied_noting keep) ((seen.0.table, noted seen.0.up reading seen.0.churn), seen.1)
    (selected_steps selects (reading_steps seen.0.up reading)) in (
      record {
        up = up_after seen.0.up reading;
        established = established_after seen.0.established reading;
        table = now.0.0;
        churn = now.0.1;
        faults = seen.0.faults;
      },
      now.1,
    )

-- The reading was followed on selected keys.
abbrev pub Follows : {K : Type 0} → (K → Note → K) → (RouteKey → Bool) → Result Event Fault → RibState × K → RibState × K → Type 0
Follows keep selects reading seen now = now ≡ followed_noting keep selects seen reading

-- after a unit at a place, by its reading
abbrev pub read_noting : {K : Type 0} → (K → Note → K) → (RouteKey → Bool) → RibState × K → Place → Result Event Fault → RibState × K
read_noting keep selects seen place reading =
    let after = followed_noting keep selects seen reading in
    (record after.0 { faults = listed seen.0.faults (damage_at place reading) }, after.1)

-- after one more unit
unfoldable pub taken_noting : {K : Type 0} → (K → Note → K) → (RouteKey → Bool) → RibState × K → ReplayUnit → RibState × K
taken_noting keep selects seen unit =
    read_noting keep selects (record seen.0 { churn = timed_by unit seen.0.churn }, seen.1) unit.place (reading_of unit)
