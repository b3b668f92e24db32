-- A watch on chosen prefixes has their routes, and notes what the definitions say of them.
use Rattle.std.proofs.Common.{◌≡◌, ℕ, Option, None, Bool, true, false, cond, ◌&&◌, List, [], ◌∷◌, ◌++◌, map, refl, sym, ap, ◌∙◌, if◌then◌else◌}
use Rattle.std.specs.List.{filter, fold}
use Rattle.std.specs.FinMap as finite
use Rattle.std.proofs.lemmas.List.Elements.{filter-append}
use Rattle.bgp_prefix.specs.Keys.{RouteKey}
use Rattle.bgp_update.specs.declared.route.Route.{Route}
use Rattle.route_choice.specs.Choices.{RouteChoice}
use Rattle.peer_units.specs.Plain.{PrefixChoice}
use Rattle.peer_units.specs.Choices.{Choices, every_choice}
use Rattle.peer_units.specs.Payloads.{is_recorded}
use Rattle.adj_rib.specs.declared.outcome.What.{What}
use Rattle.adj_rib.specs.declared.outcome.What.TheVariants.{New, Changed, Same, Gone, Void, Lost}
use Rattle.peer_units.specs.Plain.{Unit as ReplayUnit}
use Rattle.peer_units.specs.Selections.{concerns}
use Rattle.adj_rib.specs.declared.churn.Churn.{Churn}
use Rattle.adj_rib.specs.Plain.{Note}
use Rattle.adj_rib.specs.Steps.{Step, break, clear, announce, withdraw, is_up, unit_steps, reading_steps, steps_of}
use Rattle.adj_rib.specs.Tables.{IsTable, route_at, table_of}
use Rattle.adj_rib.specs.Churns.{damage_at, damaged_of, reading_of}
use Rattle.adj_rib.specs.Applied.{RibState, RouteMap, START, applied, counted, listed, no_churn, noted, timed, timed_by, up_after}
use Rattle.adj_rib.specs.Selecting.{concerned, keeps, selected_steps, selected_entries, chooses}
use Rattle.adj_rib.specs.Histories.{announced_note, withdrawn_note, lost_note, noted_after, noted_behind, unit_notes, chosen_notes, churn_within, idle_within, meets_choice, notes_within, is_before, outcome_noted, with_outcomes, WatchState, WatchesFor, watch_of}
use Rattle.adj_rib.specs.Noting.{counted_note, counted_this, followed_noting, keep_chosen, taken_noting}
use Rattle.adj_rib.proofs.TableLaws.{entries-IsTable, IsTable_start}
use Rattle.adj_rib.proofs.Stepping.{table_after_steps}
use Rattle.adj_rib.proofs.After.{steps_of-push}
use Rattle.adj_rib.proofs.Positions.{after_filter, filter_after}
use Rattle.adj_rib.proofs.NotingLaws.{kept_behind, kept_chosen, rib_beside}
use Rattle.adj_rib.proofs.Taking.{damaged_of-push, is_up-push, table_from_entries}
use Rattle.adj_rib.proofs.WindowLaws.{churn_within-push, reading_counts, unit_counted}
use Rattle.adj_rib.proofs.Selected.{route_at-selected, table_of-selected, is_up-concerned, steps_of-concerned, quiet_unit}

-- ---- notes of selected keys

module _ (selects : RouteKey → Bool) where
  abbrev of_selected : List Note → List Note
  of_selected notes = filter (λ note. selects note.key) notes

  lost_selected : (table : List (RouteKey × Route)) → map lost_note (selected_entries selects table) ≡ of_selected (map lost_note table)
  lost_selected [] = refl
  lost_selected (e ∷ table) =
      elim (selects e.0) as (λ b. map lost_note (cond b (e ∷ selected_entries selects table) (selected_entries selects table)) ≡ cond b (lost_note e ∷ of_selected (map lost_note table)) (of_selected (map lost_note table))) [
        | true ↦ ap (λ (l : List Note). lost_note e ∷ l) (lost_selected table)
        | false ↦ lost_selected table
      ]

  step_notes : (before : List Step) (step : Step) → cond (keeps selects step) (noted_after (selected_steps selects before) step) [] ≡ of_selected (noted_after before step)
  step_notes before break = ap (map lost_note) (table_of-selected selects before) ∙ lost_selected (table_of before)
  step_notes before clear = ap (map lost_note) (table_of-selected selects before) ∙ lost_selected (table_of before)
  step_notes before (announce k route) =
      elim (selects k) as (λ b. selects k ≡ b → cond b (announced_note (route_at (selected_steps selects before) k) k route ∷ []) [] ≡ cond b (announced_note (route_at before k) k route ∷ []) []) [
        | true ↦ λ taken. ap (λ old. announced_note old k route ∷ []) (route_at-selected selects before k taken)
        | false ↦ λ left. refl
      ] refl
  step_notes before (withdraw k) =
      elim (selects k) as (λ b. selects k ≡ b → cond b (withdrawn_note (route_at (selected_steps selects before) k) k ∷ []) [] ≡ cond b (withdrawn_note (route_at before k) k ∷ []) []) [
        | true ↦ λ taken. ap (λ old. withdrawn_note old k ∷ []) (route_at-selected selects before k taken)
        | false ↦ λ left. refl
      ] refl

  -- what selected steps do is what all steps do to selected keys
  pub noted-selected : (before steps : List Step) → noted_behind (selected_steps selects before) (selected_steps selects steps) ≡ of_selected (noted_behind before steps)
  noted-selected before steps =
      after_filter (keeps selects) noted_after (λ b s. of_selected (noted_after b s)) step_notes before steps
      ∙ sym (filter_after (λ (note : Note). selects note.key) noted_after before steps)

-- ---- a watch

-- what is kept beside whether the session is established and what is counted stands for these units
pub record Watches (prefixes : List PrefixChoice) (units : List ReplayUnit) (k : RibState) : Type 0 where
  pub up : k.up ≡ is_up units
  pub table : IsTable (selected_steps (chooses prefixes) (steps_of units)) k.table
  pub faults : k.faults ≡ damaged_of units

-- what contracts see of a watch with these counts
abbrev pub seen_as : RibState → Churn → WatchState
seen_as k churn = record { up = k.up; table = finite.entries k.table; churn = churn; faults = k.faults }

module _ (since : Option ℕ) (choices : Choices) where
  from_seen : (units : List ReplayUnit) (k : RibState) (churn : Churn) → WatchesFor since choices units (seen_as k churn) → Watches choices.prefixes units k
  unfolding watch_of
  from_seen units k churn h = record {
    up = ap (λ (w : WatchState). w.up) h;
    table = table_from_entries (selected_steps (chooses choices.prefixes) (steps_of units)) k.table (ap (λ (w : WatchState). w.table) h ∙ sym (table_of-selected (chooses choices.prefixes) (steps_of units)));
    faults = ap (λ (w : WatchState). w.faults) h;
  }

  counts_seen : (units : List ReplayUnit) (k : RibState) (churn : Churn) → WatchesFor since choices units (seen_as k churn) → churn ≡ churn_within since choices units
  unfolding watch_of
  counts_seen units k churn h = ap (λ (w : WatchState). w.churn) h

  to_seen : (units : List ReplayUnit) (k : RibState) (churn : Churn) → Watches choices.prefixes units k → churn ≡ churn_within since choices units → WatchesFor since choices units (seen_as k churn)
  unfolding watch_of
  to_seen units k churn h counts =
      let table = entries-IsTable (selected_steps (chooses choices.prefixes) (steps_of units)) k.table h.table ∙ table_of-selected (chooses choices.prefixes) (steps_of units) in
      λ i. record { up = h.up i; table = table i; churn = counts i; faults = h.faults i }

  pub watch_at_start : WatchesFor since choices [] (seen_as START no_churn)
  unfolding steps_of
  watch_at_start = to_seen [] START no_churn (record { up = refl; table = IsTable_start; faults = (unfold damaged_of in refl) }) (unfold churn_within notes_within idle_within in refl)

-- what took the next unit, on chosen prefixes, and noted what it did
module _ (prefixes : List PrefixChoice) {K : Type 0} (keep : K → Note → K) (before : List ReplayUnit) (unit : ReplayUnit) (k now : RibState) (kept told : K) (e : (now, told) ≡ taken_noting keep (chooses prefixes) (k, kept) unit) (stood : Watches prefixes before k) where
  abbrev done : List Step
  done = selected_steps (chooses prefixes) (steps_of before)

  abbrev more : List Step
  more = selected_steps (chooses prefixes) (reading_steps k.up (reading_of unit))

  abbrev rib : RouteMap × Churn
  rib = (k.table, noted k.up (reading_of unit) (timed_by unit k.churn))

  -- what the unit did to chosen keys
  abbrev own_notes : List Note
  own_notes = of_selected (chooses prefixes) (unit_notes before unit)

  steps_then : selected_steps (chooses prefixes) (steps_of (before ++ unit ∷ [])) ≡ done ++ more
  unfolding unit_steps
  steps_then =
      ap (selected_steps (chooses prefixes)) (steps_of-push before unit) ∙ filter-append (keeps (chooses prefixes)) (steps_of before) (unit_steps (is_up before) unit)
      ∙ ap (λ up. done ++ selected_steps (chooses prefixes) (reading_steps up (reading_of unit))) (sym stood.up)

  notes_then : noted_behind done more ≡ own_notes
  unfolding unit_notes unit_steps
  notes_then =
      ap (λ up. noted_behind done (selected_steps (chooses prefixes) (reading_steps up (reading_of unit)))) stood.up
      ∙ noted-selected (chooses prefixes) (steps_of before) (unit_steps (is_up before) unit)

  told_then : told ≡ fold keep kept own_notes
  unfolding taken_noting followed_noting
  told_then = ap (λ (s : RibState × K). s.1) e ∙ kept_behind keep done more rib kept stood.table ∙ ap (fold keep kept) notes_then

  rib_then : (now.table, now.churn) ≡ fold applied rib more
  unfolding taken_noting followed_noting
  rib_then = ap (λ (s : RibState × K). (s.0.table, s.0.churn)) e ∙ rib_beside keep more rib kept

  up_then : now.up ≡ is_up (before ++ unit ∷ [])
  unfolding taken_noting followed_noting
  up_then = ap (λ (s : RibState × K). s.0.up) e ∙ ap (λ up. up_after up (reading_of unit)) stood.up ∙ sym (is_up-push before unit)

  faults_then : now.faults ≡ damaged_of (before ++ unit ∷ [])
  unfolding taken_noting
  faults_then = ap (λ (s : RibState × K). s.0.faults) e ∙ ap (λ faults. listed faults (damage_at unit.place (reading_of unit))) stood.faults ∙ sym (damaged_of-push before unit)

  table_then : IsTable (selected_steps (chooses prefixes) (steps_of (before ++ unit ∷ []))) now.table
  table_then = rw (steps_then, ap (λ (r : RouteMap × Churn). r.0) rib_then) (table_after_steps done more rib stood.table)

  -- it stands for this unit, too, whatever is counted
  stands_then : (churn : Churn) → Watches prefixes (before ++ unit ∷ []) (record now { churn = churn })
  stands_then churn = record { up = up_then; table = table_then; faults = faults_then }

  -- what the unit is counted as, where it is counted
  counted_then : now.churn ≡ fold counted_note (unit_counted (is_up before) (reading_of unit) (timed_by unit k.churn)) own_notes
  counted_then =
      ap (λ (r : RouteMap × Churn). r.1) rib_then
      ∙ reading_counts (chooses prefixes) k.up (reading_of unit) done k.table (timed_by unit k.churn) stood.table
      ∙ (λ i. fold counted_note (unit_counted (stood.up i) (reading_of unit) (timed_by unit k.churn)) (notes_then i))

-- a session is a watch on all that counts from the beginning
pub whole_stands : {K : Type 0} (keep : K → Note → K) (before : List ReplayUnit) (unit : ReplayUnit) (k now : RibState) (kept told : K) → (now, told) ≡ taken_noting keep (chooses []) (k, kept) unit → WatchesFor None every_choice before (seen_as k k.churn) → WatchesFor None every_choice (before ++ unit ∷ []) (seen_as now now.churn)
whole_stands keep before unit k now kept told e seen =
    let stood : Watches [] before k = from_seen None every_choice before k k.churn seen in
    let own = own_notes [] keep before unit k now kept told e stood in
    to_seen None every_choice (before ++ unit ∷ []) now now.churn (stands_then [] keep before unit k now kept told e stood now.churn)
    (counted_then [] keep before unit k now kept told e stood
    ∙ ap (λ c. fold counted_note (unit_counted (is_up before) (reading_of unit) (timed_by unit c)) own) (counts_seen None every_choice before k k.churn seen)
    ∙ sym (churn_within-push None every_choice before unit))

-- ---- counts of announcements and withdrawals beside others

others_one : (what : What) (c d : Churn) → with_outcomes (counted_this (outcome_noted what) c) d ≡ with_outcomes c d
unfolding counted
others_one New c d = refl
others_one Changed c d = refl
others_one Same c d = refl
others_one Gone c d = refl
others_one Void c d = refl
others_one Lost c d = refl

-- notes change no other counts
others_stay : (notes : List Note) (c d : Churn) → with_outcomes (fold counted_note c notes) d ≡ with_outcomes c d
others_stay [] c d = refl
others_stay (note ∷ notes) c d = others_stay notes (counted_note c note) d ∙ others_one note.what c d

outcomes_one : (what : What) (c d : Churn) → with_outcomes c (counted_this (outcome_noted what) d) ≡ counted_this (outcome_noted what) (with_outcomes c d)
unfolding counted
outcomes_one New c d = refl
outcomes_one Changed c d = refl
outcomes_one Same c d = refl
outcomes_one Gone c d = refl
outcomes_one Void c d = refl
outcomes_one Lost c d = refl

-- nor depend on them
outcomes_apart : (notes : List Note) (c d : Churn) → with_outcomes c (fold counted_note d notes) ≡ fold counted_note (with_outcomes c d) notes
outcomes_apart [] c d = refl
outcomes_apart (note ∷ notes) c d = outcomes_apart notes c (counted_note d note) ∙ ap (λ x. fold counted_note x notes) (outcomes_one note.what c d)

-- nor does what a unit is counted as beside them
unit_apart : (up : Bool) (unit : ReplayUnit) (c d : Churn) → with_outcomes (unit_counted up (reading_of unit) (timed_by unit c)) d ≡ unit_counted up (reading_of unit) (timed_by unit (with_outcomes c d))
unfolding timed
unit_apart up unit c d =
    elim (is_recorded unit.payload) as (λ b. with_outcomes (unit_counted up (reading_of unit) (if b then timed unit.time c else c)) d ≡ unit_counted up (reading_of unit) (if b then timed unit.time (with_outcomes c d) else with_outcomes c d)) [ true ↦ refl | false ↦ refl ]

-- ---- notes on chosen routes

pub filter_twice : {A : Type 0} (p q : A → Bool) (xs : List A) → filter p (filter q xs) ≡ filter (λ x. p x && q x) xs
filter_twice p q [] = refl
filter_twice {A = A} p q (x ∷ xs) =
    let rest = filter_twice p q xs in
    let both : List A = filter (λ y. p y && q y) xs in
    elim (q x) as (λ b. filter p (cond b (x ∷ filter q xs) (filter q xs)) ≡ cond (p x && b) (x ∷ both) both) [
      | true ↦ elim (p x) as (λ a. cond a (x ∷ filter p (filter q xs)) (filter p (filter q xs)) ≡ cond (a && true) (x ∷ both) both) [ true ↦ ap (λ (l : List A). x ∷ l) rest | false ↦ rest ]
      | false ↦ elim (p x) as (λ a. filter p (filter q xs) ≡ cond (a && false) (x ∷ both) both) [ true ↦ rest | false ↦ rest ]
    ]

chosen_twice : (choices : Choices) (notes : List Note) → filter (meets_choice choices.routes) (of_selected (chooses choices.prefixes) notes) ≡ chosen_notes choices notes
chosen_twice choices notes = filter_twice (meets_choice choices.routes) (λ (note : Note). chooses choices.prefixes note.key) notes

-- a watch that took the next unit, and noted what it did to chosen keys and routes
module _ (since : Option ℕ) (choices : Choices) {K : Type 0} (keep : K → Note → K) (before : List ReplayUnit) (unit : ReplayUnit) (k now : RibState) (w w' : Churn) (routes : RouteChoice) (kept told : K)
    (e : (now, ((routes, w'), told)) ≡ taken_noting (keep_chosen keep) (chooses choices.prefixes) (k, ((choices.routes, w), kept)) unit) (seen : WatchesFor since choices before (seen_as k (with_outcomes k.churn w))) where
  stood : Watches choices.prefixes before k
  stood = from_seen since choices before k (with_outcomes k.churn w) seen

  abbrev own : List Note
  own = chosen_notes choices (unit_notes before unit)

  all_told : ◌≡◌ {A = (RouteChoice × Churn) × K} ((routes, w'), told) ((choices.routes, fold counted_note w own), fold keep kept own)
  all_told =
      told_then choices.prefixes (keep_chosen keep) before unit k now ((choices.routes, w), kept) ((routes, w'), told) e stood
      ∙ kept_chosen keep choices.routes w kept (of_selected (chooses choices.prefixes) (unit_notes before unit))
      ∙ ap (λ l. ((choices.routes, fold counted_note w l), fold keep kept l)) (chosen_twice choices (unit_notes before unit))

  pub watch_notes : told ≡ fold keep kept own
  watch_notes = ap (λ (s : (RouteChoice × Churn) × K). s.1) all_told

  counts_then : with_outcomes now.churn w' ≡ fold counted_note (unit_counted (is_up before) (reading_of unit) (timed_by unit (with_outcomes k.churn w))) own
  counts_then =
      let x : Churn = unit_counted (is_up before) (reading_of unit) (timed_by unit k.churn) in
      let notes : List Note = of_selected (chooses choices.prefixes) (unit_notes before unit) in
      (λ i. with_outcomes (counted_then choices.prefixes (keep_chosen keep) before unit k now ((choices.routes, w), kept) ((routes, w'), told) e stood i) (all_told i).0.1)
      ∙ others_stay notes x (fold counted_note w own)
      ∙ outcomes_apart own x w
      ∙ ap (λ c. fold counted_note c own) (unit_apart (is_up before) unit k.churn w)

  -- the counts stay those before where the unit is before the second
  pub watch_stands : WatchesFor since choices (before ++ unit ∷ []) (seen_as (record now { churn = if is_before since unit.time then k.churn else now.churn }) (with_outcomes (if is_before since unit.time then k.churn else now.churn) (if is_before since unit.time then w else w')))
  watch_stands =
      let was : with_outcomes k.churn w ≡ churn_within since choices before = counts_seen since choices before k (with_outcomes k.churn w) seen in
      let churn : Churn = if is_before since unit.time then k.churn else now.churn in
      to_seen since choices (before ++ unit ∷ []) (record now { churn = churn }) (with_outcomes churn (if is_before since unit.time then w else w'))
      (stands_then choices.prefixes (keep_chosen keep) before unit k now ((choices.routes, w), kept) ((routes, w'), told) e stood churn)
      (elim (is_before since unit.time) as (λ b. with_outcomes (if b then k.churn else now.churn) (if b then w else w')
      ≡ (if b then churn_within since choices before else fold counted_note (unit_counted (is_up before) (reading_of unit) (timed_by unit (churn_within since choices before))) own)) [
        | true ↦ was
        | false ↦ counts_then ∙ ap (λ c. fold counted_note (unit_counted (is_up before) (reading_of unit) (timed_by unit c)) own) was
      ]
      ∙ sym (churn_within-push since choices before unit))

-- ---- early and late

-- units that can't concern a chosen prefix make no difference to the notes of later ones
pub notes_early : (choices : Choices) (before : List ReplayUnit) (unit : ReplayUnit) → chosen_notes choices (unit_notes (concerned choices.prefixes before) unit) ≡ chosen_notes choices (unit_notes before unit)
unfolding unit_notes
notes_early choices before unit =
    let prefixes = choices.prefixes in
    let early : of_selected (chooses prefixes) (unit_notes (concerned prefixes before) unit) ≡ of_selected (chooses prefixes) (unit_notes before unit) =
    sym (noted-selected (chooses prefixes) (steps_of (concerned prefixes before)) (unit_steps (is_up (concerned prefixes before)) unit))
    ∙ ap (λ l. noted_behind l (selected_steps (chooses prefixes) (unit_steps (is_up (concerned prefixes before)) unit))) (steps_of-concerned prefixes before)
    ∙ ap (λ up. noted_behind (selected_steps (chooses prefixes) (steps_of before)) (selected_steps (chooses prefixes) (unit_steps up unit))) (is_up-concerned prefixes before)
    ∙ noted-selected (chooses prefixes) (steps_of before) (unit_steps (is_up before) unit) in
    sym (chosen_twice choices (unit_notes (concerned prefixes before) unit))
    ∙ ap (filter (meets_choice choices.routes)) early
    ∙ chosen_twice choices (unit_notes before unit)

-- and have no notes themselves
pub notes_quiet : (choices : Choices) (before : List ReplayUnit) (unit : ReplayUnit) → concerns choices.prefixes unit.payload ≡ false → chosen_notes choices (unit_notes before unit) ≡ []
unfolding unit_notes
notes_quiet choices before unit h =
    let prefixes = choices.prefixes in
    let quiet : of_selected (chooses prefixes) (unit_notes before unit) ≡ [] =
    sym (noted-selected (chooses prefixes) (steps_of before) (unit_steps (is_up before) unit))
    ∙ ap (λ l. noted_behind (selected_steps (chooses prefixes) (steps_of before)) l) (quiet_unit prefixes (is_up before) unit h) in
    sym (chosen_twice choices (unit_notes before unit)) ∙ ap (filter (meets_choice choices.routes)) quiet
