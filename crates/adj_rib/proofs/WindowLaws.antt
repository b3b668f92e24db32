-- What is counted within a time, of one more unit; and without a second and prefixes it is what is counted of all
-- units.
use Rattle.std.proofs.Common.{◌≡◌, ℕ, ◌+◌, ◌&&◌, ◌||◌, not, Bool, true, false, cond, List, [], ◌∷◌, ◌++◌, map, Option, Some, None, Result, Ok, Err, refl, sym, ap, ◌∙◌, append_assoc, if◌then◌else◌}
use Rattle.std.specs.Prelude.{is_some, unwrap_or}
use Rattle.std.specs.List.{count_by, filter, fold, list_all}
use Rattle.std.proofs.lemmas.List.{append-nil}
use Rattle.std.proofs.lemmas.List.Elements.{filter-append}
use Rattle.std.proofs.lemmas.List.Sums.{fold-append, sum_by-append}
use Rattle.std.proofs.lemmas.List.Folds.{list_all-append}
use Rattle.std.proofs.lemmas.Bool.{and_parts}
use Rattle.bgp_prefix.specs.Keys.{RouteKey}
use Rattle.bgp_prefix.specs.Keys.{among}
use Rattle.mrt_frame.specs.Positions.{flat_map_after}
use Rattle.mrt_frame.specs.declared.fault.Fault.{Fault}
use Rattle.mrt_frame.proofs.PositionLaws.{flat_map_after-push}
use Rattle.bgp_update.specs.declared.route.Route.{Route}
use Rattle.bgp_update.specs.Updates.{Update}
use Rattle.bgp_update.specs.Equality.{route_eq}
use Rattle.bgp_update.specs.Hops.{by_hop}
use Rattle.peer_units.specs.Choices.{Choices, every_choice}
use Rattle.peer_units.specs.Plain.{Event}
use Rattle.peer_units.specs.declared.meaning.Event.TheVariants as event
use Rattle.peer_units.specs.Plain.{Unit as ReplayUnit}
use Rattle.adj_rib.specs.declared.churn.Churn.{Churn}
use Rattle.adj_rib.specs.Plain.{Note}
use Rattle.adj_rib.specs.declared.outcome.What.{What}
use Rattle.adj_rib.specs.declared.outcome.What.TheVariants.{New, Changed, Same, Gone, Void, Lost}
use Rattle.adj_rib.specs.declared.outcome.Outcome.{Outcome}
use Rattle.adj_rib.specs.declared.outcome.Outcome.TheVariants as outcome
use Rattle.peer_units.specs.States.{breaks}
use Rattle.peer_units.specs.Payloads.{is_recorded}
use Rattle.adj_rib.specs.Steps.{Step, break, clear, announce, withdraw, is_up, withdrawals, announcements, reachings, update_steps, reading_steps, unit_steps, steps_of}
use Rattle.adj_rib.specs.Tables.{IsTable, route_at, table_of}
use Rattle.adj_rib.specs.Selecting.{keeps, selected_steps}
use Rattle.adj_rib.specs.Churns.{announced_over, outcome_of, outcomes_of, is_outcome, count_of, fault_of, is_break, is_routing, reading_of, first_time, last_time, stopped, churn_of}
use Rattle.adj_rib.specs.Applied.{RouteMap, applied, counted, counted_if, noted, timed, timed_by}
use Rattle.adj_rib.specs.Histories.{announced_note, withdrawn_note, lost_note, noted_after, noted_behind, unit_notes, chosen_notes, is_before, units_within, notes_within, idle_within, outcome_noted, is_this, has_outcome, churn_by, churn_within}
use Rattle.adj_rib.specs.Noting.{counted_note, counted_this}
use Rattle.adj_rib.proofs.After.{steps_of-push}
use Rattle.adj_rib.proofs.Positions.{after_itself, after_twice, counts_after}
use Rattle.adj_rib.proofs.Stepping.{stopped-count_by-push, table_step}
use Rattle.adj_rib.proofs.Taking.{first_time-push, last_time-push}

-- ---- one note more

-- the counts of churn with one more of what a note says
by_what : (what : What) (c : Churn) → record c {
  added = counted_if (is_this outcome.Added (outcome_noted what)) c.added;
  changed = counted_if (is_this outcome.Changed (outcome_noted what)) c.changed;
  same = counted_if (is_this outcome.Same (outcome_noted what)) c.same;
  gone = counted_if (is_this outcome.Gone (outcome_noted what)) c.gone;
  void = counted_if (is_this outcome.Void (outcome_noted what)) c.void;
} ≡ counted_this (outcome_noted what) c
unfolding counted
by_what New c = refl
by_what Changed c = refl
by_what Same c = refl
by_what Gone c = refl
by_what Void c = refl
by_what Lost c = refl

module _ (flags : List Bool) (units : List ReplayUnit) where
  note_more : (notes : List Note) (note : Note) → churn_by (notes ++ note ∷ []) flags units ≡ counted_note (churn_by notes flags units) note
  note_more notes note =
      (λ i. record (churn_by notes flags units) {
        added = stopped-count_by-push (has_outcome outcome.Added) notes note i;
        changed = stopped-count_by-push (has_outcome outcome.Changed) notes note i;
        same = stopped-count_by-push (has_outcome outcome.Same) notes note i;
        gone = stopped-count_by-push (has_outcome outcome.Gone) notes note i;
        void = stopped-count_by-push (has_outcome outcome.Void) notes note i;
      })
      ∙ by_what note.what (churn_by notes flags units)

  notes_more : (notes more : List Note) → churn_by (notes ++ more) flags units ≡ fold counted_note (churn_by notes flags units) more
  notes_more notes [] = ap (λ l. churn_by l flags units) (append-nil notes)
  notes_more notes (note ∷ more) =
      ap (λ l. churn_by l flags units) (sym (append_assoc notes (note ∷ []) more))
      ∙ notes_more (notes ++ note ∷ []) more
      ∙ ap (λ c. fold counted_note c more) (note_more notes note)

-- ---- one unit more

-- the counts with one more of what a reading is counted as, beside what it does to keys
abbrev pub unit_counted : Bool → Result Event Fault → Churn → Churn
unit_counted up r c = record c {
  resets = counted_if (is_break r) c.resets;
  idle = counted_if (is_routing r && not up) c.idle;
  refused = counted_if (is_some (fault_of r)) c.refused;
}

kept_apart : (b : Bool) (time : ℕ) (broken idle refused : Bool) (c : Churn) → record (if b then timed time c else c) { resets = counted_if broken c.resets; idle = counted_if idle c.idle; refused = counted_if refused c.refused } ≡ record (if b then timed time c else c) { resets = counted_if broken (if b then timed time c else c).resets; idle = counted_if idle (if b then timed time c else c).idle; refused = counted_if refused (if b then timed time c else c).refused }
unfolding timed
kept_apart true time broken idle refused c = refl
kept_apart false time broken idle refused c = refl

times_more : (b : Bool) (first last : Option ℕ) (time : ℕ) (c : Churn) → c.first ≡ first → c.last ≡ last → record c { first = (if b then Some (unwrap_or first time) else first); last = (if b then Some time else last) } ≡ (if b then timed time c else c)
unfolding timed
times_more true first last time c f l = λ i. record c { first = Some (unwrap_or (sym f i) time); last = Some time }
times_more false first last time c f l = λ i. record c { first = sym f i; last = sym l i }

unit_more : (notes : List Note) (flags : List Bool) (units : List ReplayUnit) (up : Bool) (u : ReplayUnit) → churn_by notes (flags ++ (is_routing (reading_of u) && not up) ∷ []) (units ++ u ∷ []) ≡ unit_counted up (reading_of u) (timed_by u (churn_by notes flags units))
unit_more notes flags units up u =
    (λ i. record (churn_by notes flags units) {
      resets = stopped-count_by-push (λ (v : ReplayUnit). is_break (reading_of v)) units u i;
      idle = stopped-count_by-push (λ (flag : Bool). flag) flags (is_routing (reading_of u) && not up) i;
      refused = stopped-count_by-push (λ (v : ReplayUnit). is_some (fault_of (reading_of v))) units u i;
      first = first_time-push units u i;
      last = last_time-push units u i;
    })
    ∙ (λ i. record (times_more (is_recorded u.payload) (first_time units) (last_time units) u.time (churn_by notes flags units) refl refl i) {
      resets = counted_if (is_break (reading_of u)) (stopped (count_by (λ (v : ReplayUnit). is_break (reading_of v)) units));
      idle = counted_if (is_routing (reading_of u) && not up) (stopped (count_by (λ (flag : Bool). flag) flags));
      refused = counted_if (is_some (fault_of (reading_of u))) (stopped (count_by (λ (v : ReplayUnit). is_some (fault_of (reading_of v))) units));
    })
    ∙ kept_apart (is_recorded u.payload) u.time (is_break (reading_of u)) (is_routing (reading_of u) && not up) (is_some (fault_of (reading_of u))) (churn_by notes flags units)

module _ (since : Option ℕ) (choices : Choices) (before : List ReplayUnit) (u : ReplayUnit) where
  abbrev own : List Note
  own = chosen_notes choices (unit_notes before u)

  abbrev is_idle : Bool
  is_idle = is_routing (reading_of u) && not (is_up before)

  notes_then : notes_within since choices (before ++ u ∷ []) ≡ notes_within since choices before ++ (if is_before since u.time then [] else own)
  unfolding notes_within
  notes_then = flat_map_after-push (λ (b : List ReplayUnit) (v : ReplayUnit). if is_before since v.time then [] else chosen_notes choices (unit_notes b v)) [] before u

  idle_then : idle_within since (before ++ u ∷ []) ≡ idle_within since before ++ (if is_before since u.time then [] else is_idle ∷ [])
  unfolding idle_within
  idle_then = flat_map_after-push (λ (b : List ReplayUnit) (v : ReplayUnit). if is_before since v.time then [] else (is_routing (reading_of v) && not (is_up b)) ∷ []) [] before u

  units_then : units_within since (before ++ u ∷ []) ≡ units_within since before ++ cond (not (is_before since u.time)) (u ∷ []) []
  units_then = filter-append (λ (v : ReplayUnit). not (is_before since v.time)) before (u ∷ [])

  -- what is counted of one more unit
  pub churn_within-push : churn_within since choices (before ++ u ∷ []) ≡ (if is_before since u.time then churn_within since choices before else fold counted_note (unit_counted (is_up before) (reading_of u) (timed_by u (churn_within since choices before))) own)
  unfolding churn_within
  churn_within-push =
      let notes = notes_within since choices before in
      let flags = idle_within since before in
      let units = units_within since before in
      (λ i. churn_by (notes_then i) (idle_then i) (units_then i))
      ∙ elim (is_before since u.time) as (λ b. churn_by (notes ++ (if b then [] else own)) (flags ++ (if b then [] else is_idle ∷ [])) (units ++ cond (not b) (u ∷ []) []) ≡ (if b then churn_by notes flags units else fold counted_note (unit_counted (is_up before) (reading_of u) (timed_by u (churn_by notes flags units))) own)) [
        | true ↦ λ i. churn_by (append-nil notes i) (append-nil flags i) (append-nil units i)
        | false ↦
            notes_more (flags ++ is_idle ∷ []) (units ++ u ∷ []) notes own
            ∙ ap (λ c. fold counted_note c own) (unit_more notes flags units (is_up before) u)
      ]

-- ---- the steps of one unit

-- a step that isn't a break
abbrev is_quiet : Step → Bool
is_quiet break = false
is_quiet clear = true
is_quiet (announce k route) = true
is_quiet (withdraw k) = true

lost_uncounted : (table : List (RouteKey × Route)) (c : Churn) → fold counted_note c (map lost_note table) ≡ c
lost_uncounted [] c = refl
lost_uncounted (e ∷ table) c = lost_uncounted table c

announced_counts : (old : Option Route) (k : RouteKey) (route : Route) (c : Churn) → counted (announced_over old route) c ≡ counted_note c (announced_note old k route)
announced_counts None k route c = refl
announced_counts (Some old) k route c = elim (route_eq old route) as (λ b. counted (if b then outcome.Same else outcome.Changed) c ≡ counted_this (outcome_noted (if b then Same else Changed)) c) [ true ↦ refl | false ↦ refl ]

withdrawn_counts : (old : Option Route) (k : RouteKey) (c : Churn) → counted (if is_some old then outcome.Gone else outcome.Void) c ≡ counted_note c (withdrawn_note old k)
withdrawn_counts None k c = refl
withdrawn_counts (Some old) k c = refl

step_counted : (steps : List Step) (rib : RouteMap × Churn) (step : Step) → IsTable steps rib.0 → is_quiet step ≡ true → (applied rib step).1 ≡ fold counted_note rib.1 (noted_after steps step)
unfolding counted
step_counted steps rib break h q = cc
step_counted steps rib clear h q = sym (lost_uncounted (table_of steps) rib.1)
step_counted steps rib (announce k route) h q = ap (λ old. counted (announced_over old route) rib.1) (h k) ∙ announced_counts (route_at steps k) k route rib.1
step_counted steps rib (withdraw k) h q = ap (λ (old : Option Route). counted (if is_some old then outcome.Gone else outcome.Void) rib.1) (h k) ∙ withdrawn_counts (route_at steps k) k rib.1

steps_counted : (steps more : List Step) (rib : RouteMap × Churn) → IsTable steps rib.0 → list_all is_quiet more ≡ true → (fold applied rib more).1 ≡ fold counted_note rib.1 (noted_behind steps more)
steps_counted steps [] rib h q = refl
steps_counted steps (step ∷ more) rib h q =
    let parts = and_parts _ _ q in
    steps_counted (steps ++ step ∷ []) more (applied rib step) (table_step steps rib.0 step h) parts.1
    ∙ ap (λ c. fold counted_note c (noted_behind (steps ++ step ∷ []) more)) (step_counted steps rib step h parts.0)
    ∙ sym (fold-append counted_note rib.1 (noted_after steps step) (noted_behind (steps ++ step ∷ []) more))

quiet_announced : (route : Route) (keys : List RouteKey) → list_all is_quiet (map (λ key. announce key route) keys) ≡ true
quiet_announced route [] = refl
quiet_announced route (k ∷ keys) = quiet_announced route keys

quiet_withdrawn : (keys : List RouteKey) → list_all is_quiet (map withdraw keys) ≡ true
quiet_withdrawn [] = refl
quiet_withdrawn (k ∷ keys) = quiet_withdrawn keys

quiet_both : (xs ys : List Step) → list_all is_quiet xs ≡ true → list_all is_quiet ys ≡ true → list_all is_quiet (xs ++ ys) ≡ true
quiet_both xs ys h g = list_all-append is_quiet xs ys ∙ (λ i. h i && g i)

quiet_update : (u : Update) → list_all is_quiet (update_steps u) ≡ true
quiet_update u =
    quiet_both (withdrawals u ++ announcements u) (reachings u)
    (quiet_both (withdrawals u) (announcements u) (quiet_withdrawn (filter (λ key. not (among u.announced key || among u.reached key)) u.withdrawn)) (quiet_announced u.route u.announced))
    (quiet_announced (by_hop u.route u.reached_hop) u.reached)

module _ (selects : RouteKey → Bool) where
  quiet_selected : (steps : List Step) → list_all is_quiet steps ≡ true → list_all is_quiet (selected_steps selects steps) ≡ true
  quiet_selected [] h = refl
  quiet_selected (step ∷ steps) h =
      let parts = and_parts _ _ h in
      let rest = quiet_selected steps parts.1 in
      elim (keeps selects step) as (λ b. list_all is_quiet (cond b (step ∷ selected_steps selects steps) (selected_steps selects steps)) ≡ true) [
        | true ↦ (λ i. parts.0 i && rest i)
        | false ↦ rest
      ]

  -- a unit's selected steps count what its notes do, beside what the unit is counted as
  pub reading_counts : (up : Bool) (r : Result Event Fault) (steps : List Step) (table : RouteMap) (c : Churn) → IsTable steps table → (fold applied (table, noted up r c) (selected_steps selects (reading_steps up r))).1 ≡ fold counted_note (unit_counted up r c) (noted_behind steps (selected_steps selects (reading_steps up r)))
  unfolding noted counted
  reading_counts up (Ok (event.State old new rule)) steps table c h =
      elim (breaks rule old new) as (λ b. (fold applied (table, noted up (Ok (event.State old new rule)) c) (selected_steps selects (if b then break ∷ [] else []))).1 ≡ fold counted_note (record c { resets = counted_if b c.resets }) (noted_behind steps (selected_steps selects (if b then break ∷ [] else [])))) [
        | true ↦ sym (ap (fold counted_note (record c { resets = counted_if true c.resets })) (append-nil (map lost_note (table_of steps))) ∙ lost_uncounted (table_of steps) (record c { resets = counted_if true c.resets }))
        | false ↦ refl
      ]
  reading_counts true (Ok (event.Change update)) steps table c h = steps_counted steps (selected_steps selects (update_steps update)) (table, c) h (quiet_selected (update_steps update) (quiet_update update))
  reading_counts false (Ok (event.Change update)) steps table c h = refl
  reading_counts true (Ok (event.Rib key route)) steps table c h = steps_counted steps (selected_steps selects (announce key route ∷ [])) (table, c) h (quiet_selected (announce key route ∷ []) refl)
  reading_counts false (Ok (event.Rib key route)) steps table c h = refl
  reading_counts up (Ok event.Other) steps table c h = refl
  reading_counts up (Ok event.Clear) steps table c h = steps_counted steps (clear ∷ []) (table, c) h refl
  reading_counts true (Ok (event.Handled fault update)) steps table c h = steps_counted steps (selected_steps selects (update_steps update)) (table, noted true (Ok (event.Handled fault update)) c) h (quiet_selected (update_steps update) (quiet_update update))
  reading_counts false (Ok (event.Handled fault update)) steps table c h = refl
  reading_counts up (Err fault) steps table c h = refl

-- ---- without a second and prefixes

all_chosen : (notes : List Note) → chosen_notes every_choice notes ≡ notes
all_chosen [] = refl
all_chosen (note ∷ notes) = ap (λ (l : List Note). note ∷ l) (all_chosen notes)

all_within : (units : List ReplayUnit) → units_within None units ≡ units
all_within [] = refl
all_within (u ∷ units) = ap (λ (l : List ReplayUnit). u ∷ l) (all_within units)

-- what units do is what their steps do
all_notes : (units : List ReplayUnit) → notes_within None every_choice units ≡ noted_behind [] (steps_of units)
unfolding notes_within unit_notes steps_of
all_notes units =
    (λ i. flat_map_after (λ b u. all_chosen (unit_notes b u) i) [] units)
    ∙ after_twice (λ b u. unit_steps (is_up b) u) noted_after steps_of steps_of-push [] units

-- as many notes have an outcome of announcements or withdrawals as steps have it
module _ (which : Outcome) (other : is_outcome which outcome.Reset ≡ false) (unclear : is_outcome which outcome.Cleared ≡ false) where
  none_lost : (table : List (RouteKey × Route)) → count_by (has_outcome which) (map lost_note table) ≡ 0
  none_lost [] = refl
  none_lost (e ∷ table) = none_lost table

  announced : (old : Option Route) (k : RouteKey) (route : Route) → count_by (has_outcome which) (announced_note old k route ∷ []) ≡ count_by (is_outcome which) (announced_over old route ∷ [])
  announced None k route = refl
  announced (Some old) k route =
      elim (route_eq old route) as (λ b. count_by (has_outcome which) (record { what = if b then Same else Changed; key = k; route = Some route; before = Some old } ∷ []) ≡ count_by (is_outcome which) ((if b then outcome.Same else outcome.Changed) ∷ [])) [
        | true ↦ refl
        | false ↦ refl
      ]

  withdrawn : (old : Option Route) (k : RouteKey) → count_by (has_outcome which) (withdrawn_note old k ∷ []) ≡ count_by (is_outcome which) ((if is_some old then outcome.Gone else outcome.Void) ∷ [])
  withdrawn None k = refl
  withdrawn (Some old) k = refl

  step_counts : (before : List Step) (step : Step) → count_by (has_outcome which) (noted_after before step) ≡ count_by (is_outcome which) (outcome_of before step ∷ [])
  step_counts before break = none_lost (table_of before) ∙ ap (λ b. 0 + cond b 1 0) (sym other)
  step_counts before clear = none_lost (table_of before) ∙ ap (λ b. 0 + cond b 1 0) (sym unclear)
  step_counts before (announce k route) = announced (route_at before k) k route
  step_counts before (withdraw k) = withdrawn (route_at before k) k

  same_count : (units : List ReplayUnit) → count_by (has_outcome which) (notes_within None every_choice units) ≡ count_of which (outcomes_of (steps_of units))
  unfolding outcomes_of
  same_count units = ap (count_by (has_outcome which)) (all_notes units) ∙ counts_after (has_outcome which) (is_outcome which) noted_after (λ b s. outcome_of b s ∷ []) step_counts [] (steps_of units)

-- as many units are breaks as steps are
abbrev is_break_step : Step → Bool
is_break_step step = not (is_quiet step)

announcing : (old : Option Route) (route : Route) → is_outcome outcome.Reset (announced_over old route) ≡ false
announcing None route = refl
announcing (Some old) route = elim (route_eq old route) as (λ b. is_outcome outcome.Reset (if b then outcome.Same else outcome.Changed) ≡ false) [ true ↦ refl | false ↦ refl ]

withdrawing : (b : Bool) → is_outcome outcome.Reset (if b then outcome.Gone else outcome.Void) ≡ false
withdrawing true = refl
withdrawing false = refl

step_breaks : (before : List Step) (step : Step) → count_by is_break_step (step ∷ []) ≡ count_by (is_outcome outcome.Reset) (outcome_of before step ∷ [])
step_breaks before break = refl
step_breaks before clear = refl
step_breaks before (announce k route) = ap (λ b. 0 + cond b 1 0) (sym (announcing (route_at before k) route))
step_breaks before (withdraw k) = ap (λ b. 0 + cond b 1 0) (sym (withdrawing (is_some (route_at before k))))

none_breaks : (steps : List Step) → list_all is_quiet steps ≡ true → count_by is_break_step steps ≡ 0
none_breaks [] h = refl
none_breaks (step ∷ steps) h =
    let parts = and_parts _ _ h in
    sum_by-append (λ s. cond (is_break_step s) 1 0) (step ∷ []) steps ∙ (λ i. (0 + cond (not (parts.0 i)) 1 0) + none_breaks steps parts.1 i)

reading_breaks : (up : Bool) (r : Result Event Fault) → count_by is_break_step (reading_steps up r) ≡ 0 + cond (is_break r) 1 0
reading_breaks up (Ok (event.State old new rule)) =
    elim (breaks rule old new) as (λ b. count_by is_break_step (if b then break ∷ [] else []) ≡ 0 + cond b 1 0) [ true ↦ refl | false ↦ refl ]
reading_breaks true (Ok (event.Change update)) = none_breaks (update_steps update) (quiet_update update)
reading_breaks false (Ok (event.Change update)) = refl
reading_breaks true (Ok (event.Rib key route)) = refl
reading_breaks false (Ok (event.Rib key route)) = refl
reading_breaks up (Ok event.Other) = refl
reading_breaks up (Ok event.Clear) = refl
reading_breaks true (Ok (event.Handled fault update)) = none_breaks (update_steps update) (quiet_update update)
reading_breaks false (Ok (event.Handled fault update)) = refl
reading_breaks up (Err fault) = refl

breaks_are : (units : List ReplayUnit) → count_by (λ (u : ReplayUnit). is_break (reading_of u)) units ≡ count_of outcome.Reset (outcomes_of (steps_of units))
unfolding outcomes_of steps_of unit_steps
breaks_are units =
    let all = steps_of units in
    sym (ap (count_by (λ (u : ReplayUnit). is_break (reading_of u))) (after_itself [] units))
    ∙ sym (counts_after is_break_step (λ (u : ReplayUnit). is_break (reading_of u)) (λ b u. unit_steps (is_up b) u) (λ _ u. u ∷ []) (λ b u. reading_breaks (is_up b) (reading_of u)) [] units)
    ∙ sym (ap (count_by is_break_step) (after_itself [] all))
    ∙ counts_after is_break_step (is_outcome outcome.Reset) (λ _ s. s ∷ []) (λ b s. outcome_of b s ∷ []) step_breaks [] all

-- what is counted without a second and prefixes is what is counted of all units
pub churn_within-all : (units : List ReplayUnit) → churn_within None every_choice units ≡ churn_of units
unfolding churn_within churn_of idle_within
churn_within-all units = λ i. record {
  added = stopped (same_count outcome.Added refl refl units i);
  changed = stopped (same_count outcome.Changed refl refl units i);
  same = stopped (same_count outcome.Same refl refl units i);
  gone = stopped (same_count outcome.Gone refl refl units i);
  void = stopped (same_count outcome.Void refl refl units i);
  resets = stopped ((ap (count_by (λ (u : ReplayUnit). is_break (reading_of u))) (all_within units) ∙ breaks_are units) i);
  idle = stopped (count_by (λ flag. flag) (idle_within None units));
  refused = stopped (count_by (λ (u : ReplayUnit). is_some (fault_of (reading_of u))) (all_within units i));
  first = first_time (all_within units i);
  last = last_time (all_within units i);
}
