-- What is kept of notes beside a table and its counts: it changes neither.
use Rattle.std.proofs.Common.{◌≡◌, ℕ, Bool, true, false, cond, List, [], ◌∷◌, ◌++◌, map, Result, refl, sym, ap, ◌∙◌, if◌then◌else◌}
use Rattle.std.specs.List.{filter, fold}
use Rattle.std.proofs.lemmas.List.Sums.{fold-append}
use Rattle.std.proofs.lemmas.List.Elements.{filter-append}
use Rattle.bgp_prefix.specs.Keys.{RouteKey}
use Rattle.mrt_frame.specs.declared.fault.Fault.{Fault}
use Rattle.peer_units.specs.Plain.{Event}
use Rattle.peer_units.specs.Plain.{Unit as ReplayUnit}
use Rattle.peer_units.specs.declared.unit.Place.{Place}
use Rattle.peer_units.specs.DecodedEvents.{Means, is_recorded_event}
use Rattle.peer_units.specs.Events.{event_in}
use Rattle.peer_units.specs.Payloads.{is_recorded}
use Rattle.adj_rib.specs.Plain.{Note}
use Rattle.adj_rib.specs.Steps.{Step, break, clear, announce, withdraw}
use Rattle.adj_rib.specs.Tables.{IsTable}
use Rattle.adj_rib.specs.Applied.{RibState, RouteMap, applied, timed, timed_by}
use Rattle.adj_rib.specs.Selecting.{keeps, selected_steps}
use Rattle.bgp_update.specs.declared.route.Route.{Route}
use Rattle.route_choice.specs.Choices.{RouteChoice}
use Rattle.adj_rib.specs.declared.churn.Churn.{Churn}
use Rattle.adj_rib.specs.declared.outcome.What.TheVariants.{Lost}
use Rattle.adj_rib.specs.Histories.{announced_note, lost_note, meets_choice, noted_after, noted_behind, outcome_noted, withdrawn_note}
use Rattle.adj_rib.specs.Noting.{Takes, applied_noting, counted_note, counted_this, keep_beside, keep_chosen, noted_on, read_noting, taken_noting}
use Rattle.adj_rib.proofs.TableLaws.{entries-IsTable}
use Rattle.adj_rib.proofs.Stepping.{table_step}
use Rattle.adj_rib.proofs.Taking.{timed_told}

noted_on-is : (steps : List Step) (table : RouteMap) (step : Step) → IsTable steps table → noted_on table step ≡ noted_after steps step
noted_on-is steps table break h = ap (map lost_note) (entries-IsTable steps table h)
noted_on-is steps table clear h = ap (map lost_note) (entries-IsTable steps table h)
noted_on-is steps table (announce k route) h = ap (λ old. announced_note old k route ∷ []) (h k)
noted_on-is steps table (withdraw k) h = ap (λ old. withdrawn_note old k ∷ []) (h k)

module _ {K : Type 0} (keep : K → Note → K) where
  -- some steps, and then more
  pub takes_both : (selects : RouteKey → Bool) (one two : List Step) (seen between now : (RouteMap × Churn) × K) → Takes keep selects one seen between → Takes keep selects two between now → Takes keep selects (one ++ two) seen now
  takes_both selects one two seen between now first second =
      second ∙ ap (λ s. fold (applied_noting keep) s (selected_steps selects two)) first
      ∙ sym (fold-append (applied_noting keep) seen (selected_steps selects one) (selected_steps selects two))
      ∙ ap (fold (applied_noting keep) seen) (sym (filter-append (keeps selects) one two))

  -- where nothing is kept of a loss, nothing is kept of many
  pub kept_same : (kept : K) → ((note : Note) → note.what ≡ Lost → keep kept note ≡ kept) → (table : List (RouteKey × Route)) → fold keep kept (map lost_note table) ≡ kept
  kept_same kept h [] = refl
  kept_same kept h (e ∷ table) = ap (λ k. fold keep k (map lost_note table)) (h (lost_note e) refl) ∙ kept_same kept h table

  -- what is kept of all notes, where counts and more are kept of those about chosen routes
  pub kept_chosen : (choice : RouteChoice) (c : Churn) (kept : K) (notes : List Note)
      → fold (keep_chosen keep) ((choice, c), kept) notes ≡ ((choice, fold counted_note c (filter (meets_choice choice) notes)), fold keep kept (filter (meets_choice choice) notes))
  kept_chosen choice c kept [] = refl
  kept_chosen choice c kept (note ∷ notes) =
      elim (meets_choice choice note) as (λ b. fold (keep_chosen keep) (if b then ((choice, counted_note c note), keep kept note) else ((choice, c), kept)) notes
      ≡ ((choice, fold counted_note c (cond b (note ∷ filter (meets_choice choice) notes) (filter (meets_choice choice) notes))), fold keep kept (cond b (note ∷ filter (meets_choice choice) notes) (filter (meets_choice choice) notes)))) [
        | true ↦ kept_chosen choice (counted_note c note) (keep kept note) notes
        | false ↦ kept_chosen choice c kept notes
      ]

  -- what stays beside what is kept
  pub kept_beside : {X : Type 0} (x : X) (kept : K) (notes : List Note) → fold (keep_beside keep) (x, kept) notes ≡ (x, fold keep kept notes)
  kept_beside x kept [] = refl
  kept_beside x kept (note ∷ notes) = kept_beside x (keep kept note) notes

  -- where nothing is kept of a loss, no more is kept of it beside the counts
  pub lost_beside : (choice : RouteChoice) (c : Churn) (kept : K) → ((note : Note) → note.what ≡ Lost → keep kept note ≡ kept) → (note : Note) → note.what ≡ Lost → keep_chosen keep ((choice, c), kept) note ≡ ((choice, c), kept)
  lost_beside choice c kept h note lost =
      let was : (RouteChoice × Churn) × K = ((choice, c), kept) in
      let more : (RouteChoice × Churn) × K = ((choice, counted_note c note), keep kept note) in
      elim (meets_choice choice note) as (λ b. (if b then more else was) ≡ was) [
        | true ↦ λ i. ((choice, ap (λ w. counted_this (outcome_noted w) c) lost i), h note lost i)
        | false ↦ refl
      ]

  -- what is kept changes neither the table nor its counts
  pub rib_beside : (steps : List Step) (rib : RouteMap × Churn) (kept : K) → (fold (applied_noting keep) (rib, kept) steps).0 ≡ fold applied rib steps
  rib_beside [] rib kept = refl
  rib_beside (step ∷ steps) rib kept = rib_beside steps (applied rib step) (fold keep kept (noted_on rib.0 step))

  -- what is kept is that of the notes on the steps
  pub kept_behind : (steps more : List Step) (rib : RouteMap × Churn) (kept : K) → IsTable steps rib.0 → (fold (applied_noting keep) (rib, kept) more).1 ≡ fold keep kept (noted_behind steps more)
  kept_behind steps [] rib kept h = refl
  kept_behind steps (step ∷ more) rib kept h =
      kept_behind (steps ++ step ∷ []) more (applied rib step) (fold keep kept (noted_on rib.0 step)) (table_step steps rib.0 step h)
      ∙ ap (λ l. fold keep (fold keep kept l) (noted_behind (steps ++ step ∷ []) more)) (noted_on-is steps rib.0 step h)
      ∙ sym (fold-append keep kept (noted_after steps step) (noted_behind (steps ++ step ∷ []) more))

  module _ (selects : RouteKey → Bool) where
    -- a unit is taken as it is told to
    pub taken_by : (k : RibState) (kept : K) (unit : ReplayUnit) (place : Place) (time : ℕ) (event : Result Event Fault) → Means unit place time event → is_recorded_event (event_in unit.payload) ≡ is_recorded unit.payload
        → read_noting keep selects (record k { churn = if is_recorded_event event then timed time k.churn else k.churn }, kept) place event ≡ taken_noting keep selects (k, kept) unit
    unfolding taken_noting
    taken_by k kept unit place time event m told =
        ap (λ c. read_noting keep selects (record k { churn = c }, kept) place event) (timed_told unit place time event m told k.churn)
        ∙ ap (λ p. read_noting keep selects (record k { churn = timed_by unit k.churn }, kept) p event) (sym m.place_is)
        ∙ ap (read_noting keep selects (record k { churn = timed_by unit k.churn }, kept) unit.place) (sym m.event_is)
