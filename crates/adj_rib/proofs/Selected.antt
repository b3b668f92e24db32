-- A selection of keys commutes with tables and outcomes, and selecting units early is selecting their steps late.
use Rattle.std.proofs.Common.{◌≡◌, ℕ, Bool, true, false, not, cond, ◌||◌, List, [], ◌∷◌, ◌++◌, map, Option, Some, None, Result, Ok, Err, refl, sym, ap, ◌∙◌}
use Rattle.std.specs.Prelude.{unwrap_or}
use Rattle.std.specs.List.{filter, filter_map, cons_option, last_or}
use Rattle.std.specs.FinMap.Entries.{same_entries, find-where_key, is_sorted-where_key}
use Rattle.std.specs.declared.cmp.Ordering.TheVariants.{Equal}
use Rattle.std.proofs.lemmas.List.Elements.{filter-append}
use Rattle.bgp_prefix.specs.Keys.{key_cmp, key_eq, among}
use Rattle.bgp_prefix.specs.Keys.{RouteKey}
use Rattle.bgp_prefix.proofs.KeyLaws.{key_cmp_total, key_cmp_exact}
use Rattle.bgp_prefix.proofs.KeySearches.{same_key}
use Rattle.mrt_frame.specs.Fields.{◌>>=◌}
use Rattle.mrt_frame.specs.declared.fault.Fault.{Fault}
use Rattle.mrt_frame.specs.declared.fault.Fault.TheVariants.{ShortAttribute}
use Rattle.bgp_update.specs.declared.error_rule.ErrorRule.{ErrorRule}
use Rattle.bgp_update.specs.declared.route.Route.{Route}
use Rattle.bgp_update.specs.Updates.{Update}
use Rattle.bgp_update.specs.ErrorRules.{is_handling}
use Rattle.bgp_update.specs.Handling.{announcing, recovered_route}
use Rattle.bgp_update.specs.Families.{route_rules}
use Rattle.bgp_update.specs.Attributes.{route_in}
use Rattle.bgp_update.specs.Hops.{by_hop}
use Rattle.peer_units.specs.Plain.{PrefixChoice}
use Rattle.peer_units.specs.Plain.{Event}
use Rattle.peer_units.specs.declared.meaning.Event.TheVariants as event
use Rattle.peer_units.specs.declared.state_rule.StateRule.{StateRule}
use Rattle.peer_units.specs.Plain.{Payload}
use Rattle.peer_units.specs.declared.unit.Payload.TheVariants.{State, Message, Entry, Clear}
use Rattle.peer_units.specs.Plain.{Unit as ReplayUnit}
use Rattle.peer_units.specs.States.{up_by, established_by}
use Rattle.peer_units.specs.Events.{damaged_event, entry_event, event_in}
use Rattle.peer_units.specs.Choices.{is_open, is_chosen}
use Rattle.peer_units.specs.Selections.{has_chosen, speaks_of, concerns}
use Rattle.adj_rib.specs.declared.outcome.Outcome.{Outcome}
use Rattle.adj_rib.specs.Steps.{Step, break, clear, announce, withdraw, state_says, last_said, is_up, is_established, withdrawals, announcements, reachings, update_steps, reading_steps, unit_steps, steps_of}
use Rattle.adj_rib.specs.Tables.{said_of, route_at, table_of}
use Rattle.adj_rib.specs.Churns.{announced_over, outcome_of, outcomes_of}
use Rattle.adj_rib.specs.Selecting.{keeps, selected_steps, selected_entries, selected_outcomes, chooses, concerned}
use Rattle.adj_rib.proofs.Positions.{after_filter, filter_after}
use Rattle.adj_rib.proofs.TableLaws.{find-table_of, is_sorted-table_of}

-- ---- filters

-- what is left out is nothing to f
filter_map_within : {A B : Type 0} (f : A → Option B) (p : A → Bool) → ((x : A) → p x ≡ false → f x ≡ None) → (xs : List A) → filter_map f (filter p xs) ≡ filter_map f xs
filter_map_within f p h [] = refl
filter_map_within f p h (x ∷ xs) =
    elim (p x) as (λ b. p x ≡ b → filter_map f (cond b (x ∷ filter p xs) (filter p xs)) ≡ cons_option (f x) (filter_map f xs)) [
      | true ↦ λ _. ap (cons_option (f x)) (filter_map_within f p h xs)
      | false ↦ λ left. filter_map_within f p h xs ∙ ap (λ y. cons_option y (filter_map f xs)) (sym (h x left))
    ] refl

-- what is left says None, if anything
none_said : {A B : Type 0} (f : A → Option (Option B)) (p : A → Bool) → ((x : A) → p x ≡ true → unwrap_or (f x) None ≡ None) → (xs : List A) (o : Option (Option B)) → unwrap_or o None ≡ None → unwrap_or (last_or o (filter_map f (filter p xs))) None ≡ None
none_said f p h [] o e = e
none_said f p h (x ∷ xs) o e =
    elim (p x) as (λ b. p x ≡ b → unwrap_or (last_or o (filter_map f (cond b (x ∷ filter p xs) (filter p xs)))) None ≡ None) [
      | true ↦ λ taken. elim (f x) as (λ y. unwrap_or y None ≡ None → unwrap_or (last_or o (cons_option y (filter_map f (filter p xs)))) None ≡ None) [
        | None ↦ λ _. none_said f p h xs o e
        | Some y ↦ λ is. none_said f p h xs (Some y) is
      ] (h x taken)
      | false ↦ λ _. none_said f p h xs o e
    ] refl

-- ---- tables

never : (b : Bool) → b ≡ not b → ⊥
never true e = cc
never false e = cc

module _ (selects : RouteKey → Bool) where
  -- of two keys one is selected
  apart : (k q : RouteKey) (b : Bool) → selects k ≡ b → selects q ≡ not b → key_eq k q ≡ false
  apart k q b one other =
      elim (key_eq k q) as (λ e. key_eq k q ≡ e → e ≡ false) [
        | true ↦ λ t. absurd (never b (sym one ∙ ap selects (same_key k q t) ∙ other))
        | false ↦ λ _. refl
      ] refl

  -- a step of a key that isn't selected says nothing of one that is
  others_silent : (k : RouteKey) → selects k ≡ true → (step : Step) → keeps selects step ≡ false → said_of k step ≡ None
  others_silent k taken break left = absurd cc
  others_silent k taken clear left = absurd cc
  others_silent k taken (announce q r) left = ap (λ b. cond b (Some (Some r)) None) (apart k q true taken left)
  others_silent k taken (withdraw q) left = ap (λ b. cond b (Some None) None) (apart k q true taken left)

  -- a key that isn't selected is only said to have left
  only_left : (k : RouteKey) → selects k ≡ false → (step : Step) → keeps selects step ≡ true → unwrap_or (said_of k step) None ≡ None
  only_left k left break taken = refl
  only_left k left clear taken = refl
  only_left k left (announce q r) taken = ap (λ b. unwrap_or {T = Option Route} (cond b (Some (Some r)) None) None) (apart k q false left taken)
  only_left k left (withdraw q) taken = elim (key_eq k q) as (λ b. unwrap_or {T = Option Route} (cond b (Some None) None) None ≡ None) [ true ↦ refl | false ↦ refl ]

  -- a selected key has the same route
  pub route_at-selected : (steps : List Step) (k : RouteKey) → selects k ≡ true → route_at (selected_steps selects steps) k ≡ route_at steps k
  route_at-selected steps k taken = ap (λ said. unwrap_or (last_or None said) None) (filter_map_within (said_of k) (keeps selects) (others_silent k taken) steps)

  route_where : (steps : List Step) (k : RouteKey) → route_at (selected_steps selects steps) k ≡ cond (selects k) (route_at steps k) None
  route_where steps k =
      elim (selects k) as (λ b. selects k ≡ b → route_at (selected_steps selects steps) k ≡ cond b (route_at steps k) None) [
        | true ↦ λ taken. route_at-selected steps k taken
        | false ↦ λ left. none_said (said_of k) (keeps selects) (only_left k left) steps None refl
      ] refl

  pub tied_alike : (q x : RouteKey) → key_cmp q x ≡ Equal → selects x ≡ selects q
  tied_alike q x e = ap selects (sym (key_cmp_exact q x e))

  -- the table of what is selected is the selection of the table
  pub table_of-selected : (steps : List Step) → table_of (selected_steps selects steps) ≡ selected_entries selects (table_of steps)
  table_of-selected steps =
      same_entries key_cmp key_cmp_total key_cmp_exact (table_of (selected_steps selects steps)) (selected_entries selects (table_of steps)) (is_sorted-table_of (selected_steps selects steps)) (is_sorted-where_key key_cmp selects (table_of steps) (is_sorted-table_of steps))
      (λ q. find-table_of (selected_steps selects steps) q ∙ route_where steps q ∙ ap (λ r. cond (selects q) r None) (sym (find-table_of steps q)) ∙ sym (find-where_key key_cmp selects q (tied_alike q) (table_of steps)))

  -- ---- outcomes

  same_outcome : (before : List Step) (step : Step) → keeps selects step ≡ true → outcome_of (selected_steps selects before) step ≡ outcome_of before step
  same_outcome before break taken = refl
  same_outcome before clear taken = refl
  same_outcome before (announce k route) taken = ap (λ o. announced_over o route) (route_at-selected before k taken)
  same_outcome before (withdraw k) taken = rw (route_at-selected before k taken) refl

  outcome_taken : (before : List Step) (step : Step) → cond (keeps selects step) (outcome_of (selected_steps selects before) step ∷ []) [] ≡ cond (keeps selects step) (outcome_of before step ∷ []) []
  outcome_taken before step =
      elim (keeps selects step) as (λ b. keeps selects step ≡ b → cond b (outcome_of (selected_steps selects before) step ∷ []) [] ≡ cond b (outcome_of before step ∷ []) []) [
        | true ↦ λ taken. ap (λ (o : Outcome). o ∷ []) (same_outcome before step taken)
        | false ↦ λ _. refl
      ] refl

  -- the outcomes of what is selected are those of its steps among all
  pub outcomes_of-selected : (steps : List Step) → outcomes_of (selected_steps selects steps) ≡ selected_outcomes selects steps
  unfolding outcomes_of selected_outcomes
  outcomes_of-selected steps = after_filter (keeps selects) (λ b s. outcome_of b s ∷ []) (λ b s. cond (keeps selects s) (outcome_of b s ∷ []) []) outcome_taken [] steps

-- ---- early and late

or_parts : (a b : Bool) → (a || b) ≡ false → (a ≡ false) × (b ≡ false)
or_parts true b h = absurd cc
or_parts false b h = (refl, h)

module _ (choices : List PrefixChoice) where
  abbrev kept_steps : List Step → List Step
  kept_steps steps = selected_steps (chooses choices) steps

  module _ (says : StateRule → ℕ → ℕ → Option Bool) where
    -- what concerns no chosen prefix is no state change
    quiet_state : (payload : Payload) → concerns choices payload ≡ false → state_says says payload ≡ None
    quiet_state (State from to rule) h = absurd cc
    quiet_state (Message bytes width add_path rules) h = refl
    quiet_state (Entry rules key attrs) h = refl
    quiet_state Clear h = absurd cc

    abbrev said_in : List ReplayUnit → List Bool
    said_in units = filter_map (λ u. state_says says u.payload) units

    same_said_in : (units : List ReplayUnit) → said_in (concerned choices units) ≡ said_in units
    same_said_in units = filter_map_within (λ (u : ReplayUnit). state_says says u.payload) (λ (u : ReplayUnit). concerns choices u.payload) (λ u left. quiet_state u.payload left) units

    last_said-concerned : (units : List ReplayUnit) → last_said says (concerned choices units) ≡ last_said says units
    last_said-concerned units = ap (λ (said : List Bool). unwrap_or (last_or None said) true) (same_said_in units)

  -- so the peer is up or not as before
  pub is_up-concerned : (units : List ReplayUnit) → is_up (concerned choices units) ≡ is_up units
  is_up-concerned units = last_said-concerned up_by units

  -- and its session is established or not as before
  pub is_established-concerned : (units : List ReplayUnit) → is_established (concerned choices units) ≡ is_established units
  is_established-concerned units = last_said-concerned established_by units

  none_announced : (route : Route) (keys : List RouteKey) → has_chosen choices keys ≡ false → kept_steps (map (λ key. announce key route) keys) ≡ []
  none_announced route [] h = refl
  none_announced route (key ∷ keys) h =
      let parts = or_parts (is_chosen choices key.prefix) (has_chosen choices keys) h in
      ap (λ b. cond b (announce key route ∷ kept_steps (map (λ key. announce key route) keys)) (kept_steps (map (λ key. announce key route) keys))) parts.0
      ∙ none_announced route keys parts.1

  none_withdrawn : (p : RouteKey → Bool) (keys : List RouteKey) → has_chosen choices keys ≡ false → kept_steps (map withdraw (filter p keys)) ≡ []
  none_withdrawn p [] h = refl
  none_withdrawn p (key ∷ keys) h =
      let parts = or_parts (is_chosen choices key.prefix) (has_chosen choices keys) h in
      elim (p key) as (λ b. kept_steps (map withdraw (cond b (key ∷ filter p keys) (filter p keys))) ≡ []) [
        | true ↦ ap (λ b. cond b (withdraw key ∷ kept_steps (map withdraw (filter p keys))) (kept_steps (map withdraw (filter p keys)))) parts.0 ∙ none_withdrawn p keys parts.1
        | false ↦ none_withdrawn p keys parts.1
      ]

  quiet_update : (u : Update) → speaks_of choices (Ok (event.Change u)) ≡ false → kept_steps (update_steps u) ≡ []
  quiet_update u h =
      let one = or_parts (has_chosen choices u.withdrawn) (has_chosen choices u.announced || has_chosen choices u.reached) h in
      let two = or_parts (has_chosen choices u.announced) (has_chosen choices u.reached) one.1 in
      let keep = keeps (chooses choices) in
      filter-append keep (withdrawals u ++ announcements u) (reachings u)
      ∙ ap (λ l. l ++ kept_steps (reachings u)) (filter-append keep (withdrawals u) (announcements u))
      ∙ ap (λ l. (l ++ kept_steps (announcements u)) ++ kept_steps (reachings u)) (none_withdrawn (λ key. not (among u.announced key || among u.reached key)) u.withdrawn one.0)
      ∙ ap (λ l. l ++ kept_steps (reachings u)) (none_announced u.route u.announced two.0)
      ∙ none_announced (by_hop u.route u.reached_hop) u.reached two.1

  quiet_reading : (up : Bool) (r : Result Event Fault) → speaks_of choices r ≡ false → kept_steps (reading_steps up r) ≡ []
  quiet_reading true (Ok (event.Change u)) h = quiet_update u h
  quiet_reading false (Ok (event.Change u)) h = refl
  quiet_reading up (Ok (event.State old new rule)) h = absurd cc
  quiet_reading up (Ok (event.Rib key route)) h = absurd cc
  quiet_reading up (Ok event.Other) h = refl
  quiet_reading up (Ok event.Clear) h = absurd cc
  quiet_reading up (Ok (event.Handled fault u)) h = absurd cc
  quiet_reading up (Err fault) h = absurd cc

  -- an entry is its key's, damaged or not
  quiet_handled : (up : Bool) (key : RouteKey) (fault : Fault) (r : Result Route Fault) → is_chosen choices key.prefix ≡ false → kept_steps (reading_steps up (damaged_event fault (r >>= λ route. Ok (announcing key route)))) ≡ []
  quiet_handled true key fault (Ok route) h = ap (λ b. cond b (announce key route ∷ []) []) h
  quiet_handled false key fault (Ok route) h = refl
  quiet_handled up key fault (Err other) h = refl

  quiet_entry : (up : Bool) (errors : ErrorRule) (key : RouteKey) (r again : Result Route Fault) → is_chosen choices key.prefix ≡ false → kept_steps (reading_steps up (entry_event key r (cond (is_handling errors) (again >>= λ route. Ok (announcing key route)) (Err ShortAttribute)))) ≡ []
  quiet_entry true errors key (Ok route) again h = ap (λ b. cond b (announce key route ∷ []) []) h
  quiet_entry false errors key (Ok route) again h = refl
  quiet_entry up errors key (Err fault) again h =
      elim (is_handling errors) as (λ b. kept_steps (reading_steps up (damaged_event fault (cond b (again >>= λ route. Ok (announcing key route)) (Err ShortAttribute)))) ≡ []) [
        | true ↦ quiet_handled up key fault again h
        | false ↦ refl
      ]

  quiet_payload : (up : Bool) (payload : Payload) → concerns choices payload ≡ false → kept_steps (reading_steps up (event_in payload)) ≡ []
  unfolding event_in
  quiet_payload up (State from to rule) h = absurd cc
  quiet_payload up (Message bytes width add_path rules) h = quiet_reading up (event_in (Message bytes width add_path rules)) (or_parts (is_open choices) (speaks_of choices (event_in (Message bytes width add_path rules))) h).1
  quiet_payload up (Entry rules key attrs) h = quiet_entry up rules.errors key (route_in (route_rules rules) rules.entry_width attrs) (recovered_route rules.errors (route_rules rules) rules.entry_width attrs) h
  quiet_payload up Clear h = absurd cc

  pub quiet_unit : (up : Bool) (u : ReplayUnit) → concerns choices u.payload ≡ false → kept_steps (unit_steps up u) ≡ []
  unfolding unit_steps
  quiet_unit up u h = quiet_payload up u.payload h

  -- a unit takes the same steps of chosen prefixes after those that can concern them
  steps_after : (before : List ReplayUnit) (u : ReplayUnit) → cond (concerns choices u.payload) (kept_steps (unit_steps (is_up (concerned choices before)) u)) [] ≡ kept_steps (unit_steps (is_up before) u)
  steps_after before u =
      elim (concerns choices u.payload) as (λ b. concerns choices u.payload ≡ b → cond b (kept_steps (unit_steps (is_up (concerned choices before)) u)) [] ≡ kept_steps (unit_steps (is_up before) u)) [
        | true ↦ λ _. ap (λ up. kept_steps (unit_steps up u)) (is_up-concerned before)
        | false ↦ λ left. sym (quiet_unit (is_up before) u left)
      ] refl

  -- the units that can concern a chosen prefix take all steps of chosen prefixes
  pub steps_of-concerned : (units : List ReplayUnit) → selected_steps (chooses choices) (steps_of (concerned choices units)) ≡ selected_steps (chooses choices) (steps_of units)
  unfolding steps_of
  steps_of-concerned units =
      let keep = keeps (chooses choices) in
      let steps : List ReplayUnit → ReplayUnit → List Step = λ b u. unit_steps (is_up b) u in
      filter_after keep steps [] (concerned choices units)
      ∙ after_filter (λ (u : ReplayUnit). concerns choices u.payload) (λ b u. kept_steps (steps b u)) (λ b u. kept_steps (steps b u)) steps_after [] units
      ∙ sym (filter_after keep steps [] units)

  -- so each of them has the same route, whether units are selected early or entries late
  pub table_of-concerned : (units : List ReplayUnit) → selected_entries (chooses choices) (table_of (steps_of (concerned choices units))) ≡ selected_entries (chooses choices) (table_of (steps_of units))
  table_of-concerned units =
      sym (table_of-selected (chooses choices) (steps_of (concerned choices units)))
      ∙ ap table_of (steps_of-concerned units)
      ∙ table_of-selected (chooses choices) (steps_of units)

  -- and each announcement and withdrawal of them has the same outcome
  pub outcomes_of-concerned : (units : List ReplayUnit) → selected_outcomes (chooses choices) (steps_of (concerned choices units)) ≡ selected_outcomes (chooses choices) (steps_of units)
  outcomes_of-concerned units =
      sym (outcomes_of-selected (chooses choices) (steps_of (concerned choices units)))
      ∙ ap outcomes_of (steps_of-concerned units)
      ∙ outcomes_of-selected (chooses choices) (steps_of units)
