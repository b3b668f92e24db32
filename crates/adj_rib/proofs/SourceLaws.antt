-- A route of the table was announced by a unit that came while the peer was up, and after the last break.
use Rattle.std.proofs.Common.{◌≡◌, ◌⊎◌, ℕ, zero, suc, ◌<◌, length, get_or, Bool, true, false, cond, not, ◌||◌, List, [], ◌∷◌, ◌++◌, map, Option, Some, None, Result, Ok, Err, refl, sym, ap, ◌∙◌, inl, inr, append_assoc, arith}
use Rattle.std.proofs.lemmas.List.{append-nil}
use Rattle.std.specs.Prelude.{unwrap_or}
use Rattle.std.specs.List.{Contains, AllByRecursion, filter}
use Rattle.std.specs.FinMap as finite
use Rattle.std.specs.FinMap.Entries.{find}
use Rattle.std.proofs.lemmas.List.Elements.{Contains-append_cases}
use Rattle.bgp_prefix.specs.Keys.{key_cmp, key_eq, among}
use Rattle.bgp_prefix.specs.Keys.{RouteKey}
use Rattle.bgp_prefix.proofs.KeySearches.{same_key}
use Rattle.mrt_frame.specs.declared.fault.Fault.{Fault}
use Rattle.bgp_update.specs.declared.route.Route.{Route}
use Rattle.bgp_update.specs.Updates.{Update}
use Rattle.bgp_update.specs.Hops.{by_hop}
use Rattle.peer_units.specs.Plain.{Payload}
use Rattle.peer_units.specs.declared.unit.Payload.TheVariants.{State, Message, Entry, Clear}
use Rattle.peer_units.specs.Plain.{Unit as ReplayUnit}
use Rattle.peer_units.specs.Plain.{Event}
use Rattle.peer_units.specs.declared.meaning.Event.TheVariants as event
use Rattle.peer_units.specs.Events.{event_in}
use Rattle.peer_units.specs.States.{breaks}
use Rattle.adj_rib.specs.Steps.{Step, break, clear, announce, withdraw, is_up, update_steps, withdrawals, announcements, reachings, reading_steps, unit_steps, steps_of}
use Rattle.adj_rib.specs.Tables.{said_of, route_at, table_of}
use Rattle.adj_rib.specs.Churns.{reading_of}
use Rattle.adj_rib.specs.Sources.{Announces, ComesFrom, EndsRoutes, IsAnnouncedBy}
use Rattle.adj_rib.proofs.After.{steps_of-push}
use Rattle.adj_rib.proofs.TableLaws.{route_at-push, find-table_of, IsTable_start, IsTable_break, IsTable_clear, entries-IsTable}

module _ {X : Type 0} where
  pub first_item : (x : X) (xs : List X) → Contains (x ∷ xs) x
  first_item x xs = (0, omega arith, refl)

  pub later_item : (y : X) (xs : List X) (x : X) → Contains xs x → Contains (y ∷ xs) x
  later_item y xs x h = (suc h.0, omega (arith, h.1), h.2)

  no_item : (x : X) → Contains [] x → ⊥
  no_item x h = let below = h.1 in omega arith

  pub item_cases : (y : X) (xs : List X) (x : X) → Contains (y ∷ xs) x → (y ≡ x) ⊎ Contains xs x
  item_cases y xs x h = at_index h.0 h.1 h.2
    where
      at_index : (k : ℕ) → k < length (y ∷ xs) → get_or (y ∷ xs) k x ≡ x → (y ≡ x) ⊎ Contains xs x
      at_index zero lt is = inl is
      at_index (suc k) lt is = inr (k, omega (arith, lt), is)

module _ (p : RouteKey) (route : Route) where
  -- ---- the steps of an event

  never_withdrawn : (keys : List RouteKey) → Contains (map withdraw keys) (announce p route) → ⊥
  never_withdrawn [] h = no_item (announce p route) h
  never_withdrawn (q ∷ keys) h =
      elim (item_cases (withdraw q) (map withdraw keys) (announce p route) h) [
        | inl e ↦ cc
        | inr g ↦ never_withdrawn keys g
      ]

  announced_with : (r : Route) (keys : List RouteKey) → Contains (map (λ key. announce key r) keys) (announce p route) → Contains keys p × (r ≡ route)
  announced_with r [] h = absurd (no_item (announce p route) h)
  announced_with r (q ∷ keys) h =
      elim (item_cases (announce q r) (map (λ key. announce key r) keys) (announce p route) h) [
        | inl e ↦
            let key : q ≡ p = cc in
            let value : r ≡ route = cc in
            (rw key (first_item p keys), value)
        | inr g ↦
            let rest = announced_with r keys g in
            (later_item q keys p rest.0, rest.1)
      ]

  announced_by_update : (u : Update) → Contains (update_steps u) (announce p route) → IsAnnouncedBy u p route
  announced_by_update u h =
      elim (Contains-append_cases (withdrawals u ++ announcements u) (reachings u) (announce p route) h) [
        | inl g ↦ elim (Contains-append_cases (withdrawals u) (announcements u) (announce p route) g) [
          | inl never ↦ absurd (never_withdrawn (filter (λ key. not (among u.announced key || among u.reached key)) u.withdrawn) never)
          | inr plain ↦ inl (announced_with u.route u.announced plain)
        ]
        | inr reached ↦ inr (announced_with (by_hop u.route u.reached_hop) u.reached reached)
      ]

  announced_by_entry : (q : RouteKey) (r : Route) → Contains (announce q r ∷ []) (announce p route) → Announces (event.Rib q r) p route
  announced_by_entry q r h =
      elim (item_cases (announce q r) [] (announce p route) h) [
        | inl e ↦
            let key : q ≡ p = cc in
            let value : r ≡ route = cc in
            (key, value)
        | inr never ↦ absurd (no_item (announce p route) never)
      ]

  never_by_state : (b : Bool) → Contains (cond b (break ∷ []) []) (announce p route) → ⊥
  never_by_state false h = no_item (announce p route) h
  never_by_state true h =
      elim (item_cases break [] (announce p route) h) [
        | inl e ↦ cc
        | inr never ↦ no_item (announce p route) never
      ]

  never_by_clear : Contains (clear ∷ []) (announce p route) → ⊥
  never_by_clear h =
      elim (item_cases clear [] (announce p route) h) [
        | inl e ↦ cc
        | inr never ↦ no_item (announce p route) never
      ]

  -- what announces the key is an event, and the peer is up
  pub record Announcer (up : Bool) (reading : Result Event Fault) : Type 0 where
    pub is_up : up ≡ true
    pub meaning : Event
    pub is : reading ≡ Ok meaning
    pub announces : Announces meaning p route

  announcer_of_reading : (up : Bool) (reading : Result Event Fault) → Contains (reading_steps up reading) (announce p route) → Announcer up reading
  announcer_of_reading up (Err fault) h = absurd (no_item (announce p route) h)
  announcer_of_reading up (Ok event.Other) h = absurd (no_item (announce p route) h)
  announcer_of_reading up (Ok event.Clear) h = absurd (never_by_clear h)
  announcer_of_reading up (Ok (event.State old new rule)) h = absurd (never_by_state (breaks rule old new) h)
  announcer_of_reading true (Ok (event.Change u)) h = record { is_up = refl; meaning = event.Change u; is = refl; announces = announced_by_update u h }
  announcer_of_reading false (Ok (event.Change u)) h = absurd (no_item (announce p route) h)
  announcer_of_reading true (Ok (event.Rib q r)) h = record { is_up = refl; meaning = event.Rib q r; is = refl; announces = announced_by_entry q r h }
  announcer_of_reading false (Ok (event.Rib q r)) h = absurd (no_item (announce p route) h)
  announcer_of_reading true (Ok (event.Handled fault u)) h = record { is_up = refl; meaning = event.Handled fault u; is = refl; announces = announced_by_update u h }
  announcer_of_reading false (Ok (event.Handled fault u)) h = absurd (no_item (announce p route) h)

  -- ---- the steps that leave a route

  -- a break or a clear
  abbrev Empties : Step → Type 0
  Empties break = Unit {0}
  Empties clear = Unit {0}
  Empties (announce q r) = ⊥
  Empties (withdraw q) = ⊥

  abbrev NoneEmpties : List Step → Type 0
  NoneEmpties steps = AllByRecursion (λ step. Empties step → ⊥) steps

  said_by_announcement : (q : RouteKey) (r : Route) (b : Bool) (old : Option Route) → key_eq p q ≡ b → unwrap_or (cond b (Some (Some r)) None) old ≡ Some route → (announce q r ≡ announce p route) ⊎ (old ≡ Some route)
  said_by_announcement q r true old same e =
      let key : p ≡ q = same_key p q same in
      let value : r ≡ route = cc in
      inl (λ i. announce (sym key i) (value i))
  said_by_announcement q r false old same e = inr e

  said_by_withdrawal : (b : Bool) (old : Option Route) → unwrap_or (cond b (Some None) None) old ≡ Some route → old ≡ Some route
  said_by_withdrawal true old e = absurd cc
  said_by_withdrawal false old e = e

  -- a step gives the route, or it stood and the step empties no table
  by_step : (s : Step) (old : Option Route) → unwrap_or (said_of p s) old ≡ Some route → (s ≡ announce p route) ⊎ ((old ≡ Some route) × (Empties s → ⊥))
  by_step break old e = absurd cc
  by_step clear old e = absurd cc
  by_step (withdraw q) old e = inr (said_by_withdrawal (key_eq p q) old e, λ never. never)
  by_step (announce q r) old e =
      elim (said_by_announcement q r (key_eq p q) old refl e) [
        | inl same ↦ inl same
        | inr stood ↦ inr (stood, λ never. never)
      ]

  by_steps : (steps more : List Step) → route_at (steps ++ more) p ≡ Some route → Contains more (announce p route) ⊎ ((route_at steps p ≡ Some route) × NoneEmpties more)
  by_steps steps [] e = inr (ap (λ s. route_at s p) (sym (append-nil steps)) ∙ e, tt)
  by_steps steps (s ∷ more) e =
      elim (by_steps (steps ++ s ∷ []) more (ap (λ t. route_at t p) (append_assoc steps (s ∷ []) more) ∙ e)) [
        | inl found ↦ inl (later_item s more (announce p route) found)
        | inr rest ↦ elim (by_step s (route_at steps p) (sym (route_at-push steps s p) ∙ rest.0)) [
          | inl same ↦ inl (rw same (first_item (announce p route) more))
          | inr stood ↦ inr (stood.0, (stood.1, rest.1))
        ]
      ]

  -- ---- the units

  kept_by_state : (b : Bool) → NoneEmpties (cond b (break ∷ []) []) → b ≡ true → ⊥
  kept_by_state true h broken = h.0 tt
  kept_by_state false h broken = cc

  kept_by_unit : (up : Bool) (payload : Payload) → NoneEmpties (reading_steps up (event_in payload)) → EndsRoutes payload → ⊥
  unfolding event_in
  kept_by_unit up (State from to rule) h broken = kept_by_state (breaks rule from to) h broken
  kept_by_unit up (Message bytes width add_path rules) h broken = broken
  kept_by_unit up (Entry rules key attrs) h broken = broken
  kept_by_unit up Clear h broken = h.0 tt

  -- a unit after the first ones gave the route, or it stood before them
  by_units : (before after : List ReplayUnit) → route_at (steps_of (before ++ after)) p ≡ Some route → ComesFrom (before ++ after) p route ⊎ ((route_at (steps_of before) p ≡ Some route) × AllByRecursion (λ u. EndsRoutes u.payload → ⊥) after)
  by_units before [] e = inr (ap (λ us. route_at (steps_of us) p) (sym (append-nil before)) ∙ e, tt)
  by_units before (unit ∷ after) e =
      let parts = append_assoc before (unit ∷ []) after in
      elim (by_units (before ++ unit ∷ []) after (ap (λ us. route_at (steps_of us) p) parts ∙ e)) [
        | inl found ↦ inl (rw (← parts) found)
        | inr rest ↦ elim (by_steps (steps_of before) (unit_steps (is_up before) unit) (ap (λ t. route_at t p) (sym (steps_of-push before unit)) ∙ rest.0)) [
          | inl given ↦
              let from : Announcer (is_up before) (reading_of unit) = announcer_of_reading (is_up before) (reading_of unit) (unfold unit_steps in given) in
              inl (record { before = before; unit = unit; after = after; parts = refl; up = from.is_up; meaning = from.meaning; reading = from.is; announces = from.announces; unbroken = rest.1 })
          | inr stood ↦ inr (stood.0, (kept_by_unit (is_up before) unit.payload (unfold unit_steps in stood.1), rest.1))
        ]
      ]

  at_start : route_at (steps_of []) p ≡ Some route → ⊥
  unfolding steps_of
  at_start e = cc

  pub comes_while_up : (units : List ReplayUnit) → find key_cmp p (table_of (steps_of units)) ≡ Some route → ComesFrom units p route
  comes_while_up units e =
      elim (by_units [] units (sym (find-table_of (steps_of units) p) ∙ e)) [
        | inl found ↦ found
        | inr never ↦ absurd (at_start never.0)
      ]

-- ---- a break, or a clear

no_entries : finite.entries (finite.empty {X = Route} {R = key_cmp}) ≡ []
unfolding table_of
no_entries = entries-IsTable [] finite.empty IsTable_start

emptied_steps : (steps : List Step) (up : Bool) (payload : Payload) → EndsRoutes payload → table_of (steps ++ reading_steps up (event_in payload)) ≡ []
unfolding event_in
emptied_steps steps up (State from to rule) broken =
    ap (λ b. table_of (steps ++ cond b (break ∷ []) [])) broken ∙ sym (entries-IsTable (steps ++ break ∷ []) finite.empty (IsTable_break steps)) ∙ no_entries
emptied_steps steps up (Message bytes width add_path rules) broken = absurd broken
emptied_steps steps up (Entry rules key attrs) broken = absurd broken
emptied_steps steps up Clear broken = sym (entries-IsTable (steps ++ clear ∷ []) finite.empty (IsTable_clear steps)) ∙ no_entries

-- what ends routes leaves none
pub emptied_at_end : (units : List ReplayUnit) (unit : ReplayUnit) → EndsRoutes unit.payload → table_of (steps_of (units ++ unit ∷ [])) ≡ []
unfolding unit_steps
emptied_at_end units unit broken = ap table_of (steps_of-push units unit) ∙ emptied_steps (steps_of units) (is_up units) unit.payload broken
