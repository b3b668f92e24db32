-- A payload has an event exactly where the reading of it gives one.
use Rattle.std.proofs.Common.{◌≡◌, ◌≢◌, ℕ, ◌+◌, ◌^◌, ◌<◌, ◌&&◌, Bool, true, false, cond, eqb, List, length, Result, Ok, Err, IfOk, refl, sym, ap, subst, ◌∙◌, arith}
use Rattle.std.proofs.lemmas.Bool.{eqb-true, eqb-false}
use Rattle.mrt_frame.specs.declared.fault.Fault.{Fault}
use Rattle.mrt_frame.specs.Fields.{◌>>=◌}
use Rattle.mrt_frame.proofs.FieldLaws.{IsBytes, IsBytes-drop}
use Rattle.mrt_frame.proofs.Items.{bind_ok, ok_is}
use Rattle.bgp_prefix.specs.Keys.{RouteKey}
use Rattle.bgp_update.specs.Families.{RouteRules, route_rules}
use Rattle.bgp_update.specs.declared.attr_error.AttrError.{AttrError}
use Rattle.bgp_update.specs.declared.error_rule.ErrorRule.{ErrorRule}
use Rattle.bgp_update.specs.declared.route.Route.{Route}
use Rattle.bgp_update.specs.declared.width.Width.{Width}
use Rattle.bgp_update.specs.Attributes.{route_in}
use Rattle.bgp_update.specs.Handling.{handled_entry, handled_update, taken_update, withdrawing_if, lacks_mandatory}
use Rattle.bgp_update.specs.ErrorRules.{is_handling}
use Rattle.bgp_update.specs.Results.{Gives}
use Rattle.bgp_update.specs.Updates.{Update, update_in}
use Rattle.bgp_update.proofs.UpdateLaws.{route_takes, route_again, update_takes, update_again}
use Rattle.peer_units.specs.Plain.{Event, Payload}
use Rattle.peer_units.specs.declared.unit.Payload.TheVariants.{State, Message, Entry, Clear}
use Rattle.peer_units.specs.declared.meaning.Event.TheVariants as event
use Rattle.peer_units.specs.Payloads.{is_recorded, payload_bytes}
use Rattle.peer_units.specs.DecodedEvents.{is_recorded_event}
use Rattle.peer_units.specs.Events.{UPDATE, IsMessageEvent, IsEntryEvent, IsEvent, damaged_event, entry_event, entry_event_in, event_in, message_bytes, message_in, message_event_in, update_event}
use Rattle.peer_units.proofs.MessageLaws.{message_takes, message_again}

abbrev done : {A : Type 0} → A → Result A Fault
done x = Ok x

-- ---- messages

module _ (errors : ErrorRule) (rules : RouteRules) (width : Width) (add_path : Bool) where
  abbrev handled_in : List ℕ → Result Update Fault
  handled_in body = handled_update errors rules width add_path body

  abbrev said_by : List ℕ → Result Event Fault
  said_by body = update_event errors (update_in rules width add_path body) (handled_in body)

  abbrev event_of : ℕ → List ℕ → Bool → Result Event Fault
  event_of kind body is_update = cond is_update (said_by body) (Ok event.Other)

  module _ (bytes : List ℕ) where
    body_is_fine : (kind : ℕ) (body : List ℕ) → IsBytes bytes → message_in bytes ≡ Ok (kind, body) → IsBytes body
    body_is_fine kind body fine read = IsBytes-drop 19 (message_bytes kind body) (subst IsBytes (message_takes bytes (kind, body) fine read).spelled fine)

    update_found : (kind : ℕ) (body : List ℕ) (e : Event) → IsBytes bytes → message_in bytes ≡ Ok (kind, body) → kind ≡ UPDATE → (read handled : Result Update Fault) → update_in rules width add_path body ≡ read → handled_in body ≡ handled
        → update_event errors read handled ≡ Ok e → IsMessageEvent errors rules width add_path bytes e
    update_found kind body e fine m same (Ok update) handled read done_about given =
        let t = message_takes bytes (kind, body) fine m in
        subst (IsMessageEvent errors rules width add_path bytes) (ok_is (event.Change (taken_update errors update)) e given)
        (body, t.spelled ∙ ap (λ (k : ℕ). message_bytes k body) same, t.small, update, update_takes rules width add_path body update (body_is_fine kind body fine m) read, refl)
    update_found kind body e fine m same (Err fault) (Ok update) read done_about given =
        let t = message_takes bytes (kind, body) fine m in
        subst (IsMessageEvent errors rules width add_path bytes) (ok_is (event.Handled fault update) e given)
        (body, t.spelled ∙ ap (λ (k : ℕ). message_bytes k body) same, t.small, read, done_about)
    update_found kind body e fine m same (Err fault) (Err other) read done_about given = absurd cc

    by_kind : (kind : ℕ) (body : List ℕ) (e : Event) → IsBytes bytes → message_in bytes ≡ Ok (kind, body) → (b : Bool) → eqb kind UPDATE ≡ b → event_of kind body b ≡ Ok e → IsMessageEvent errors rules width add_path bytes e
    by_kind kind body e fine read true is given = update_found kind body e fine read (eqb-true _ _ is) (update_in rules width add_path body) (handled_in body) refl refl given
    by_kind kind body e fine read false is given =
        let t = message_takes bytes (kind, body) fine read in
        subst (IsMessageEvent errors rules width add_path bytes) (ok_is event.Other e given) (kind, body, eqb-false _ _ is, t.spelled, t.small)

    pub message_event_takes : (e : Event) → IsBytes bytes → message_event_in errors rules width add_path bytes ≡ Ok e → IsMessageEvent errors rules width add_path bytes e
    unfolding message_event_in
    message_event_takes e fine given =
        let m = bind_ok (message_in bytes) (λ m. event_of m.0 m.1 (eqb m.0 UPDATE)) e given in
        by_kind m.0.0 m.0.1 e fine m.1 (eqb m.0.0 UPDATE) refl m.2

    reads_again : (kind : ℕ) (body : List ℕ) → bytes ≡ message_bytes kind body → 19 + length body < 256 ^ 2 → message_event_in errors rules width add_path bytes ≡ event_of kind body (eqb kind UPDATE)
    unfolding message_event_in
    reads_again kind body spelled small = rw (ap message_in spelled ∙ message_again kind body small) refl

    pub message_event_again : (e : Event) → IsMessageEvent errors rules width add_path bytes e → message_event_in errors rules width add_path bytes ≡ Ok e
    message_event_again (event.Change update) h =
        reads_again UPDATE h.0 h.1 h.2
        ∙ ap (λ (r : Result Update Fault). update_event errors r (handled_in h.0)) (update_again rules width add_path h.0 h.3 h.4)
        ∙ ap (λ (u : Update). done (event.Change u)) (sym h.5)
    message_event_again (event.Handled fault update) h =
        reads_again UPDATE h.0 h.1 h.2
        ∙ ap (λ (r : Result Update Fault). update_event errors r (handled_in h.0)) h.3
        ∙ ap (λ (r : Result Update Fault). damaged_event fault r) h.4
    message_event_again event.Other h =
        reads_again h.0 h.1 h.3 h.4 ∙ ap (event_of h.0 h.1) (no_update h.0 h.2)
      where
        no_update : (kind : ℕ) → kind ≢ UPDATE → eqb kind UPDATE ≡ false
        no_update kind other = grind arith
    message_event_again (event.State old new rule) h = absurd h
    message_event_again (event.Rib key route) h = absurd h
    message_event_again event.Clear h = absurd h

-- ---- entries

module _ (errors : ErrorRule) (rules : RouteRules) (width : Width) (key : RouteKey) (attrs : List ℕ) where
  entry_found : (e : Event) → IsBytes attrs → (read : Result Route Fault) (handled : Result Update Fault) → route_in rules width attrs ≡ read → handled_entry errors rules width key attrs ≡ handled
      → entry_event key read handled ≡ Ok e → IsEntryEvent errors rules width key attrs e
  entry_found e fine (Ok route) handled read done_about given =
      subst (IsEntryEvent errors rules width key attrs) (ok_is (event.Rib key route) e given) (refl, route_takes rules width attrs route fine read)
  entry_found e fine (Err fault) (Ok update) read done_about given =
      subst (IsEntryEvent errors rules width key attrs) (ok_is (event.Handled fault update) e given) (read, done_about)
  entry_found e fine (Err fault) (Err other) read done_about given = absurd cc

  pub entry_event_takes : (e : Event) → IsBytes attrs → entry_event_in errors rules width key attrs ≡ Ok e → IsEntryEvent errors rules width key attrs e
  entry_event_takes e fine given = entry_found e fine (route_in rules width attrs) (handled_entry errors rules width key attrs) refl refl given

  pub entry_event_again : (e : Event) → IsEntryEvent errors rules width key attrs e → entry_event_in errors rules width key attrs ≡ Ok e
  entry_event_again (event.Rib other route) h =
      ap (λ (r : Result Route Fault). entry_event key r (handled_entry errors rules width key attrs)) (route_again rules width attrs route h.1)
      ∙ ap (λ (k : RouteKey). done (event.Rib k route)) (sym h.0)
  entry_event_again (event.Handled fault update) h =
      ap (λ (r : Result Route Fault). entry_event key r (handled_entry errors rules width key attrs)) h.0
      ∙ ap (λ (r : Result Update Fault). damaged_event fault r) h.1
  entry_event_again (event.Change update) h = absurd h
  entry_event_again (event.State old new rule) h = absurd h
  entry_event_again event.Other h = absurd h
  entry_event_again event.Clear h = absurd h

-- ---- payloads

pub event_takes : (payload : Payload) (e : Event) → IsBytes (payload_bytes payload) → event_in payload ≡ Ok e → IsEvent payload e
unfolding event_in
event_takes (State from to rule) e fine given = sym (ok_is (event.State from to rule) e given)
event_takes (Message bytes width add_path rules) e fine given = message_event_takes rules.errors (route_rules rules) width add_path bytes e fine given
event_takes (Entry rules key attrs) e fine given = entry_event_takes rules.errors (route_rules rules) rules.entry_width key attrs e fine given
event_takes Clear e fine given = sym (ok_is event.Clear e given)

pub event_again : (payload : Payload) (e : Event) → IsEvent payload e → event_in payload ≡ Ok e
unfolding event_in
event_again (State from to rule) e h = ap (λ (x : Event). done x) (sym h)
event_again (Message bytes width add_path rules) e h = message_event_again rules.errors (route_rules rules) width add_path bytes e h
event_again (Entry rules key attrs) e h = entry_event_again rules.errors (route_rules rules) rules.entry_width key attrs e h
event_again Clear e h = ap (λ (x : Event). done x) (sym h)

pub one_event : (payload : Payload) (e other : Event) → IsEvent payload e → IsEvent payload other → e ≡ other
one_event payload e other h k = ok_is e other (sym (event_again payload e h) ∙ event_again payload other k)

-- ---- what a call that may want memory returns

-- what reading gives is such
pub given_is : (r : Result Event AttrError) (read : Result Event Fault) (Is : Event → Type 0) → ((e : Event) → read ≡ Ok e → Is e) → Gives (λ e. e) r read → IfOk r Is
given_is (Ok e) read Is takes given = takes e given
given_is (Err error) read Is takes given = tt

-- an update taken by a rule keeps its route
pub taken_route : (errors : ErrorRule) (u : Update) → (taken_update errors u).route ≡ u.route
taken_route errors u = by_test (is_handling errors && lacks_mandatory u)
  where
    by_test : (b : Bool) → (withdrawing_if b u).route ≡ u.route
    by_test true = refl
    by_test false = refl

-- ---- clears

damage_told : (fault : Fault) (handled : Result Update Fault) → is_recorded_event (damaged_event fault handled) ≡ true
damage_told fault (Ok update) = refl
damage_told fault (Err other) = refl

update_told : (errors : ErrorRule) (r handled : Result Update Fault) → is_recorded_event (update_event errors r handled) ≡ true
update_told errors (Ok update) handled = refl
update_told errors (Err fault) handled = damage_told fault handled

route_told : (key : RouteKey) (r : Result Route Fault) (handled : Result Update Fault) → is_recorded_event (entry_event key r handled) ≡ true
route_told key (Ok route) handled = refl
route_told key (Err fault) handled = damage_told fault handled

message_told : (errors : ErrorRule) (rules : RouteRules) (width : Width) (add_path : Bool) (r : Result (ℕ × List ℕ) Fault) → is_recorded_event (r >>= λ m. event_of errors rules width add_path m.0 m.1 (eqb m.0 UPDATE)) ≡ true
message_told errors rules width add_path (Err fault) = refl
message_told errors rules width add_path (Ok m) =
    elim (eqb m.0 UPDATE) as (λ b. is_recorded_event (event_of errors rules width add_path m.0 m.1 b) ≡ true) [
      | true ↦ update_told errors (update_in rules width add_path m.1) (handled_update errors rules width add_path m.1)
      | false ↦ refl
    ]

pub recorded_told : (payload : Payload) → is_recorded_event (event_in payload) ≡ is_recorded payload
unfolding event_in message_event_in
recorded_told (State from to rule) = refl
recorded_told (Message bytes width add_path rules) = message_told rules.errors (route_rules rules) width add_path (message_in bytes)
recorded_told (Entry rules key attrs) = route_told key (route_in (route_rules rules) rules.entry_width attrs) (handled_entry rules.errors (route_rules rules) rules.entry_width key attrs)
recorded_told Clear = refl
