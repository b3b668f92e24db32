-- Of the units of a checkpoint each peer's own are a state change and one for each of its routes.
use Rattle.std.proofs.Common.{◌≡◌, ℕ, ◌+◌, Bool, true, false, cond, eqb, not, ◌&&◌, List, [], ◌∷◌, ◌++◌, length, map, get_or, T, Ok, refl, sym, ap, subst, ◌∙◌, append_assoc, append-nil}
use Rattle.std.specs.List.{filter, flat_map, AllByRecursion, enumerate_from}
use Rattle.std.proofs.lemmas.List.Elements.{filter-append}
use Rattle.std.specs.FinMap.Entries.{is_sorted}
use Rattle.bgp_prefix.specs.Prefixes.{IpPrefix}
use Rattle.bgp_prefix.specs.Keys.{RouteKey, key_cmp}
use Rattle.bgp_update.specs.declared.route.Route.{Route}
use Rattle.bgp_update.specs.ErrorRules.{is_handling, rule_of_peer}
use Rattle.bgp_update.specs.Families.{FamilyOf, Rules, by_entry_width, route_rules}
use Rattle.bgp_update.specs.Handling.{lacks_mandatory, taken_update, withdrawing_if}
use Rattle.bgp_update.specs.Updates.{Update}
use Rattle.bgp_update.specs.declared.error_rule.ErrorRule.{ErrorRule}
use Rattle.bgp_update.specs.declared.error_rule.ErrorRule.TheVariants.{Skip, Internal, External}
use Rattle.peer_units.specs.declared.state_rule.StateRule.{StateRule}
use Rattle.peer_units.specs.declared.unit.PeerKey.{PeerKey}
use Rattle.peer_units.specs.declared.meaning.Event.TheVariants as event
use Rattle.peer_units.specs.declared.unit.Payload.TheVariants.{State, Message}
use Rattle.peer_units.specs.Plain.{Payload, Unit as ReplayUnit}
use Rattle.peer_units.specs.States.{stays_up}
use Rattle.mrt_body.specs.declared.record_place.RecordAt.{RecordAt}
use Rattle.mrt_body.specs.Bgp4mp.{is_external}
use Rattle.mrt_body.specs.Units.{at_record, no_peer, rib_unit, session_unit}
use Rattle.mrt_writing.specs.RibRecords.{PrefixRoute, entry_field, FitsPrefixRoute, units_of_entries}
use Rattle.mrt_writing.specs.Records.{written_size}
use Rattle.mrt_writing.specs.Updates.{reaching, update_message}
use Rattle.bgp_update.specs.declared.width.Width.TheVariants.{Four}
use Rattle.mrt_writing.specs.Dumps.{DumpRecord, update, has_identifier, record_of, FitsDumpRecord, rules_for, units_of_record, units_of_dump}
use Rattle.mrt_writing.proofs.BodyLaws.{event_again}
use Rattle.mrt_writing.proofs.UpdateLaws.{update_again}
use Rattle.mrt_writing.specs.Heads.{state_after, written_session}
use Rattle.table_dumps.specs.Dumped.{SayAll, DumpsTable, is_entry}
use Rattle.table_dumps.specs.Checkpoints.{DumpedPeer, entries_in, others_in, PrefixPart, all_parts, Split, Splits, state_record, part_record, update_records, checkpoint_records, entries_of, entries_of_parts, Tells}
use Rattle.table_dumps.specs.Fitting.{HasMandatory, HaveMandatory}
use Rattle.table_dumps.proofs.MergeLaws.{parts_have}

abbrev Table : Type 0
Table = List (RouteKey × Route)

say_both : (es more : Table) (us others : List ReplayUnit) → SayAll es us → SayAll more others → SayAll (es ++ more) (us ++ others)
say_both [] more [] others h k = k
say_both [] more (u ∷ us) others h k = absurd h
say_both (e ∷ es) more [] others h k = absurd h
say_both (e ∷ es) more (u ∷ us) others h k = (h.0, say_both es more us others h.1 k)

all_front : {A : Type 0} (P : A → Type 0) (xs ys : List A) → AllByRecursion P (xs ++ ys) → AllByRecursion P xs
all_front P [] ys h = tt
all_front P (x ∷ xs) ys h = (h.0, all_front P xs ys h.1)

pub all_back : {A : Type 0} (P : A → Type 0) (xs ys : List A) → AllByRecursion P (xs ++ ys) → AllByRecursion P ys
all_back P [] ys h = h
all_back P (x ∷ xs) ys h = all_back P xs ys h.1

-- ---- what is taken as it is

handling_same : (external : Bool) (errors : ErrorRule) → is_handling (rule_of_peer external errors) ≡ is_handling errors
handling_same external Skip = refl
handling_same true Internal = refl
handling_same false Internal = refl
handling_same true External = refl
handling_same false External = refl

taken_if : (handling : Bool) (u : Update) → (handling ≡ true → lacks_mandatory u ≡ false) → withdrawing_if (handling && lacks_mandatory u) u ≡ u
taken_if true u h = ap (λ (b : Bool). withdrawing_if b u) (h refl)
taken_if false u h = refl

taken_as_is : (p : PeerKey) (rules : Rules) (u : Update) → (is_handling rules.errors ≡ true → lacks_mandatory u ≡ false) → taken_update (rules_for p rules).errors u ≡ u
taken_as_is p rules u h = ap (λ (b : Bool). withdrawing_if (b && lacks_mandatory u) u) (handling_same (is_external (written_session p)) rules.errors) ∙ taken_if (is_handling rules.errors) u h

-- the key is reached where the route is taken
abbrev Reaches : RouteKey × Route → Type 0
Reaches e = lacks_mandatory (reaching e.0 e.1) ≡ false

-- those that are written as UPDATEs
abbrev among_others : FamilyOf → Table → Table
among_others family es = filter (λ (e : RouteKey × Route). not (is_entry family e)) es

others_reach : (family : FamilyOf) (es : Table) → AllByRecursion (HasMandatory family) es → AllByRecursion Reaches (among_others family es)
others_reach family [] h = tt
others_reach family (e ∷ es) h = by_test (is_entry family e) h.0 (others_reach family es h.1)
  where
    by_test : (b : Bool) → (b ≡ false → Reaches e) → AllByRecursion Reaches (among_others family es) → AllByRecursion Reaches (cond (not b) (e ∷ among_others family es) (among_others family es))
    by_test true one more = more
    by_test false one more = (one refl, more)

module _ (rules : Rules) (rule : StateRule) (file seconds : ℕ) (keys : List PeerKey) (test : PeerKey → Bool) where
  abbrev units_at : ℕ → List DumpRecord → List ReplayUnit
  units_at offset records = units_of_dump file offset rules rule seconds keys records

  -- those of one peer
  abbrev own : List ReplayUnit → List ReplayUnit
  own units = filter (λ (u : ReplayUnit). test u.peer) units

  pub units_both : (offset : ℕ) (xs ys : List DumpRecord) → (next : ℕ) × (units_at offset (xs ++ ys) ≡ units_at offset xs ++ units_at next ys)
  units_both offset [] ys = (offset, refl)
  units_both offset (x ∷ xs) ys =
      let at = at_record file offset seconds in
      let more = units_both (offset + written_size (record_of rules.family seconds x)) xs ys in
      (more.0, ap (λ (l : List ReplayUnit). units_of_record rules rule at keys x ++ l) more.1 ∙ sym (append_assoc (units_of_record rules rule at keys x) (units_at (offset + written_size (record_of rules.family seconds x)) xs) (units_at more.0 ys)))

  -- ---- entries

  entries_say : (at : RecordAt) (prefix : IpPrefix) (number place : ℕ) (add_path : Bool) (entries : List PrefixRoute) → Tells test number keys → AllByRecursion (FitsPrefixRoute (route_rules rules) add_path (length keys)) entries
      → SayAll (entries_of number prefix entries) (own (units_of_entries (by_entry_width Four rules) at keys prefix place entries))
  entries_say at prefix number place add_path [] tells fit = tt
  entries_say at prefix number place add_path (e ∷ entries) tells fit =
      by_test (eqb e.peer number) (test (get_or keys e.peer no_peer)) (sym (tells e.peer fit.0.known)) (entries_say at prefix number (place + 1) add_path entries tells fit.1)
    where
      by_test : (a b : Bool) → a ≡ b → SayAll (entries_of number prefix entries) (own (units_of_entries (by_entry_width Four rules) at keys prefix (place + 1) entries))
          → SayAll (map (λ (x : PrefixRoute). (record { prefix = prefix; id = x.id }, x.route)) (cond a (e ∷ filter (λ (x : PrefixRoute). eqb x.peer number) entries) (filter (λ (x : PrefixRoute). eqb x.peer number) entries)))
          (cond b (rib_unit (by_entry_width Four rules) at keys place e.peer (record { prefix = prefix; id = e.id }) (entry_field rules.family e.route) ∷ own (units_of_entries (by_entry_width Four rules) at keys prefix (place + 1) entries)) (own (units_of_entries (by_entry_width Four rules) at keys prefix (place + 1) entries)))
      by_test true true s more = ((true, event_again rules (record { prefix = prefix; id = e.id }) e.route fit.0.route), more)
      by_test false false s more = more
      by_test true false s more = absurd cc
      by_test false true s more = absurd cc

  parts_say : (offset number first : ℕ) (parts : List PrefixPart) → Tells test number keys → AllByRecursion (FitsDumpRecord (route_rules rules) seconds keys) (map part_record (enumerate_from first parts))
      → SayAll (entries_of_parts number parts) (own (units_at offset (map part_record (enumerate_from first parts))))
  parts_say offset number first [] tells fit = tt
  parts_say offset number first (part ∷ parts) tells fit =
      let at = at_record file offset seconds in
      let next = offset + written_size (record_of rules.family seconds (part_record (first, part))) in
      let here = units_of_entries (by_entry_width Four rules) at keys part.prefix 1 part.entries in
      let later = units_at next (map part_record (enumerate_from (first + 1) parts)) in
      subst (SayAll (entries_of_parts number (part ∷ parts))) (sym (filter-append (λ (u : ReplayUnit). test u.peer) here later))
      (say_both (entries_of number part.prefix part.entries) (entries_of_parts number parts) (own here) (own later)
      (entries_say at part.prefix number 1 part.add_path part.entries tells fit.0.0.each) (parts_say next number (first + 1) parts tells fit.1))

  skipped : (u : ReplayUnit) (l : List ReplayUnit) → test u.peer ≡ false → cond (test u.peer) (u ∷ l) l ≡ l
  skipped u l t = ap (λ (b : Bool). cond b (u ∷ l) l) t

  taken : (u : ReplayUnit) (l : List ReplayUnit) → test u.peer ≡ true → cond (test u.peer) (u ∷ l) l ≡ u ∷ l
  taken u l t = ap (λ (b : Bool). cond b (u ∷ l) l) t

  abbrev session_at : ℕ → PeerKey → Payload → ReplayUnit
  session_at offset p payload = session_unit (at_record file offset seconds) 0 p payload

  abbrev update_payload : PeerKey → RouteKey → Route → Payload
  update_payload p key r = Message (update_message rules.family (has_identifier key) key r) Four (has_identifier key) (rules_for p rules)

  -- ---- UPDATEs

  none_own : (offset : ℕ) (p : DumpedPeer) (es : Table) → test p.key ≡ false → own (units_at offset (map (λ (e : RouteKey × Route). update p.key e.0 e.1) es)) ≡ []
  none_own offset p [] t = refl
  none_own offset p (e ∷ es) t =
      let next = offset + written_size (record_of rules.family seconds (update p.key e.0 e.1)) in
      let later = own (units_at next (map (λ (x : RouteKey × Route). update p.key x.0 x.1) es)) in
      skipped (session_at offset p.key (update_payload p.key e.0 e.1)) later t ∙ none_own next p es t

  updates_say : (offset : ℕ) (p : DumpedPeer) (es : Table) → test p.key ≡ true → AllByRecursion (FitsDumpRecord (route_rules rules) seconds keys) (map (λ (e : RouteKey × Route). update p.key e.0 e.1) es)
      → (is_handling rules.errors ≡ true → AllByRecursion Reaches es)
      → SayAll es (own (units_at offset (map (λ (e : RouteKey × Route). update p.key e.0 e.1) es)))
  updates_say offset p [] t fit mandatory = tt
  updates_say offset p (e ∷ es) t fit mandatory =
      let next = offset + written_size (record_of rules.family seconds (update p.key e.0 e.1)) in
      let later = own (units_at next (map (λ (x : RouteKey × Route). update p.key x.0 x.1) es)) in
      subst (SayAll (e ∷ es)) (sym (taken (session_at offset p.key (update_payload p.key e.0 e.1)) later t)) (
        (false, update_again (rules_for p.key rules) (has_identifier e.0) e.0 e.1 fit.0.1 ∙ ap (λ (u : Update). Ok (event.Change u)) (taken_as_is p.key rules (reaching e.0 e.1) (λ on. (mandatory on).0))),
        updates_say next p es t fit.1 (λ on. (mandatory on).1),
      )

  -- of several peers
  abbrev Others : List DumpedPeer → Type 0
  Others peers = AllByRecursion (λ (p : DumpedPeer). test p.key ≡ false) peers

  no_updates : (offset : ℕ) (peers : List DumpedPeer) → Others peers → own (units_at offset (flat_map (update_records rules.family) peers)) ≡ []
  no_updates offset [] h = refl
  no_updates offset (p ∷ peers) h =
      let both = units_both offset (update_records rules.family p) (flat_map (update_records rules.family) peers) in
      ap own both.1 ∙ filter-append (λ (u : ReplayUnit). test u.peer) (units_at offset (update_records rules.family p)) (units_at both.0 (flat_map (update_records rules.family) peers))
      ∙ λ i. none_own offset p (others_in rules.family p) h.0 i ++ no_updates both.0 peers h.1 i

  updates_of : (offset : ℕ) (front : List DumpedPeer) (p : DumpedPeer) (back : List DumpedPeer) → Others front → test p.key ≡ true → Others back → AllByRecursion (FitsDumpRecord (route_rules rules) seconds keys) (flat_map (update_records rules.family) (front ++ p ∷ back))
      → (is_handling rules.errors ≡ true → HaveMandatory rules.family p)
      → SayAll (others_in rules.family p) (own (units_at offset (flat_map (update_records rules.family) (front ++ p ∷ back))))
  updates_of offset [] p back f t b fit mandatory =
      let both = units_both offset (update_records rules.family p) (flat_map (update_records rules.family) back) in
      let all : own (units_at offset (update_records rules.family p ++ flat_map (update_records rules.family) back)) ≡ own (units_at offset (update_records rules.family p)) =
      ap own both.1 ∙ filter-append (λ (u : ReplayUnit). test u.peer) (units_at offset (update_records rules.family p)) (units_at both.0 (flat_map (update_records rules.family) back))
      ∙ (λ i. own (units_at offset (update_records rules.family p)) ++ no_updates both.0 back b i) ∙ append-nil (own (units_at offset (update_records rules.family p))) in
      subst (SayAll (others_in rules.family p)) (sym all) (updates_say offset p (others_in rules.family p) t (all_front (FitsDumpRecord (route_rules rules) seconds keys) (update_records rules.family p) (flat_map (update_records rules.family) back) fit) (λ on. others_reach rules.family p.table (mandatory on)))
  updates_of offset (q ∷ front) p back f t b fit mandatory =
      let more = flat_map (update_records rules.family) (front ++ p ∷ back) in
      let both = units_both offset (update_records rules.family q) more in
      let all : own (units_at offset (update_records rules.family q ++ more)) ≡ own (units_at both.0 more) =
      ap own both.1 ∙ filter-append (λ (u : ReplayUnit). test u.peer) (units_at offset (update_records rules.family q)) (units_at both.0 more)
      ∙ (λ i. none_own offset q (others_in rules.family q) f.0 i ++ own (units_at both.0 more)) in
      subst (SayAll (others_in rules.family p)) (sym all) (updates_of both.0 front p back f.1 t b (all_back (FitsDumpRecord (route_rules rules) seconds keys) (update_records rules.family q) more fit) mandatory)

  -- ---- state changes

  no_states : (offset : ℕ) (peers : List DumpedPeer) → Others peers → own (units_at offset (map state_record peers)) ≡ []
  no_states offset [] h = refl
  no_states offset (p ∷ peers) h =
      let next = offset + written_size (record_of rules.family seconds (state_record p)) in
      skipped (session_at offset p.key (State 6 (state_after p.up) rule)) (own (units_at next (map state_record peers))) h.0 ∙ no_states next peers h.1

  state_of : (offset : ℕ) (front : List DumpedPeer) (p : DumpedPeer) (back : List DumpedPeer) → Others front → test p.key ≡ true → Others back
      → (at : ℕ) × (own (units_at offset (map state_record (front ++ p ∷ back))) ≡ session_at at p.key (State 6 (state_after p.up) rule) ∷ [])
  state_of offset [] p back f t b =
      let next = offset + written_size (record_of rules.family seconds (state_record p)) in
      (offset, taken (session_at offset p.key (State 6 (state_after p.up) rule)) (own (units_at next (map state_record back))) t ∙ ap (λ (l : List ReplayUnit). session_at offset p.key (State 6 (state_after p.up) rule) ∷ l) (no_states next back b))
  state_of offset (q ∷ front) p back f t b =
      let next = offset + written_size (record_of rules.family seconds (state_record q)) in
      let more = state_of next front p back f.1 t b in
      (more.0, skipped (session_at offset q.key (State 6 (state_after q.up) rule)) (own (units_at next (map state_record (front ++ p ∷ back)))) f.0 ∙ more.1)

  -- ---- all of them

  pub peer_units : (split : Split) → Splits split → (offset : ℕ) (front : List DumpedPeer) (p : DumpedPeer) (back : List DumpedPeer) → Others front → test p.key ≡ true → Others back
      → Tells test (length front) keys → AllByRecursion (FitsDumpRecord (route_rules rules) seconds keys) (checkpoint_records split rules.family (front ++ p ∷ back))
      → T (is_sorted key_cmp p.table) → (stays_up rule (state_after p.up) ≡ false → p.table ≡ []) → (is_handling rules.errors ≡ true → HaveMandatory rules.family p)
      → DumpsTable rules.family rule p.up p.table (own (units_at offset (checkpoint_records split rules.family (front ++ p ∷ back))))
  peer_units split whole offset front p back f t b tells fit sorted down mandatory =
      let peers = front ++ p ∷ back in
      let parts = map part_record (enumerate_from 0 (all_parts split rules.family peers)) in
      let updates = flat_map (update_records rules.family) peers in
      let fit_behind = all_back (FitsDumpRecord (route_rules rules) seconds keys) (map state_record peers) (parts ++ updates) fit in
      let first = units_both offset (map state_record peers) (parts ++ updates) in
      let second = units_both first.0 parts updates in
      let states = state_of offset front p back f t b in
      let others = own (units_at first.0 parts) ++ own (units_at second.0 updates) in
      let all : own (units_at offset (map state_record peers ++ (parts ++ updates))) ≡ session_at states.0 p.key (State 6 (state_after p.up) rule) ∷ others =
      ap own first.1 ∙ filter-append (λ (u : ReplayUnit). test u.peer) (units_at offset (map state_record peers)) (units_at first.0 (parts ++ updates))
      ∙ (λ i. states.1 i ++ (ap own second.1 ∙ filter-append (λ (u : ReplayUnit). test u.peer) (units_at first.0 parts) (units_at second.0 updates)) i) in
      let entries : SayAll (entries_in rules.family p) (own (units_at first.0 parts)) =
      subst (λ (es : Table). SayAll es (own (units_at first.0 parts))) (parts_have split whole rules.family front p back sorted)
      (parts_say first.0 (length front) 0 (all_parts split rules.family peers) tells (all_front (FitsDumpRecord (route_rules rules) seconds keys) parts updates fit_behind)) in
      record {
        state = session_at states.0 p.key (State 6 (state_after p.up) rule);
        others = others;
        parts = all;
        says = refl;
        each = say_both (entries_in rules.family p) (others_in rules.family p) (own (units_at first.0 parts)) (own (units_at second.0 updates)) entries (updates_of second.0 front p back f t b (all_back (FitsDumpRecord (route_rules rules) seconds keys) parts updates fit_behind) mandatory);
        sorted = sorted;
        down = down;
      }
