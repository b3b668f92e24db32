-- A replay goes on from a checkpoint as from what is written in it.
use Rattle.std.proofs.Common.{◌≡◌, ℕ, ◌+◌, ◌*◌, ◌/◌, ◌^◌, ◌<◌, ◌≤◌, Bool, true, false, cond, ◌&&◌, ◌||◌, List, [], ◌∷◌, ◌++◌, map, Option, Some, None, refl, sym, ap, subst, ◌∙◌, arith, append-nil}
use Rattle.std.specs.Prelude.{max, nat_lt}
use Rattle.std.specs.List.{filter, filter_map, fold, list_any, AllByRecursion}
use Rattle.std.proofs.lemmas.Bool.{ltb-true, ltb-false, le-ltb}
use Rattle.std.proofs.lemmas.List.{map-append}
use Rattle.std.proofs.lemmas.List.Elements.{filter-append, All-filter}
use Rattle.mrt_frame.specs.Cuts.{cuts}
use Rattle.bgp_prefix.specs.Prefixes.{IpPrefix}
use Rattle.bgp_update.specs.declared.width.Width.TheVariants.{Four}
use Rattle.bgp_update.specs.ErrorRules.{is_handling}
use Rattle.bgp_update.specs.Families.{Rules, by_entry_width, route_rules}
use Rattle.peer_units.specs.declared.state_rule.StateRule.{StateRule}
use Rattle.peer_units.specs.declared.state_rule.StateRule.TheVariants.{Recorded, Established}
use Rattle.peer_units.specs.declared.unit.PeerKey.{PeerKey}
use Rattle.peer_units.specs.declared.unit.Payload.TheVariants.{State, Message, Entry, Clear}
use Rattle.peer_units.specs.Plain.{Payload, PrefixChoice, Unit as ReplayUnit}
use Rattle.peer_units.specs.Choices.{UnitSelection}
use Rattle.peer_units.specs.Selections.{concerns, is_past, is_selected, takes_peer}
use Rattle.peer_units.specs.States.{IsByRule, AreByRule, stays_up}
use Rattle.adj_rib.specs.Steps.{is_up, is_established, steps_of}
use Rattle.adj_rib.specs.Tables.{table_of}
use Rattle.adj_rib.proofs.StateLaws.{established_if_up, always_up}
use Rattle.adj_rib.proofs.TableLaws.{is_sorted-table_of}
use Rattle.peer_tables.specs.Peers.{peer_eq, peers_of, units_of_peer}
use Rattle.peer_tables.proofs.ShareLaws.{same_peer}
use Rattle.mrt_body.specs.RibDumps.{DumpsState, no_dumps}
use Rattle.mrt_body.specs.Units.{at_record, found_in_file, unit_of, units_of, dumps_behind_cuts}
use Rattle.mrt_body.proofs.RuleLaws.{units_by}
use Rattle.mrt_writing.specs.Heads.{state_after}
use Rattle.mrt_writing.specs.Records.{written_size}
use Rattle.mrt_writing.specs.RibRecords.{PrefixRoute, units_of_entries}
use Rattle.mrt_writing.specs.Dumps.{DumpRecord, state, rib, update, index_record, record_of, FitsDump, FitsDumpRecord, units_of_record, units_of_dump}
use Rattle.mrt_writing.proofs.DumpLaws.{dump_found}
use Rattle.table_dumps.specs.Dumped.{is_as}
use Rattle.table_dumps.specs.Checkpoints.{DumpedPeer, keys_of, record_split, checkpoint_records, Apart}
use Rattle.table_dumps.specs.Fitting.{HaveMandatory}
use Rattle.table_dumps.specs.Resuming.{LeaveAlike, forget}
use Rattle.table_dumps.specs.Cutting.{dumped_peer, dumped_peers, latest_second, checkpoint_bytes, CanBeCut, resumed_units}
use Rattle.table_dumps.proofs.AlikeLaws.{alike_other, alike_both, alike_same, alike_forgotten, own_forgotten, peers_but_places, been_listed, peers_go_on, none_own, peers_apart}
use Rattle.table_dumps.proofs.FilesLaws.{units_taken, units_first, units_both, others_alike, later_units}
use Rattle.table_dumps.proofs.FitLaws.{all_both, both_true, dump_fits}
use Rattle.table_dumps.proofs.MergeLaws.{records_split}
use Rattle.table_dumps.proofs.PeerUnits.{all_back}
use Rattle.table_dumps.proofs.PeersLaws.{peers_again, table_again, state_again, has_been, all_listed}
use Rattle.table_dumps.proofs.PlaceLaws.{units_back}
use Rattle.table_dumps.proofs.ResumingLaws.{go_on_alike, down_has_none}

-- ---- lists

filter_all : {A : Type 0} (p : A → Bool) (xs : List A) → AllByRecursion (λ x. p x ≡ true) xs → filter p xs ≡ xs
filter_all p [] h = refl
filter_all p (x ∷ xs) h = λ i. cond (h.0 i) (x ∷ filter_all p xs h.1 i) (filter_all p xs h.1 i)

keys_back : (rule : StateRule) (units : List ReplayUnit) (keys : List PeerKey) → keys_of (map (dumped_peer rule units) keys) ≡ keys
keys_back rule units [] = refl
keys_back rule units (k ∷ keys) = ap (λ (l : List PeerKey). k ∷ l) (keys_back rule units keys)

-- where a listed peer stands
record Stands (keys : List PeerKey) (q : PeerKey) : Type 0 where
  front : List PeerKey
  back : List PeerKey
  parts : keys ≡ front ++ q ∷ back

stands : (keys : List PeerKey) (q : PeerKey) → list_any (λ (k : PeerKey). peer_eq k q) keys ≡ true → Stands keys q
stands [] q h = absurd cc
stands (k ∷ keys) q h = by_test (peer_eq k q) refl h (stands keys q)
  where
    by_test : (b : Bool) → peer_eq k q ≡ b → (b || list_any (λ (x : PeerKey). peer_eq x q) keys) ≡ true → (list_any (λ (x : PeerKey). peer_eq x q) keys ≡ true → Stands keys q) → Stands (k ∷ keys) q
    by_test true t f more = record { front = []; back = keys; parts = ap (λ (x : PeerKey). x ∷ keys) (same_peer k q t) }
    by_test false t f more =
        let later = more f in
        record { front = k ∷ later.front; back = later.back; parts = ap (λ (l : List PeerKey). k ∷ l) later.parts }

-- ---- the time of the records

latest_kept : (until latest : ℕ) (units : List ReplayUnit) → nat_lt until (latest / 1000000) ≡ false → AllByRecursion (λ u. nat_lt until (u.time / 1000000) ≡ false) units
    → nat_lt until (fold (λ (a : ℕ) (u : ReplayUnit). max a u.time) latest units / 1000000) ≡ false
latest_kept until latest [] e h = e
latest_kept until latest (u ∷ units) e h = latest_kept until (max latest u.time) units (by_test (nat_lt latest u.time) refl) h.1
  where
    by_test : (b : Bool) → nat_lt latest u.time ≡ b → nat_lt until (max latest u.time / 1000000) ≡ false
    by_test true t =
        let same : max latest u.time ≡ u.time = omega (arith, ltb-true latest u.time t) in
        ap (λ (n : ℕ). nat_lt until (n / 1000000)) same ∙ h.0
    by_test false t =
        let same : max latest u.time ≡ latest = omega (arith, ltb-false latest u.time t) in
        ap (λ (n : ℕ). nat_lt until (n / 1000000)) same ∙ e

whole_second : (s : ℕ) → (s * 1000000 + 0) / 1000000 ≡ s
whole_second s = omega arith

seconds_kept : (until : Option ℕ) (units : List ReplayUnit) → AllByRecursion (λ u. is_past until u.time ≡ false) units → is_past until (latest_second units * 1000000 + 0) ≡ false
seconds_kept None units h = refl
seconds_kept (Some t) units h =
    let latest = fold (λ (a : ℕ) (u : ReplayUnit). max a u.time) 0 units in
    let low : latest / 1000000 ≤ t = ltb-false t (latest / 1000000) (latest_kept t 0 units (le-ltb t (0 / 1000000) (omega arith)) h) in
    le-ltb t ((latest_second units * 1000000 + 0) / 1000000) (omega (arith, low, whole_second (latest_second units)))

seconds_small : (units : List ReplayUnit) → latest_second units < 256 ^ 4
seconds_small units = omega arith

-- ---- what is selected

not_past : (b : Bool) → cond b false true ≡ true → b ≡ false
not_past true e = absurd cc
not_past false e = refl

all_concerned : (payload : Payload) → concerns [] payload ≡ true
all_concerned (State from to rule) = refl
all_concerned (Message bytes width add_path rules) = refl
all_concerned (Entry rules key attrs) = refl
all_concerned Clear = refl

module _ (selection : UnitSelection) where
  abbrev IsTaken : ReplayUnit → Type 0
  IsTaken u = is_selected selection u ≡ true

  taken_if : (u : ReplayUnit) → is_past selection.until u.time ≡ false → takes_peer selection u.peer ≡ true → selection.prefixes ≡ [] → IsTaken u
  taken_if u past peer whole =
      let concerned : concerns selection.prefixes u.payload ≡ true = ap (λ (choices : List PrefixChoice). concerns choices u.payload) whole ∙ all_concerned u.payload in
      λ i. cond (past i) false true && (peer i && concerned i)

  in_time : (u : ReplayUnit) → IsTaken u → is_past selection.until u.time ≡ false
  in_time u h = not_past (is_past selection.until u.time) (both_true (cond (is_past selection.until u.time) false true) (takes_peer selection u.peer && concerns selection.prefixes u.payload) h).0

  of_taken : (u : ReplayUnit) → IsTaken u → takes_peer selection u.peer ≡ true
  of_taken u h =
      (both_true (takes_peer selection u.peer) (concerns selection.prefixes u.payload)
      (both_true (cond (is_past selection.until u.time) false true) (takes_peer selection u.peer && concerns selection.prefixes u.payload) h).1).0

  all_in_time : (units : List ReplayUnit) → AllByRecursion IsTaken units → AllByRecursion (λ u. is_past selection.until u.time ≡ false) units
  all_in_time [] h = tt
  all_in_time (u ∷ units) h = (in_time u h.0, all_in_time units h.1)

  been_taken : (units : List ReplayUnit) (k : PeerKey) → AllByRecursion IsTaken units → has_been units k ≡ true → takes_peer selection k ≡ true
  been_taken [] k h been = absurd cc
  been_taken (u ∷ units) k h been = by_test (peer_eq u.peer k) refl been (been_taken units k h.1)
    where
      by_test : (b : Bool) → peer_eq u.peer k ≡ b → (b || has_been units k) ≡ true → (has_been units k ≡ true → takes_peer selection k ≡ true) → takes_peer selection k ≡ true
      by_test true t f more = ap (takes_peer selection) (sym (same_peer u.peer k t)) ∙ of_taken u h.0
      by_test false t f more = more f

-- ---- the time of each unit

module _ (rules : Rules) (rule : StateRule) (file seconds : ℕ) (keys : List PeerKey) where
  abbrev IsDated : ReplayUnit → Type 0
  IsDated u = u.time ≡ seconds * 1000000 + 0

  entries_dated : (offset : ℕ) (prefix : IpPrefix) (number : ℕ) (entries : List PrefixRoute) → AllByRecursion IsDated (units_of_entries (by_entry_width Four rules) (at_record file offset seconds) keys prefix number entries)
  entries_dated offset prefix number [] = tt
  entries_dated offset prefix number (e ∷ entries) = (refl, entries_dated offset prefix (number + 1) entries)

  record_dated : (offset : ℕ) (r : DumpRecord) → AllByRecursion IsDated (units_of_record rules rule (at_record file offset seconds) keys r)
  record_dated offset (state p to) = (refl, tt)
  record_dated offset (rib sequence add_path prefix entries) = entries_dated offset prefix 1 entries
  record_dated offset (update p key r) = (refl, tt)

  all_dated : (offset : ℕ) (records : List DumpRecord) → AllByRecursion IsDated (units_of_dump file offset rules rule seconds keys records)
  all_dated offset [] = tt
  all_dated offset (r ∷ records) =
      let next = offset + written_size (record_of rules.family seconds r) in
      all_both IsDated (units_of_record rules rule (at_record file offset seconds) keys r) (units_of_dump file next rules rule seconds keys records) (record_dated offset r) (all_dated next records)

-- ---- one peer

alike_by : (rule : StateRule) (xs ys : List ReplayUnit) → AreByRule rule xs → AreByRule rule ys → is_as rule (is_up xs) (is_established xs) ≡ is_as rule (is_up ys) (is_established ys)
    → table_of (steps_of xs) ≡ table_of (steps_of ys) → LeaveAlike xs ys
alike_by Recorded xs ys h k e table = record { up = e; established = established_if_up xs h ∙ e ∙ sym (established_if_up ys k); table = table }
alike_by Established xs ys h k e table = record { up = always_up xs h ∙ sym (always_up ys k); established = e; table = table }

none_where_down : (rule : StateRule) (units : List ReplayUnit) → stays_up rule (state_after (is_as rule (is_up units) (is_established units))) ≡ false → table_of (steps_of units) ≡ []
none_where_down Established units e = absurd cc
none_where_down Recorded units e = down_has_none units (by_up (is_up units) e)
  where
    by_up : (b : Bool) → stays_up Recorded (state_after b) ≡ false → b ≡ false
    by_up true f = absurd cc
    by_up false f = refl

-- ---- a replay goes on

module _ (selection : UnitSelection) (files : List (List ℕ)) (h : CanBeCut selection files) where
  abbrev rules : Rules
  rules = selection.rules

  abbrev rule : StateRule
  rule = selection.states

  abbrev first_units : List ReplayUnit
  first_units = units_of selection files

  abbrev seconds : ℕ
  seconds = latest_second first_units

  abbrev peers : List DumpedPeer
  peers = dumped_peers rule first_units

  abbrev records_for : List DumpedPeer → List DumpRecord
  records_for ps = checkpoint_records (record_split rules.family) rules.family ps

  abbrev start : ℕ
  start = written_size (index_record rules.family seconds (keys_of peers))

  abbrev units_for : List DumpedPeer → List ReplayUnit
  units_for ps = units_of_dump 0 start rules rule seconds (keys_of ps) (records_for ps)

  abbrev written : List ReplayUnit
  written = units_for peers

  abbrev bytes : List ℕ
  bytes = checkpoint_bytes selection first_units

  fits : FitsDump (route_rules rules) seconds (keys_of peers) (records_for peers)
  fits = dump_fits (route_rules rules) seconds peers (seconds_small first_units) h.fits.tables

  keys_are : keys_of peers ≡ peers_of first_units
  keys_are = keys_back rule first_units (peers_of first_units)

  apart : Apart (keys_of peers)
  apart = subst Apart (sym keys_are) (peers_apart first_units)

  all_taken : AllByRecursion (IsTaken selection) written
  all_taken =
      each written (all_dated rules rule 0 seconds (keys_of peers) start (records_for peers)) (all_listed rules rule 0 seconds (keys_of peers) (record_split rules.family) start peers refl fits.each)
    where
      taken : AllByRecursion (IsTaken selection) first_units
      taken = units_taken selection h.added h.recorded files

      each : (units : List ReplayUnit) → AllByRecursion (IsDated rules rule 0 seconds (keys_of peers)) units → AllByRecursion (λ u. list_any (λ (q : PeerKey). peer_eq q u.peer) (keys_of peers) ≡ true) units → AllByRecursion (IsTaken selection) units
      each [] d l = tt
      each (u ∷ units) d l = (
        taken_if selection u
            (ap (is_past selection.until) d.0 ∙ seconds_kept selection.until first_units (all_in_time selection first_units taken))
            (been_taken selection first_units u.peer taken (been_listed first_units u.peer ∙ ap (list_any (λ (q : PeerKey). peer_eq q u.peer)) (sym keys_are) ∙ l.0))
            h.whole,
        each units d.1 l.1,
      )

  found_written : filter_map unit_of (found_in_file selection 0 no_dumps bytes) ≡ written
  unfolding checkpoint_bytes
  found_written =
      ap (filter_map unit_of) (dump_found 0 selection seconds (keys_of peers) no_dumps (records_for peers) h.added refl fits h.fits.bytes)
      ∙ units_back (filter (is_selected selection) written) ∙ filter_all (is_selected selection) written all_taken

  alone : units_of selection (bytes ∷ []) ≡ written
  alone = units_first selection h.added h.recorded bytes [] ∙ append-nil (filter_map unit_of (found_in_file selection 0 no_dumps bytes)) ∙ found_written

  written_by : AreByRule rule written
  written_by = subst (AreByRule rule) alone (units_by selection (bytes ∷ []))

  peers_are : peers_of written ≡ peers_of first_units
  peers_are = peers_again rules rule 0 seconds (keys_of peers) (record_split rules.family) start peers refl apart fits.each ∙ keys_are

  abbrev own : PeerKey → List ReplayUnit → List ReplayUnit
  own q units = units_of_peer units q

  own_by : (q : PeerKey) (units : List ReplayUnit) → AreByRule rule units → AreByRule rule (own q units)
  own_by q units k = All-filter (λ (u : ReplayUnit). peer_eq u.peer q) (λ (u : ReplayUnit). IsByRule rule u.payload) units k

  abbrev Fit : List DumpedPeer → Type 0
  Fit ps = AllByRecursion (FitsDumpRecord (route_rules rules) seconds (keys_of ps)) (records_for ps)

  listed_alike : (q : PeerKey) → Stands (peers_of first_units) q → LeaveAlike (own q written) (own q first_units)
  listed_alike q s =
      let f = dumped_peer rule first_units in
      let front = map f s.front in
      let back = map f s.back in
      let split = record_split rules.family in
      let sorted = is_sorted-table_of (steps_of (own q first_units)) in
      let down = none_where_down rule (own q first_units) in
      let parts : peers ≡ front ++ f q ∷ back = ap (map f) s.parts ∙ map-append f s.front (q ∷ s.back) in
      let apart_parts : Apart (keys_of (front ++ f q ∷ back)) = subst (λ (ps : List DumpedPeer). Apart (keys_of ps)) parts apart in
      let fit_parts : Fit (front ++ f q ∷ back) = subst Fit parts fits.each in
      let mandatory : is_handling rules.errors ≡ true → HaveMandatory rules.family (f q) = λ on. (all_back (HaveMandatory rules.family) front (f q ∷ back) (subst (AllByRecursion (HaveMandatory rules.family)) parts (h.taken on))).0 in
      alike_by rule (own q written) (own q first_units) (own_by q written written_by) (own_by q first_units (units_by selection files))
      (subst (λ (ps : List DumpedPeer). is_as rule (is_up (own q (units_for ps))) (is_established (own q (units_for ps))) ≡ (f q).up) (sym parts)
      (state_again split (records_split rules.family) rules rule 0 start seconds front (f q) back apart_parts fit_parts sorted down mandatory))
      (subst (λ (ps : List DumpedPeer). table_of (steps_of (own q (units_for ps))) ≡ (f q).table) (sym parts)
      (table_again split (records_split rules.family) rules rule 0 start seconds front (f q) back apart_parts fit_parts sorted down mandatory))

  own_alike : (q : PeerKey) → LeaveAlike (own q written) (own q first_units)
  own_alike q = by_been (has_been first_units q) refl
    where
      been_same : has_been written q ≡ has_been first_units q
      been_same = been_listed written q ∙ ap (list_any (λ (k : PeerKey). peer_eq k q)) peers_are ∙ sym (been_listed first_units q)

      by_been : (b : Bool) → has_been first_units q ≡ b → LeaveAlike (own q written) (own q first_units)
      by_been true e = listed_alike q (stands (peers_of first_units) q (sym (been_listed first_units q) ∙ e))
      by_been false e = alike_same (own q written) (own q first_units) (none_own written q (been_same ∙ e) ∙ sym (none_own first_units q e))

  module _ (more : List (List ℕ)) where
    abbrev later : List ReplayUnit
    later = later_units selection h.added h.recorded 1 (dumps_behind_cuts 0 selection None no_dumps (cuts 0 bytes)) more

    both : (n : ℕ) × (d : DumpsState) × (d.heard ≡ []) × (units_of selection (files ++ more) ≡ first_units ++ later_units selection h.added h.recorded n d more)
    both = units_both selection h.added h.recorded files more

    abbrev others : List ReplayUnit
    others = later_units selection h.added h.recorded both.0 both.1 more

    same_others : map forget later ≡ map forget others
    same_others = others_alike selection h.added h.recorded bytes both.0 both.1 more both.2

    resumed : resumed_units selection files more ≡ written ++ later
    resumed = units_first selection h.added h.recorded bytes more ∙ ap (λ (l : List ReplayUnit). l ++ later) found_written

    cut_peers : peers_of (resumed_units selection files more) ≡ peers_of (units_of selection (files ++ more))
    cut_peers =
        ap peers_of resumed
        ∙ sym (peers_but_places (written ++ later))
        ∙ ap peers_of (map-append forget written later ∙ (λ i. map forget written ++ same_others i) ∙ sym (map-append forget written others))
        ∙ peers_but_places (written ++ others)
        ∙ peers_go_on written first_units others peers_are
        ∙ sym (ap peers_of both.3)

    later_alike : (q : PeerKey) → LeaveAlike (own q first_units ++ own q later) (own q first_units ++ own q others)
    later_alike q =
        let one = own q first_units ++ own q later in
        let two = own q first_units ++ own q others in
        let same : map forget one ≡ map forget two =
        map-append forget (own q first_units) (own q later)
        ∙ (λ i. map forget (own q first_units) ++ (sym (own_forgotten later q) ∙ ap (own q) same_others ∙ own_forgotten others q) i)
        ∙ sym (map-append forget (own q first_units) (own q others)) in
        alike_both one (map forget one) two (alike_other (map forget one) one (alike_forgotten one))
        (alike_both (map forget one) (map forget two) two (alike_same (map forget one) (map forget two) same) (alike_forgotten two))

    cut_tables : (q : PeerKey) → LeaveAlike (own q (resumed_units selection files more)) (own q (units_of selection (files ++ more)))
    cut_tables q =
        let resumed_own : own q (resumed_units selection files more) ≡ own q written ++ own q later = ap (own q) resumed ∙ filter-append (λ (u : ReplayUnit). peer_eq u.peer q) written later in
        let whole_own : own q (units_of selection (files ++ more)) ≡ own q first_units ++ own q others = ap (own q) both.3 ∙ filter-append (λ (u : ReplayUnit). peer_eq u.peer q) first_units others in
        alike_both (own q (resumed_units selection files more)) (own q written ++ own q later) (own q (units_of selection (files ++ more))) (alike_same (own q (resumed_units selection files more)) (own q written ++ own q later) resumed_own)
        (alike_both (own q written ++ own q later) (own q first_units ++ own q later) (own q (units_of selection (files ++ more))) (go_on_alike (own q written) (own q first_units) (own q later) (own_alike q))
        (alike_both (own q first_units ++ own q later) (own q first_units ++ own q others) (own q (units_of selection (files ++ more))) (later_alike q)
        (alike_same (own q first_units ++ own q others) (own q (units_of selection (files ++ more))) (sym whole_own))))

pub peers_go_on_as : (selection : UnitSelection) (files more : List (List ℕ)) → CanBeCut selection files → peers_of (resumed_units selection files more) ≡ peers_of (units_of selection (files ++ more))
peers_go_on_as selection files more h = cut_peers selection files h more

pub tables_go_on_as : (selection : UnitSelection) (files more : List (List ℕ)) (q : PeerKey) → CanBeCut selection files → LeaveAlike (units_of_peer (resumed_units selection files more) q) (units_of_peer (units_of selection (files ++ more)) q)
tables_go_on_as selection files more q h = cut_tables selection files h more q
