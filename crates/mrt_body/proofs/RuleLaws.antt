-- Each state change that a selection gives has the rule that it asks for, and each message and entry the rules; and
-- where RIB dumps are added there is no clear.
use Rattle.std.proofs.Common.{◌≡◌, ℕ, ◌+◌, ◌&&◌, not, Bool, true, false, List, [], ◌∷◌, ◌++◌, map, Option, Some, None, Result, Ok, Err, IfOk, refl, ap}
use Rattle.std.specs.Result.{is_ok}
use Rattle.std.specs.List.{All, filter, filter_map}
use Rattle.std.proofs.lemmas.List.Elements.{All-nil, All-cons, All-head, All-tail, All-append, All-map, All-filter}
use Rattle.mrt_frame.specs.Positions.{flat_map_after}
use Rattle.mrt_frame.specs.Fields.{◌>>=◌}
use Rattle.mrt_frame.specs.declared.fault.Fault.{Fault}
use Rattle.mrt_frame.specs.declared.cut.Cut.{Cut}
use Rattle.mrt_frame.specs.declared.cut.Cut.TheVariants.{Whole, Broken}
use Rattle.mrt_frame.specs.Cuts.{cuts}
use Rattle.bgp_prefix.specs.Prefixes.{IpPrefix}
use Rattle.bgp_prefix.specs.Keys.{RouteKey}
use Rattle.bgp_update.specs.declared.width.Width.{Width}
use Rattle.bgp_update.specs.declared.width.Width.TheVariants.{Two, Four}
use Rattle.bgp_update.specs.Families.{Rules, by_entry_width, of_peer}
use Rattle.mrt_body.specs.declared.record_place.RecordAt.{RecordAt}
use Rattle.mrt_body.specs.declared.body_kind.BodyKind.{BodyKind}
use Rattle.mrt_body.specs.declared.body_kind.BodyKind.TheVariants as content
use Rattle.peer_units.specs.declared.state_rule.StateRule.{StateRule}
use Rattle.peer_units.specs.declared.table_dump_rule.TableDumpRule.{TableDumpRule}
use Rattle.peer_units.specs.declared.table_dump_rule.TableDumpRule.TheVariants.{Aside, Read}
use Rattle.peer_units.specs.declared.rib_rule.RibRule.TheVariants.{Add}
use Rattle.peer_units.specs.Plain.{Payload}
use Rattle.peer_units.specs.declared.unit.Payload.TheVariants.{State, Message, Entry}
use Rattle.peer_units.specs.declared.unit.PeerKey.{PeerKey}
use Rattle.peer_units.specs.Plain.{Unit as ReplayUnit}
use Rattle.peer_units.specs.Plain.{Found}
use Rattle.peer_units.specs.declared.unit.Found.TheVariants as found
use Rattle.peer_units.specs.Choices.{UnitSelection}
use Rattle.mrt_body.specs.Indexes.{peers_in}
use Rattle.mrt_body.specs.RibRecords.{RibForm, WrittenEntry, rib_beside, rib_prefix}
use Rattle.mrt_body.specs.OldEntries.{old_entry_in, prefix_said}
use Rattle.mrt_body.specs.Bgp4mp.{session_peer_at, microseconds_at, state_change_in}
use Rattle.mrt_body.specs.KnownPeers.{told_peers}
use Rattle.mrt_body.specs.declared.bgp4mp.StateChange.{StateChange}
use Rattle.peer_units.specs.Selections.{is_selected, is_past}
use Rattle.peer_units.specs.States.{IsByRule, AreByRule, IsReadBy, AreReadBy}
use Rattle.mrt_body.specs.RibDumps.{DumpsState, no_dumps, may_begin, replaces}
use Rattle.mrt_body.specs.Units.{begins, clear_unit, clears_at, clears_if, time_of, dumps_behind_cuts, entry_unit, entry_units, rib_units, message_unit, change_unit, old_entry_unit, old_units, units_in, found_units, at_record, is_extended, body_kind_of, found_at, index_before, found_in_file, found_in_files, found_in, unit_of, units_of, refused_at}
use Rattle.peer_units.specs.Payloads.{is_recorded}

module _ {A B : Type 0} (P : B → Type 0) where
  bound : (r : Result A Fault) (f : A → Result B Fault) → ((a : A) → IfOk (f a) P) → IfOk (r >>= f) P
  bound (Ok a) f h = h a
  bound (Err fault) f h = tt

  bound_from : (Q : A → Type 0) (r : Result A Fault) (f : A → Result B Fault) → IfOk r Q → ((a : A) → Q a → IfOk (f a) P) → IfOk (r >>= f) P
  bound_from Q (Ok a) f q h = h a q
  bound_from Q (Err fault) f q h = tt

module _ {X Y : Type 0} (P : Y → Type 0) (f : List X → X → List Y) (each : (before : List X) (x : X) → All P (f before x)) where
  all_behind : (before xs : List X) → All P (flat_map_after f before xs)
  all_behind before [] = All-nil P
  all_behind before (x ∷ xs) = All-append P (f before x) (flat_map_after f (before ++ x ∷ []) xs) (each before x) (all_behind (before ++ x ∷ []) xs)

-- what holds of the payloads of entries and messages by the rules that are asked for, and of state changes by the rule
module _ (selection : UnitSelection) (P : Payload → Type 0) (entry : (width : Width) (key : RouteKey) (attrs : List ℕ) → P (Entry (by_entry_width width selection.rules) key attrs)) (message : (bytes : List ℕ) (width : Width) (add_path external : Bool) → P (Message bytes width add_path (of_peer external selection.rules))) (state : (from to : ℕ) → P (State from to selection.states)) where
  abbrev OfUnit : ReplayUnit → Type 0
  OfUnit unit = P unit.payload

  abbrev OfUnits : List ReplayUnit → Type 0
  OfUnits units = All (λ unit. P unit.payload) units

  abbrev OfFound : Found → Type 0
  OfFound (found.Unit unit) = P unit.payload
  OfFound (found.Refused damage) = Unit {0}

  abbrev four : Rules
  four = by_entry_width Four selection.rules

  entries_by : (at : RecordAt) (peers : List PeerKey) (prefix : IpPrefix) (number : ℕ) (es : List WrittenEntry) → OfUnits (entry_units four at peers prefix number es)
  entries_by at peers prefix number [] = All-nil OfUnit
  entries_by at peers prefix number (e ∷ es) = All-cons OfUnit (entry_unit four at peers prefix number e) (entry_units four at peers prefix (number + 1) es) (entry Four (record { prefix = prefix; id = e.identifier }) e.attributes) (entries_by at peers prefix (number + 1) es)

  ribs_by : (at : RecordAt) (index : Option (List PeerKey)) (form : RibForm) → OfUnits (rib_units four at index form)
  ribs_by at None form = All-nil OfUnit
  ribs_by at (Some peers) form = entries_by at peers (rib_prefix form) 1 form.entries

  message_by : (at : RecordAt) (extended : Bool) (width : Width) (add_path : Bool) (body : List ℕ) → IfOk (message_unit selection.rules at extended width add_path body) OfUnit
  unfolding message_unit
  message_by at extended width add_path body =
      bound OfUnit (microseconds_at extended body) _ (λ m.
      bound OfUnit (session_peer_at width m.1) _ (λ p. message p.1 width add_path p.0.external))

  changes_by : (at : RecordAt) (change : StateChange) (peers : List PeerKey) → OfUnits (map (change_unit selection.states at change) peers)
  changes_by at change [] = All-nil OfUnit
  changes_by at change (peer ∷ peers) = All-cons OfUnit (change_unit selection.states at change peer) (map (change_unit selection.states at change) peers) (state change.from change.to) (changes_by at change peers)

  old_unit_by : (at : RecordAt) (body : List ℕ) → IfOk (old_entry_unit selection.rules at body) OfUnit
  unfolding old_entry_unit
  old_unit_by at body = bound OfUnit (old_entry_in selection.rules.family body) _ (λ form. entry Two (record { prefix = prefix_said form.prefix; id = 0 }) form.attributes)

  alone_by : (unit : ReplayUnit) → OfUnit unit → OfUnits (unit ∷ [])
  alone_by unit h = All-cons OfUnit unit [] h (All-nil OfUnit)

  old_by : (rule : TableDumpRule) (at : RecordAt) (body : List ℕ) → IfOk (old_units rule selection.rules at body) (OfUnits)
  old_by Aside at body = All-nil OfUnit
  old_by Read at body = bound_from (OfUnits) OfUnit (old_entry_unit selection.rules at body) _ (old_unit_by at body) alone_by

  read_by : (known : List PeerKey) (at : RecordAt) (extended : Bool) (index : Option (List PeerKey)) (c : BodyKind) (body : List ℕ) → IfOk (units_in selection known at extended index c body) (OfUnits)
  read_by known at extended index content.IndexTable body = bound (OfUnits) (peers_in body) _ (λ peers. All-nil OfUnit)
  read_by known at extended index (content.Rib add_path) body = bound (OfUnits) (rib_beside selection.rules.family add_path index body) _ (λ form. ribs_by at index form)
  read_by known at extended index (content.Message width add_path) body = bound_from (OfUnits) OfUnit (message_unit selection.rules at extended width add_path body) _ (message_by at extended width add_path body) alone_by
  read_by known at extended index (content.States width) body = bound (OfUnits) (state_change_in extended width body) _ (λ change. changes_by at change (told_peers selection.state_peers known change.ends))
  read_by known at extended index content.OldEntry body = old_by selection.table_dumps at body
  read_by known at extended index content.Aside body = All-nil OfUnit

  refusal_by : (at : RecordAt) (fault : Fault) → All OfFound (refused_at at fault ∷ [])
  refusal_by at fault = All-cons OfFound (refused_at at fault) [] tt (All-nil OfFound)

  selected_by : (at : RecordAt) (read : Result (List ReplayUnit) Fault) → IfOk read (OfUnits) → All OfFound (found_units selection at read)
  selected_by at (Ok units) h = All-map OfFound (λ (u : ReplayUnit). found.Unit u) (filter (is_selected selection) units) (All-filter (is_selected selection) OfUnit units h)
  selected_by at (Err fault) h = refusal_by at fault

  given_by : (fs : List Found) → All OfFound fs → OfUnits (filter_map unit_of fs)
  given_by [] h = All-nil OfUnit
  given_by (found.Unit unit ∷ fs) h = All-cons OfUnit unit (filter_map unit_of fs) (All-head OfFound (found.Unit unit) fs h) (given_by fs (All-tail OfFound (found.Unit unit) fs h))
  given_by (found.Refused damage ∷ fs) h = given_by fs (All-tail OfFound (found.Refused damage) fs h)

module _ (selection : UnitSelection) (P : Payload → Type 0) (entry : (width : Width) (key : RouteKey) (attrs : List ℕ) → P (Entry (by_entry_width width selection.rules) key attrs)) (message : (bytes : List ℕ) (width : Width) (add_path external : Bool) → P (Message bytes width add_path (of_peer external selection.rules))) (state : (from to : ℕ) → P (State from to selection.states))
    (cleared : (at : RecordAt) (index : Option (List PeerKey)) (dumps : DumpsState) (c : BodyKind) (body : List ℕ) → All (λ (unit : ReplayUnit). P unit.payload) (clears_at selection at index dumps c body)) where
  abbrev Of : Found → Type 0
  Of f = OfFound selection P entry message state f

  cut_by : (file : ℕ) (index : Option (List PeerKey)) (dumps : DumpsState) (cut : Cut) → All Of (found_at file selection index dumps cut)
  unfolding found_at
  cut_by file index dumps (Whole r) =
      let at = at_record file r.offset r.seconds in
      let c = body_kind_of selection.rules.family r.kind r.subtype in
      let read = units_in selection dumps.known at (is_extended r.kind) index c r.body in
      let clears = clears_at selection at index dumps c r.body in
      All-append Of (map (λ u. found.Unit u) clears) (found_units selection at read)
      (All-map Of (λ (u : ReplayUnit). found.Unit u) clears (cleared at index dumps c r.body))
      (selected_by selection P entry message state at read (read_by selection P entry message state dumps.known at (is_extended r.kind) index c r.body))
  cut_by file index dumps (Broken offset fault) = refusal_by selection P entry message state (at_record file offset 0) fault

  file_by : (file : ℕ) (dumps : DumpsState) (bytes : List ℕ) → All Of (found_in_file selection file dumps bytes)
  file_by file dumps bytes = all_behind Of (λ (earlier : List Cut) (cut : Cut). found_at file selection (index_before selection.rules.family earlier) (dumps_behind_cuts file selection None dumps earlier) cut) (λ earlier cut. cut_by file (index_before selection.rules.family earlier) (dumps_behind_cuts file selection None dumps earlier) cut) [] (cuts 0 bytes)

  files_by : (file : ℕ) (dumps : DumpsState) (files : List (List ℕ)) → All Of (found_in_files selection file dumps files)
  files_by file dumps [] = All-nil Of
  files_by file dumps (bytes ∷ files) =
      let after = dumps_behind_cuts file selection None dumps (cuts 0 bytes) in
      All-append Of (found_in_file selection file dumps bytes) (found_in_files selection (file + 1) after files) (file_by file dumps bytes) (files_by (file + 1) after files)

  units_where : (files : List (List ℕ)) → All (λ unit. P unit.payload) (units_of selection files)
  unfolding units_of found_in
  units_where files = given_by selection P entry message state (found_in selection files) (files_by 0 no_dumps files)

-- clears have no rule
clears_by : (rule : StateRule) (at : RecordAt) (begun : Bool) (heard : List PeerKey) → AreByRule rule (clears_if begun at heard)
clears_by rule at false heard = All-nil (λ (unit : ReplayUnit). IsByRule rule unit.payload)
clears_by rule at true [] = All-nil (λ (unit : ReplayUnit). IsByRule rule unit.payload)
clears_by rule at true (peer ∷ heard) = All-cons (λ (unit : ReplayUnit). IsByRule rule unit.payload) (clear_unit at peer) (clears_if true at heard) tt (clears_by rule at true heard)

pub units_by : (selection : UnitSelection) (files : List (List ℕ)) → AreByRule selection.states (units_of selection files)
units_by selection files = units_where selection (λ payload. IsByRule selection.states payload) (λ width key attrs. tt) (λ bytes width add_path external. tt) (λ from to. refl) (λ at index dumps c body. clears_by selection.states at (begins selection at index dumps c body) dumps.heard) files

-- clears have no rules
clears_of : (rules : Rules) (at : RecordAt) (begun : Bool) (heard : List PeerKey) → AreReadBy rules (clears_if begun at heard)
clears_of rules at false heard = All-nil (λ (unit : ReplayUnit). IsReadBy rules unit.payload)
clears_of rules at true [] = All-nil (λ (unit : ReplayUnit). IsReadBy rules unit.payload)
clears_of rules at true (peer ∷ heard) = All-cons (λ (unit : ReplayUnit). IsReadBy rules unit.payload) (clear_unit at peer) (clears_if true at heard) tt (clears_of rules at true heard)

pub units_by_rules : (selection : UnitSelection) (files : List (List ℕ)) → AreReadBy selection.rules (units_of selection files)
units_by_rules selection files = units_where selection (λ payload. IsReadBy selection.rules payload) (λ width key attrs. (width, refl)) (λ bytes width add_path external. (external, refl)) (λ from to. tt) (λ at index dumps c body. clears_of selection.rules at (begins selection at index dumps c body) dumps.heard) files

-- where RIB dumps are added, none begins anew
none_begins : (selection : UnitSelection) (at : RecordAt) (index : Option (List PeerKey)) (dumps : DumpsState) (c : BodyKind) (body : List ℕ) → selection.ribs ≡ Add → begins selection at index dumps c body ≡ false
none_begins selection at index dumps content.IndexTable body h = refl
none_begins selection at index dumps (content.Rib add_path) body h =
    elim (is_ok (rib_beside selection.rules.family add_path index body)) as (λ b. (b && may_begin selection dumps.begun (time_of at 0)) ≡ false) [
      | true ↦ ap (λ ribs. replaces ribs && (not dumps.begun && not (is_past selection.until (time_of at 0)))) h
      | false ↦ refl
    ]
none_begins selection at index dumps (content.Message width add_path) body h = refl
none_begins selection at index dumps (content.States width) body h = refl
none_begins selection at index dumps content.OldEntry body h = refl
none_begins selection at index dumps content.Aside body h = refl

pub units_recorded : (selection : UnitSelection) (files : List (List ℕ)) → selection.ribs ≡ Add → All (λ unit. is_recorded unit.payload ≡ true) (units_of selection files)
units_recorded selection files h =
    units_where selection (λ payload. is_recorded payload ≡ true) (λ width key attrs. refl) (λ bytes width add_path external. refl) (λ from to. refl)
    (λ at index dumps c body. rw (none_begins selection at index dumps c body h) (All-nil (λ (unit : ReplayUnit). is_recorded unit.payload ≡ true))) files
