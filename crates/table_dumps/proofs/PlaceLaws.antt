-- The number of a file is in the places of its units alone.
use Rattle.std.proofs.Common.{◌≡◌, ℕ, ◌+◌, Bool, true, false, cond, List, [], ◌∷◌, ◌++◌, map, Option, Some, None, Result, Ok, Err, refl, sym, ap, ◌∙◌}
use Rattle.std.specs.List.{filter, filter_map}
use Rattle.std.proofs.lemmas.List.{map-append}
use Rattle.std.proofs.lemmas.List.Elements.{filter_map-append}
use Rattle.mrt_frame.specs.declared.fault.Fault.{Fault}
use Rattle.mrt_frame.specs.declared.cut.Cut.{Cut}
use Rattle.mrt_frame.specs.declared.cut.Cut.TheVariants.{Whole, Broken}
use Rattle.mrt_frame.specs.Fields.{◌>>=◌, Reading}
use Rattle.mrt_frame.specs.Cuts.{cuts}
use Rattle.bgp_prefix.specs.Prefixes.{IpPrefix}
use Rattle.bgp_update.specs.Families.{Rules, by_entry_width, of_peer}
use Rattle.bgp_update.specs.declared.width.Width.{Width}
use Rattle.peer_units.specs.declared.rib_rule.RibRule.TheVariants.{Add}
use Rattle.peer_units.specs.declared.state_rule.StateRule.{StateRule}
use Rattle.peer_units.specs.declared.unit.PeerKey.{PeerKey}
use Rattle.peer_units.specs.declared.unit.Payload.TheVariants.{Message}
use Rattle.peer_units.specs.declared.unit.Found.TheVariants as found
use Rattle.peer_units.specs.Plain.{Found, Unit as ReplayUnit}
use Rattle.peer_units.specs.Choices.{UnitSelection}
use Rattle.peer_units.specs.Selections.{is_selected}
use Rattle.mrt_body.specs.declared.record_place.RecordAt.{RecordAt}
use Rattle.mrt_body.specs.declared.body_kind.BodyKind.{BodyKind}
use Rattle.mrt_body.specs.declared.body_kind.BodyKind.TheVariants as content
use Rattle.mrt_body.specs.Bgp4mp.{RecordedPeer, microseconds_at, session_peer_at, state_change_in}
use Rattle.mrt_body.specs.KnownPeers.{told_peers}
use Rattle.mrt_body.specs.OldEntries.{OldEntryForm, old_entry_in}
use Rattle.mrt_body.specs.declared.bgp4mp.StateChange.{StateChange}
use Rattle.mrt_body.proofs.ManyLaws.{done}
use Rattle.peer_units.specs.declared.state_peers.StatePeers.{StatePeers}
use Rattle.peer_units.specs.declared.state_peers.StatePeers.TheVariants.{Recorded}
use Rattle.peer_units.specs.declared.table_dump_rule.TableDumpRule.{TableDumpRule}
use Rattle.peer_units.specs.declared.table_dump_rule.TableDumpRule.TheVariants.{Aside, Read}
use Rattle.bgp_update.specs.declared.width.Width.TheVariants.{Four}
use Rattle.mrt_body.specs.RibDumps.{DumpsState}
use Rattle.mrt_body.specs.RibRecords.{RibForm, WrittenEntry, rib_beside, rib_prefix}
use Rattle.mrt_body.specs.Units.{at_record, entry_unit, entry_units, rib_units, session_unit, message_unit, change_unit, change_units, old_unit, old_units, old_entry_unit, units_in, selected_units, units_or_none, found_units, found_at, found_from, found_in_file, unit_of, body_kind_of, is_extended, index_after, dumps_after, begins}
use Rattle.mrt_body.proofs.IndexLaws.{found_in_file-is}
use Rattle.table_dumps.specs.Resuming.{forget}
use Rattle.mrt_writing.proofs.DumpLaws.{clears_none, behind_none}

abbrev pub forget_read : Result (List ReplayUnit) Fault → Result (List ReplayUnit) Fault
forget_read (Ok units) = Ok (map forget units)
forget_read (Err fault) = Err fault

module _ (file other offset seconds : ℕ) where
  abbrev at : RecordAt
  at = at_record file offset seconds

  abbrev there : RecordAt
  there = at_record other offset seconds

  entries_alike : (rules : Rules) (peers : List PeerKey) (prefix : IpPrefix) (number : ℕ) (entries : List WrittenEntry) → map forget (entry_units rules at peers prefix number entries) ≡ map forget (entry_units rules there peers prefix number entries)
  entries_alike rules peers prefix number [] = refl
  entries_alike rules peers prefix number (e ∷ entries) = ap (λ (units : List ReplayUnit). forget (entry_unit rules at peers prefix number e) ∷ units) (entries_alike rules peers prefix (number + 1) entries)

  rib_alike : (rules : Rules) (index : Option (List PeerKey)) (read : Result RibForm Fault) → forget_read (read >>= λ form. Ok (rib_units rules at index form)) ≡ forget_read (read >>= λ form. Ok (rib_units rules there index form))
  rib_alike rules index (Err fault) = refl
  rib_alike rules None (Ok form) = refl
  rib_alike rules (Some peers) (Ok form) = ap (λ (units : List ReplayUnit). Ok units) (entries_alike rules peers (rib_prefix form) 1 form.entries)

  abbrev message_of : RecordAt → Rules → Width → Bool → ℕ → Reading RecordedPeer → Result ReplayUnit Fault
  message_of place rules width add_path microseconds read = read >>= λ peer. Ok (session_unit place microseconds peer.0.key (Message peer.1 width add_path (of_peer peer.0.external rules)))

  message_alike : (rules : Rules) (width : Width) (add_path : Bool) (first : Reading ℕ)
      → forget_read ((first >>= λ m. message_of at rules width add_path m.0 (session_peer_at width m.1)) >>= λ unit. Ok (unit ∷ [])) ≡ forget_read ((first >>= λ m. message_of there rules width add_path m.0 (session_peer_at width m.1)) >>= λ unit. Ok (unit ∷ []))
  message_alike rules width add_path (Err fault) = refl
  message_alike rules width add_path (Ok m) = by_peer (session_peer_at width m.1)
    where
      by_peer : (r : Reading RecordedPeer) → forget_read (message_of at rules width add_path m.0 r >>= λ unit. Ok (unit ∷ [])) ≡ forget_read (message_of there rules width add_path m.0 r >>= λ unit. Ok (unit ∷ []))
      by_peer (Err fault) = refl
      by_peer (Ok peer) = refl

  changes_alike : (rule : StateRule) (change : StateChange) (peers : List PeerKey) → map forget (map (change_unit rule at change) peers) ≡ map forget (map (change_unit rule there change) peers)
  changes_alike rule change [] = refl
  changes_alike rule change (peer ∷ peers) = ap (λ (units : List ReplayUnit). forget (change_unit rule at change peer) ∷ units) (changes_alike rule change peers)

  states_alike : (selection : UnitSelection) (known : List PeerKey) (read : Result StateChange Fault)
      → forget_read (read >>= λ change. Ok (change_units selection known at change)) ≡ forget_read (read >>= λ change. Ok (change_units selection known there change))
  states_alike selection known (Err fault) = refl
  states_alike selection known (Ok change) = ap (λ (units : List ReplayUnit). Ok units) (changes_alike selection.states change (told_peers selection.state_peers known change.ends))

  old_alike : (rule : TableDumpRule) (rules : Rules) (body : List ℕ) → forget_read (old_units rule rules at body) ≡ forget_read (old_units rule rules there body)
  unfolding old_entry_unit
  old_alike Aside rules body = refl
  old_alike Read rules body = by_form (old_entry_in rules.family body)
    where
      by_form : (r : Result OldEntryForm Fault) → forget_read ((r >>= λ form. Ok (old_unit rules at form)) >>= λ unit. Ok (unit ∷ [])) ≡ forget_read ((r >>= λ form. Ok (old_unit rules there form)) >>= λ unit. Ok (unit ∷ []))
      by_form (Err fault) = refl
      by_form (Ok form) = refl

  units_alike : (selection : UnitSelection) (known : List PeerKey) (extended : Bool) (index : Option (List PeerKey)) (k : BodyKind) (body : List ℕ) → forget_read (units_in selection known at extended index k body) ≡ forget_read (units_in selection known there extended index k body)
  unfolding message_unit
  units_alike selection known extended index content.IndexTable body = refl
  units_alike selection known extended index (content.Rib add_path) body = rib_alike (by_entry_width Four selection.rules) index (rib_beside selection.rules.family add_path index body)
  units_alike selection known extended index (content.Message width add_path) body = message_alike selection.rules width add_path (microseconds_at extended body)
  units_alike selection known extended index (content.States width) body = states_alike selection known (state_change_in extended width body)
  units_alike selection known extended index content.OldEntry body = old_alike selection.table_dumps selection.rules body
  units_alike selection known extended index content.Aside body = refl

-- where each state change is the recorded peer's, it is no matter which peers are known
pub units_known : (selection : UnitSelection) (known others : List PeerKey) (at : RecordAt) (extended : Bool) (index : Option (List PeerKey)) (k : BodyKind) (body : List ℕ) → selection.state_peers ≡ Recorded
    → units_in selection known at extended index k body ≡ units_in selection others at extended index k body
units_known selection known others at extended index content.IndexTable body is = refl
units_known selection known others at extended index (content.Rib add_path) body is = refl
units_known selection known others at extended index (content.Message width add_path) body is = refl
units_known selection known others at extended index (content.States width) body is =
    ap (λ (rule : StatePeers). state_change_in extended width body >>= λ change. done (map (change_unit selection.states at change) (told_peers rule known change.ends))) is
    ∙ sym (ap (λ (rule : StatePeers). state_change_in extended width body >>= λ change. done (map (change_unit selection.states at change) (told_peers rule others change.ends))) is)
units_known selection known others at extended index content.OldEntry body is = refl
units_known selection known others at extended index content.Aside body is = refl

-- ---- those that are selected

abbrev pub kept : UnitSelection → Result (List ReplayUnit) Fault → List ReplayUnit
kept selection read = units_or_none (selected_units selection read)

filter_forget : (selection : UnitSelection) (units : List ReplayUnit) → map forget (filter (is_selected selection) units) ≡ filter (is_selected selection) (map forget units)
filter_forget selection [] = refl
filter_forget selection (u ∷ units) = by_test (is_selected selection u) (filter_forget selection units)
  where
    by_test : (b : Bool) → map forget (filter (is_selected selection) units) ≡ filter (is_selected selection) (map forget units)
        → map forget (cond b (u ∷ filter (is_selected selection) units) (filter (is_selected selection) units)) ≡ cond b (forget u ∷ filter (is_selected selection) (map forget units)) (filter (is_selected selection) (map forget units))
    by_test true more = ap (λ (l : List ReplayUnit). forget u ∷ l) more
    by_test false more = more

kept_forget : (selection : UnitSelection) (read : Result (List ReplayUnit) Fault) → map forget (kept selection read) ≡ kept selection (forget_read read)
kept_forget selection (Ok units) = filter_forget selection units
kept_forget selection (Err fault) = refl

pub units_back : (units : List ReplayUnit) → filter_map unit_of (map (λ (u : ReplayUnit). found.Unit u) units) ≡ units
units_back [] = refl
units_back (u ∷ units) = ap (λ (l : List ReplayUnit). u ∷ l) (units_back units)

found_kept : (selection : UnitSelection) (place : RecordAt) (read : Result (List ReplayUnit) Fault) → filter_map unit_of (found_units selection place read) ≡ kept selection read
found_kept selection place (Ok units) = units_back (filter (is_selected selection) units)
found_kept selection place (Err fault) = refl

-- ---- a whole file, where RIB dumps are added

module _ (selection : UnitSelection) (add : selection.ribs ≡ Add) (recorded : selection.state_peers ≡ Recorded) where
  abbrev pub said : List Found → List ReplayUnit
  said all = map forget (filter_map unit_of all)

  pub said-append : (xs ys : List Found) → said (xs ++ ys) ≡ said xs ++ said ys
  said-append xs ys = ap (map forget) (filter_map-append unit_of xs ys) ∙ map-append forget (filter_map unit_of xs) (filter_map unit_of ys)

  pub whole_said : (file : ℕ) (index : Option (List PeerKey)) (dumps : DumpsState) (offset seconds kind subtype : ℕ) (body : List ℕ) → dumps.heard ≡ []
      → said (found_at file selection index dumps (Whole (record { offset = offset; seconds = seconds; kind = kind; subtype = subtype; body = body })))
      ≡ kept selection (forget_read (units_in selection dumps.known (at_record file offset seconds) (is_extended kind) index (body_kind_of selection.rules.family kind subtype) body))
  unfolding found_at
  whole_said file index dumps offset seconds kind subtype body e =
      let at = at_record file offset seconds in
      let k = body_kind_of selection.rules.family kind subtype in
      let read = units_in selection dumps.known at (is_extended kind) index k body in
      ap (λ (clears : List ReplayUnit). said (map (λ (u : ReplayUnit). found.Unit u) clears ++ found_units selection at read)) (clears_none (begins selection at index dumps k body) at dumps.heard e)
      ∙ ap (map forget) (found_kept selection at read) ∙ kept_forget selection read

  found_alike : (file other : ℕ) (index : Option (List PeerKey)) (dumps others : DumpsState) (cs : List Cut) → dumps.heard ≡ [] → others.heard ≡ [] → said (found_from file selection index dumps cs) ≡ said (found_from other selection index others cs)
  unfolding found_at
  found_alike file other index dumps others [] e f = refl
  found_alike file other index dumps others (Broken offset fault ∷ cs) e f = found_alike file other index dumps others cs e f
  found_alike file other index dumps others (Whole r ∷ cs) e f =
      let at = at_record file r.offset r.seconds in
      let there = at_record other r.offset r.seconds in
      let k = body_kind_of selection.rules.family r.kind r.subtype in
      let read = units_in selection dumps.known at (is_extended r.kind) index k r.body in
      let again = units_in selection others.known there (is_extended r.kind) index k r.body in
      let next = dumps_after file selection index dumps (Whole r) in
      let next' = dumps_after other selection index others (Whole r) in
      let first : said (found_at file selection index dumps (Whole r)) ≡ said (found_at other selection index others (Whole r)) =
      whole_said file index dumps r.offset r.seconds r.kind r.subtype r.body e
      ∙ ap (kept selection) (units_alike file other r.offset r.seconds selection dumps.known (is_extended r.kind) index k r.body ∙ ap forget_read (units_known selection dumps.known others.known there (is_extended r.kind) index k r.body recorded))
      ∙ sym (whole_said other index others r.offset r.seconds r.kind r.subtype r.body f) in
      let behind = index_after selection.rules.family index (Whole r) in
      said-append (found_at file selection index dumps (Whole r)) (found_from file selection behind next cs)
      ∙ (λ i. first i ++ found_alike file other behind next next' cs (behind_none selection (begins selection at index dumps k r.body) dumps k r.body read add e) (behind_none selection (begins selection there index others k r.body) others k r.body again add f) i)
      ∙ sym (said-append (found_at other selection index others (Whole r)) (found_from other selection behind next' cs))

  pub files_alike : (file other : ℕ) (dumps others : DumpsState) (bytes : List ℕ) → dumps.heard ≡ [] → others.heard ≡ [] → said (found_in_file selection file dumps bytes) ≡ said (found_in_file selection other others bytes)
  files_alike file other dumps others bytes e f =
      ap said (found_in_file-is selection file dumps bytes) ∙ found_alike file other None dumps others (cuts 0 bytes) e f ∙ ap said (sym (found_in_file-is selection other others bytes))
