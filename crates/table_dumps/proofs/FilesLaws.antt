-- The units of lists of files, where RIB dumps are added.
use Rattle.std.proofs.Common.{◌≡◌, ℕ, ◌+◌, Bool, true, false, cond, List, [], ◌∷◌, ◌++◌, map, Option, None, Result, Ok, Err, refl, sym, ap, subst, ◌∙◌, append_assoc}
use Rattle.std.specs.List.{filter, filter_map, AllByRecursion}
use Rattle.std.proofs.lemmas.List.Elements.{filter_map-append}
use Rattle.mrt_frame.specs.declared.fault.Fault.{Fault}
use Rattle.mrt_frame.specs.declared.cut.Cut.{Cut}
use Rattle.mrt_frame.specs.declared.cut.Cut.TheVariants.{Whole, Broken}
use Rattle.mrt_frame.specs.Cuts.{cuts}
use Rattle.peer_units.specs.declared.rib_rule.RibRule.TheVariants.{Add}
use Rattle.peer_units.specs.declared.unit.PeerKey.{PeerKey}
use Rattle.peer_units.specs.Plain.{Found, Unit as ReplayUnit}
use Rattle.peer_units.specs.Choices.{UnitSelection}
use Rattle.peer_units.specs.Selections.{is_selected}
use Rattle.peer_units.specs.declared.state_peers.StatePeers.TheVariants.{Recorded}
use Rattle.mrt_body.specs.RibDumps.{DumpsState, no_dumps}
use Rattle.mrt_body.specs.Units.{at_record, units_in, found_at, found_from, found_in_file, found_in_files, found_in, unit_of, units_of, body_kind_of, is_extended, index_after, dumps_after, dumps_behind_cuts, begins}
use Rattle.mrt_body.proofs.IndexLaws.{found_in_file-is}
use Rattle.mrt_writing.proofs.DumpLaws.{behind_none}
use Rattle.table_dumps.specs.Resuming.{forget}
use Rattle.table_dumps.proofs.FitLaws.{all_both}
use Rattle.table_dumps.proofs.PlaceLaws.{kept, forget_read, said, said-append, whole_said, files_alike}

module _ (selection : UnitSelection) (add : selection.ribs ≡ Add) (recorded : selection.state_peers ≡ Recorded) where
  -- ---- no peer is heard

  after_none : (file : ℕ) (index : Option (List PeerKey)) (dumps : DumpsState) (cut : Cut) → dumps.heard ≡ [] → (dumps_after file selection index dumps cut).heard ≡ []
  after_none file index dumps (Broken offset fault) e = e
  after_none file index dumps (Whole r) e =
      let at = at_record file r.offset r.seconds in
      let k = body_kind_of selection.rules.family r.kind r.subtype in
      behind_none selection (begins selection at index dumps k r.body) dumps k r.body (units_in selection dumps.known at (is_extended r.kind) index k r.body) add e

  cuts_none : (file : ℕ) (index : Option (List PeerKey)) (dumps : DumpsState) (cs : List Cut) → dumps.heard ≡ [] → (dumps_behind_cuts file selection index dumps cs).heard ≡ []
  cuts_none file index dumps [] e = e
  cuts_none file index dumps (cut ∷ cs) e =
      cuts_none file (index_after selection.rules.family index cut) (dumps_after file selection index dumps cut) cs (after_none file index dumps cut e)

  -- ---- files behind files

  pub files_both : (file : ℕ) (dumps : DumpsState) (files more : List (List ℕ)) → dumps.heard ≡ []
      → (n : ℕ) × (d : DumpsState) × (d.heard ≡ []) × (found_in_files selection file dumps (files ++ more) ≡ found_in_files selection file dumps files ++ found_in_files selection n d more)
  files_both file dumps [] more e = (file, dumps, e, refl)
  files_both file dumps (bytes ∷ files) more e =
      let next = dumps_behind_cuts file selection None dumps (cuts 0 bytes) in
      let rest = files_both (file + 1) next files more (cuts_none file None dumps (cuts 0 bytes) e) in (
        rest.0,
        rest.1,
        rest.2,
        ap (λ (l : List Found). found_in_file selection file dumps bytes ++ l) rest.3
            ∙ sym (append_assoc (found_in_file selection file dumps bytes) (found_in_files selection (file + 1) next files) (found_in_files selection rest.0 rest.1 more)),
      )

  pub lists_alike : (file other : ℕ) (dumps others : DumpsState) (files : List (List ℕ)) → dumps.heard ≡ [] → others.heard ≡ []
      → said selection add recorded (found_in_files selection file dumps files) ≡ said selection add recorded (found_in_files selection other others files)
  lists_alike file other dumps others [] e f = refl
  lists_alike file other dumps others (bytes ∷ files) e f =
      let next = dumps_behind_cuts file selection None dumps (cuts 0 bytes) in
      let next' = dumps_behind_cuts other selection None others (cuts 0 bytes) in
      said-append selection add recorded (found_in_file selection file dumps bytes) (found_in_files selection (file + 1) next files)
      ∙ (λ i. files_alike selection add recorded file other dumps others bytes e f i ++ lists_alike (file + 1) (other + 1) next next' files (cuts_none file None dumps (cuts 0 bytes) e) (cuts_none other None others (cuts 0 bytes) f) i)
      ∙ sym (said-append selection add recorded (found_in_file selection other others bytes) (found_in_files selection (other + 1) next' files))

  -- ---- all units are selected

  abbrev IsTaken : ReplayUnit → Type 0
  IsTaken u = is_selected selection u ≡ true

  filter_taken : (units : List ReplayUnit) → AllByRecursion IsTaken (filter (is_selected selection) units)
  filter_taken [] = tt
  filter_taken (u ∷ units) = by_test (is_selected selection u) refl (filter_taken units)
    where
      by_test : (b : Bool) → is_selected selection u ≡ b → AllByRecursion IsTaken (filter (is_selected selection) units) → AllByRecursion IsTaken (cond b (u ∷ filter (is_selected selection) units) (filter (is_selected selection) units))
      by_test true t more = (t, more)
      by_test false t more = more

  kept_taken : (read : Result (List ReplayUnit) Fault) → AllByRecursion IsTaken (kept selection read)
  kept_taken (Ok units) = filter_taken units
  kept_taken (Err fault) = tt

  at_taken : (file : ℕ) (index : Option (List PeerKey)) (dumps : DumpsState) (cut : Cut) → dumps.heard ≡ [] → AllByRecursion IsTaken (said selection add recorded (found_at file selection index dumps cut))
  unfolding found_at
  at_taken file index dumps (Broken offset fault) e = tt
  at_taken file index dumps (Whole r) e =
      subst (AllByRecursion IsTaken) (sym (whole_said selection add recorded file index dumps r.offset r.seconds r.kind r.subtype r.body e))
      (kept_taken (forget_read (units_in selection dumps.known (at_record file r.offset r.seconds) (is_extended r.kind) index (body_kind_of selection.rules.family r.kind r.subtype) r.body)))

  from_taken : (file : ℕ) (index : Option (List PeerKey)) (dumps : DumpsState) (cs : List Cut) → dumps.heard ≡ [] → AllByRecursion IsTaken (said selection add recorded (found_from file selection index dumps cs))
  from_taken file index dumps [] e = tt
  from_taken file index dumps (cut ∷ cs) e =
      let next = found_from file selection (index_after selection.rules.family index cut) (dumps_after file selection index dumps cut) cs in
      subst (AllByRecursion IsTaken) (sym (said-append selection add recorded (found_at file selection index dumps cut) next))
      (all_both IsTaken (said selection add recorded (found_at file selection index dumps cut)) (said selection add recorded next) (at_taken file index dumps cut e)
      (from_taken file (index_after selection.rules.family index cut) (dumps_after file selection index dumps cut) cs (after_none file index dumps cut e)))

  files_taken : (file : ℕ) (dumps : DumpsState) (files : List (List ℕ)) → dumps.heard ≡ [] → AllByRecursion IsTaken (said selection add recorded (found_in_files selection file dumps files))
  files_taken file dumps [] e = tt
  files_taken file dumps (bytes ∷ files) e =
      let next = dumps_behind_cuts file selection None dumps (cuts 0 bytes) in
      subst (AllByRecursion IsTaken) (sym (said-append selection add recorded (found_in_file selection file dumps bytes) (found_in_files selection (file + 1) next files)))
      (all_both IsTaken (said selection add recorded (found_in_file selection file dumps bytes)) (said selection add recorded (found_in_files selection (file + 1) next files))
      (subst (λ (all : List Found). AllByRecursion IsTaken (said selection add recorded all)) (sym (found_in_file-is selection file dumps bytes)) (from_taken file None dumps (cuts 0 bytes) e))
      (files_taken (file + 1) next files (cuts_none file None dumps (cuts 0 bytes) e)))

  placed_taken : (units : List ReplayUnit) → AllByRecursion IsTaken (map forget units) → AllByRecursion IsTaken units
  placed_taken [] h = tt
  placed_taken (u ∷ units) h = (h.0, placed_taken units h.1)

  pub units_taken : (files : List (List ℕ)) → AllByRecursion IsTaken (units_of selection files)
  unfolding units_of found_in
  units_taken files = placed_taken (filter_map unit_of (found_in_files selection 0 no_dumps files)) (files_taken 0 no_dumps files refl)

  -- ---- units of files

  abbrev pub later_units : ℕ → DumpsState → List (List ℕ) → List ReplayUnit
  later_units file dumps files = filter_map unit_of (found_in_files selection file dumps files)

  pub units_first : (bytes : List ℕ) (more : List (List ℕ)) → units_of selection (bytes ∷ more) ≡ filter_map unit_of (found_in_file selection 0 no_dumps bytes) ++ later_units 1 (dumps_behind_cuts 0 selection None no_dumps (cuts 0 bytes)) more
  unfolding units_of found_in
  units_first bytes more = filter_map-append unit_of (found_in_file selection 0 no_dumps bytes) (found_in_files selection 1 (dumps_behind_cuts 0 selection None no_dumps (cuts 0 bytes)) more)

  pub units_both : (files more : List (List ℕ)) → (n : ℕ) × (d : DumpsState) × (d.heard ≡ []) × (units_of selection (files ++ more) ≡ units_of selection files ++ later_units n d more)
  unfolding units_of found_in
  units_both files more =
      let both = files_both 0 no_dumps files more refl in
      (both.0, both.1, both.2, ap (filter_map unit_of) both.3 ∙ filter_map-append unit_of (found_in_files selection 0 no_dumps files) (found_in_files selection both.0 both.1 more))

  pub others_alike : (bytes : List ℕ) (n : ℕ) (d : DumpsState) (more : List (List ℕ)) → d.heard ≡ []
      → map forget (later_units 1 (dumps_behind_cuts 0 selection None no_dumps (cuts 0 bytes)) more) ≡ map forget (later_units n d more)
  others_alike bytes n d more e = lists_alike 1 n (dumps_behind_cuts 0 selection None no_dumps (cuts 0 bytes)) d more (cuts_none 0 None no_dumps (cuts 0 bytes) refl) e
