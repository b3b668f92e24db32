-- Where each cut of a file gives less by a narrower selection, so do all files.
use Rattle.std.proofs.Common.{◌≡◌, ℕ, ◌+◌, ◌&&◌, Bool, true, false, List, [], ◌∷◌, ◌++◌, map, Option, None, Result, Ok, Err, refl, sym, ◌∙◌, ap}
use Rattle.std.specs.List.{filter, filter_map}
use Rattle.std.proofs.lemmas.List.Elements.{filter-append, filter_map-append}
use Rattle.mrt_frame.specs.Positions.{flat_map_after}
use Rattle.mrt_frame.specs.declared.cut.Cut.{Cut}
use Rattle.mrt_frame.specs.declared.cut.Cut.TheVariants.{Whole, Broken}
use Rattle.mrt_frame.specs.declared.fault.Fault.{Fault}
use Rattle.mrt_frame.specs.Cuts.{cuts}
use Rattle.peer_units.specs.Plain.{PrefixChoice, Unit as ReplayUnit, Found}
use Rattle.peer_units.specs.declared.choice.PeerChoice.{PeerChoice}
use Rattle.peer_units.specs.declared.unit.PeerKey.{PeerKey}
use Rattle.peer_units.specs.declared.unit.Damage.{Damage}
use Rattle.peer_units.specs.Selections.{is_selected}
use Rattle.peer_units.specs.Choices.{PeerShare, UnitSelection}
use Rattle.mrt_body.specs.declared.record_place.RecordAt.{RecordAt}
use Rattle.mrt_body.specs.declared.body_kind.BodyKind.{BodyKind}
use Rattle.mrt_body.specs.declared.body_kind.BodyKind.TheVariants as content
use Rattle.mrt_body.specs.RibDumps.{DumpsState, may_begin, no_dumps}
use Rattle.mrt_body.specs.RibRecords.{rib_beside}
use Rattle.std.specs.Result.{is_ok}
use Rattle.std.specs.Prelude.{if◌then◌else◌}
use Rattle.mrt_frame.specs.Fields.{◌>>=◌}
use Rattle.mrt_body.specs.Bgp4mp.{state_change_in}
use Rattle.mrt_body.specs.KnownPeers.{known_with}
use Rattle.mrt_body.specs.declared.bgp4mp.StateChange.{StateChange}
use Rattle.mrt_body.specs.Units.{at_record, begins, body_kind_of, change_units, clears_at, damage_of, dumps_after, dumps_behind_cuts, dumps_told, found_at, found_in, found_in_file, found_in_files, found_of, found_units, index_after, index_before, is_extended, is_index_content, peers_named, refused_of, selected_units, time_of, unit_of, units_in, units_of}
use Rattle.selection_laws.proofs.Filters.{as_found, keeps, keeps_units}

-- the wider selection, of other peers and prefixes; what is kept of what that gives; and what the dumps before have in
-- common
module _ (narrow : UnitSelection) (peers : List PeerChoice) (share : Option PeerShare) (prefixes : List PrefixChoice) (keep : ReplayUnit → Bool)
    (Alike : DumpsState → DumpsState → Type 0)
    (cut_kept : (file : ℕ) (index : Option (List PeerKey)) (a b : DumpsState) (cut : Cut) → Alike a b →
    found_at file narrow index a cut ≡ filter (keeps keep) (found_at file (record narrow { peers = peers; share = share; prefixes = prefixes }) index b cut))
    (alike_after : (file : ℕ) (index : Option (List PeerKey)) (a b : DumpsState) (cut : Cut) → Alike a b →
    Alike (dumps_after file narrow index a cut) (dumps_after file (record narrow { peers = peers; share = share; prefixes = prefixes }) index b cut))
    (alike_first : Alike no_dumps no_dumps) where
  abbrev wide : UnitSelection
  wide = record narrow { peers = peers; share = share; prefixes = prefixes }

  alike_behind : (file : ℕ) (index : Option (List PeerKey)) (a b : DumpsState) (earlier : List Cut) → Alike a b →
      Alike (dumps_behind_cuts file narrow index a earlier) (dumps_behind_cuts file wide index b earlier)
  alike_behind file index a b [] alike = alike
  alike_behind file index a b (cut ∷ others) alike =
      alike_behind file (index_after narrow.rules.family index cut) _ _ others (alike_after file index a b cut alike)

  abbrev given : UnitSelection → ℕ → DumpsState → List Cut → Cut → List Found
  given selection file dumps earlier cut =
      found_at file selection (index_before selection.rules.family earlier) (dumps_behind_cuts file selection None dumps earlier) cut

  all_kept : (file : ℕ) (a b : DumpsState) (earlier others : List Cut) → Alike a b →
      flat_map_after (given narrow file a) earlier others ≡ filter (keeps keep) (flat_map_after (given wide file b) earlier others)
  all_kept file a b earlier [] alike = refl
  all_kept file a b earlier (cut ∷ others) alike =
      (λ i. cut_kept file (index_before narrow.rules.family earlier) _ _ cut (alike_behind file None a b earlier alike) i ++ all_kept file a b (earlier ++ cut ∷ []) others alike i)
      ∙ sym (filter-append (keeps keep) (given wide file b earlier cut) (flat_map_after (given wide file b) (earlier ++ cut ∷ []) others))

  files_kept : (file : ℕ) (a b : DumpsState) (files : List (List ℕ)) → Alike a b →
      found_in_files narrow file a files ≡ filter (keeps keep) (found_in_files wide file b files)
  files_kept file a b [] alike = refl
  files_kept file a b (bytes ∷ files) alike =
      (λ i. all_kept file a b [] (cuts 0 bytes) alike i ++ files_kept (file + 1) _ _ files (alike_behind file None a b (cuts 0 bytes) alike) i)
      ∙ sym (filter-append (keeps keep) (found_in_file wide file b bytes) (found_in_files wide (file + 1) (dumps_behind_cuts file wide None b (cuts 0 bytes)) files))

  pub units_kept : (files : List (List ℕ)) → units_of narrow files ≡ filter keep (units_of wide files)
  unfolding units_of found_in
  units_kept files = ap (filter_map unit_of) (files_kept 0 no_dumps no_dumps files alike_first) ∙ keeps_units keep (found_in_files wide 0 no_dumps files)

-- the same records are refused, and begin dumps
module _ (narrow : UnitSelection) (peers : List PeerChoice) (share : Option PeerShare) (prefixes : List PrefixChoice) where
  abbrev other : UnitSelection
  other = record narrow { peers = peers; share = share; prefixes = prefixes }

  -- by the same records before them
  pub begins_same : (at : RecordAt) (index : Option (List PeerKey)) (a b : DumpsState) (kind : BodyKind) (body : List ℕ) → a.begun ≡ b.begun → begins narrow at index a kind body ≡ begins other at index b kind body
  begins_same at index a b (content.Rib add_path) body same =
      ap (λ (begun : Bool). is_ok (rib_beside narrow.rules.family add_path index body) && may_begin narrow begun (time_of at 0)) same
  begins_same at index a b content.IndexTable body same = refl
  begins_same at index a b (content.Message width add_path) body same = refl
  begins_same at index a b (content.States width) body same = refl
  begins_same at index a b content.OldEntry body same = refl
  begins_same at index a b content.Aside body same = refl

  -- what is read of a record is the same, and so are the peers that are known behind it
  pub read_same : (known : List PeerKey) (at : RecordAt) (extended : Bool) (index : Option (List PeerKey)) (kind : BodyKind) (body : List ℕ) →
      units_in narrow known at extended index kind body ≡ units_in other known at extended index kind body
  read_same known at extended index content.IndexTable body = refl
  read_same known at extended index (content.Rib add_path) body = refl
  read_same known at extended index (content.Message width add_path) body = refl
  read_same known at extended index (content.States width) body = refl
  read_same known at extended index content.OldEntry body = refl
  read_same known at extended index content.Aside body = refl

  pub read_alike : (a b : DumpsState) (at : RecordAt) (extended : Bool) (index : Option (List PeerKey)) (kind : BodyKind) (body : List ℕ) → a.known ≡ b.known →
      units_in narrow a.known at extended index kind body ≡ units_in other b.known at extended index kind body
  read_alike a b at extended index kind body known =
      read_same a.known at extended index kind body ∙ ap (λ (k : List PeerKey). units_in other k at extended index kind body) known

  known_if : (index : Bool) (a b : DumpsState) → a.known ≡ b.known → (if index then record a { begun = false } else a).known ≡ (if index then record b { begun = false } else b).known
  known_if true a b known = known
  known_if false a b known = known

  pub known_after : (file : ℕ) (index : Option (List PeerKey)) (a b : DumpsState) (cut : Cut) → a.known ≡ b.known → (dumps_after file narrow index a cut).known ≡ (dumps_after file other index b cut).known
  known_after file index a b (Whole r) known =
      let at : RecordAt = at_record file r.offset r.seconds in
      let kind : BodyKind = body_kind_of narrow.rules.family r.kind r.subtype in
      let read : Result (List ReplayUnit) Fault = units_in narrow a.known at (is_extended r.kind) index kind r.body in
      let again : Result (List ReplayUnit) Fault = units_in other b.known at (is_extended r.kind) index kind r.body in
      let named : List PeerKey = peers_named kind r.body read in
      known_if (is_index_content kind) (dumps_told narrow (begins narrow at index a kind r.body) a named read) (dumps_told other (begins other at index b kind r.body) b (peers_named kind r.body again) again)
      (ap (λ (k : List PeerKey). known_with narrow.state_peers k named) known
      ∙ ap (λ (r' : Result (List ReplayUnit) Fault). known_with narrow.state_peers b.known (peers_named kind r.body r')) (read_alike a b at (is_extended r.kind) index kind r.body known))
  known_after file index a b (Broken offset fault) known = known

  no_damage : (units : List ReplayUnit) → filter_map damage_of (map as_found units) ≡ []
  no_damage [] = refl
  no_damage (unit ∷ units) = no_damage units

  record_damages : (at : RecordAt) (read : Result (List ReplayUnit) Fault) → filter_map damage_of (found_of at (selected_units narrow read)) ≡ filter_map damage_of (found_of at (selected_units other read))
  record_damages at (Ok units) = no_damage (filter (is_selected narrow) units) ∙ sym (no_damage (filter (is_selected other) units))
  record_damages at (Err fault) = refl

  -- whichever peers are known, the same records are refused
  changes_damage : (at : RecordAt) (known others : List PeerKey) (r : Result StateChange Fault) →
      filter_map damage_of (found_of at (selected_units narrow (r >>= λ c. Ok (change_units narrow known at c)))) ≡ filter_map damage_of (found_of at (selected_units other (r >>= λ c. Ok (change_units other others at c))))
  changes_damage at known others (Ok c) = no_damage (filter (is_selected narrow) (change_units narrow known at c)) ∙ sym (no_damage (filter (is_selected other) (change_units other others at c)))
  changes_damage at known others (Err fault) = refl

  read_damages : (at : RecordAt) (known others : List PeerKey) (extended : Bool) (index : Option (List PeerKey)) (kind : BodyKind) (body : List ℕ) →
      filter_map damage_of (found_units narrow at (units_in narrow known at extended index kind body)) ≡ filter_map damage_of (found_units other at (units_in other others at extended index kind body))
  read_damages at known others extended index content.IndexTable body = record_damages at (units_in narrow known at extended index content.IndexTable body)
  read_damages at known others extended index (content.Rib add_path) body = record_damages at (units_in narrow known at extended index (content.Rib add_path) body)
  read_damages at known others extended index (content.Message width add_path) body = record_damages at (units_in narrow known at extended index (content.Message width add_path) body)
  read_damages at known others extended index (content.States width) body = changes_damage at known others (state_change_in extended width body)
  read_damages at known others extended index content.OldEntry body = record_damages at (units_in narrow known at extended index content.OldEntry body)
  read_damages at known others extended index content.Aside body = record_damages at (units_in narrow known at extended index content.Aside body)

  behind_units : (units : List ReplayUnit) (behind : List Found) → filter_map damage_of (map as_found units ++ behind) ≡ filter_map damage_of behind
  behind_units units behind = filter_map-append damage_of (map as_found units) behind ∙ ap (λ (l : List Damage). l ++ filter_map damage_of behind) (no_damage units)

  cut_damages : (file : ℕ) (index : Option (List PeerKey)) (a b : DumpsState) (cut : Cut) → filter_map damage_of (found_at file narrow index a cut) ≡ filter_map damage_of (found_at file other index b cut)
  unfolding found_at
  cut_damages file index a b (Whole r) =
      let at : RecordAt = at_record file r.offset r.seconds in
      let kind : BodyKind = body_kind_of narrow.rules.family r.kind r.subtype in
      behind_units (clears_at narrow at index a kind r.body) (found_units narrow at (units_in narrow a.known at (is_extended r.kind) index kind r.body))
      ∙ read_damages at a.known b.known (is_extended r.kind) index kind r.body
      ∙ sym (behind_units (clears_at other at index b kind r.body) (found_units other at (units_in other b.known at (is_extended r.kind) index kind r.body)))
  cut_damages file index a b (Broken offset fault) = refl

  abbrev gives : UnitSelection → ℕ → DumpsState → List Cut → Cut → List Found
  gives selection file dumps earlier cut =
      found_at file selection (index_before selection.rules.family earlier) (dumps_behind_cuts file selection None dumps earlier) cut

  all_damages : (file : ℕ) (a b : DumpsState) (earlier others : List Cut) →
      filter_map damage_of (flat_map_after (gives narrow file a) earlier others) ≡ filter_map damage_of (flat_map_after (gives other file b) earlier others)
  all_damages file a b earlier [] = refl
  all_damages file a b earlier (cut ∷ others) =
      filter_map-append damage_of (gives narrow file a earlier cut) (flat_map_after (gives narrow file a) (earlier ++ cut ∷ []) others)
      ∙ (λ i. cut_damages file (index_before narrow.rules.family earlier) (dumps_behind_cuts file narrow None a earlier) (dumps_behind_cuts file other None b earlier) cut i ++ all_damages file a b (earlier ++ cut ∷ []) others i)
      ∙ sym (filter_map-append damage_of (gives other file b earlier cut) (flat_map_after (gives other file b) (earlier ++ cut ∷ []) others))

  files_damages : (file : ℕ) (a b : DumpsState) (files : List (List ℕ)) → filter_map damage_of (found_in_files narrow file a files) ≡ filter_map damage_of (found_in_files other file b files)
  files_damages file a b [] = refl
  files_damages file a b (bytes ∷ files) =
      filter_map-append damage_of (found_in_file narrow file a bytes) (found_in_files narrow (file + 1) (dumps_behind_cuts file narrow None a (cuts 0 bytes)) files)
      ∙ (λ i. all_damages file a b [] (cuts 0 bytes) i ++ files_damages (file + 1) (dumps_behind_cuts file narrow None a (cuts 0 bytes)) (dumps_behind_cuts file other None b (cuts 0 bytes)) files i)
      ∙ sym (filter_map-append damage_of (found_in_file other file b bytes) (found_in_files other (file + 1) (dumps_behind_cuts file other None b (cuts 0 bytes)) files))

  pub refusals_same : (files : List (List ℕ)) → refused_of narrow files ≡ refused_of other files
  unfolding refused_of found_in
  refusals_same files = files_damages 0 no_dumps no_dumps files
