-- Where RIB dumps are added, the units under chosen prefixes are those of all units that can concern one of them.
use Rattle.std.proofs.Common.{◌≡◌, ℕ, ◌&&◌, Bool, true, false, List, [], ◌++◌, map, Option, Result, Ok, Err, refl, sym, ◌∙◌, ap}
use Rattle.std.specs.Result.{is_ok}
use Rattle.std.specs.List.{filter}
use Rattle.std.proofs.lemmas.List.Elements.{filter_agree}
use Rattle.mrt_frame.specs.declared.fault.Fault.{Fault}
use Rattle.mrt_frame.specs.declared.cut.Cut.{Cut}
use Rattle.mrt_frame.specs.declared.cut.Cut.TheVariants.{Whole, Broken}
use Rattle.peer_units.specs.declared.rib_rule.RibRule.TheVariants.{Add}
use Rattle.peer_units.specs.Plain.{Payload, Unit as ReplayUnit}
use Rattle.peer_units.specs.declared.unit.Payload.TheVariants.{State, Message, Entry, Clear}
use Rattle.peer_units.specs.declared.unit.PeerKey.{PeerKey}
use Rattle.peer_units.specs.Choices.{UnitSelection}
use Rattle.peer_units.specs.Selections.{concerns, is_in_time, is_selected, takes_peer}
use Rattle.mrt_body.specs.declared.record_place.RecordAt.{RecordAt}
use Rattle.mrt_body.specs.declared.body_kind.BodyKind.{BodyKind}
use Rattle.mrt_body.specs.declared.body_kind.BodyKind.TheVariants as content
use Rattle.mrt_body.specs.RibDumps.{DumpsState}
use Rattle.mrt_body.specs.RibRecords.{rib_beside}
use Rattle.mrt_body.specs.Units.{at_record, begins, body_kind_of, clears_at, clears_if, found_at, found_of, found_units, is_extended, selected_units, units_in, units_of}
use Rattle.selection_laws.specs.Wider.{of_all_prefixes}
use Rattle.selection_laws.proofs.Filters.{as_found, filter_twice, keeps, keeps_found}
use Rattle.selection_laws.proofs.Narrowed as narrowed

and_last : (t k o c : Bool) → o ≡ true → (t && (k && c)) ≡ ((t && (k && o)) && c)
and_last true true o c e = sym (ap (λ (x : Bool). x && c) e)
and_last true false o c e = refl
and_last false k o c e = refl

and_none : (b c : Bool) → c ≡ false → (b && c) ≡ false
and_none true c e = e
and_none false c e = refl

concerns_all : (payload : Payload) → concerns [] payload ≡ true
concerns_all (State from to rule) = refl
concerns_all (Message bytes width add_path rules) = refl
concerns_all (Entry rules key attrs) = refl
concerns_all Clear = refl

-- what is selected of all prefixes first
pub selected_late : (narrow : UnitSelection) (units : List ReplayUnit) →
    filter (is_selected narrow) units ≡ filter (λ unit. concerns narrow.prefixes unit.payload) (filter (is_selected (of_all_prefixes narrow)) units)
selected_late narrow units =
    let wide : UnitSelection = of_all_prefixes narrow in
    let keep : ReplayUnit → Bool = λ unit. concerns narrow.prefixes unit.payload in
    filter_agree (is_selected narrow) (λ unit. is_selected wide unit && keep unit)
    (λ unit. and_last (is_in_time narrow unit) (takes_peer narrow unit.peer) (concerns [] unit.payload) (concerns narrow.prefixes unit.payload) (concerns_all unit.payload)) units
    ∙ sym (filter_twice (is_selected wide) keep units)

module _ (narrow : UnitSelection) (added : narrow.ribs ≡ Add) where
  abbrev wide : UnitSelection
  wide = of_all_prefixes narrow

  abbrev keep : ReplayUnit → Bool
  keep unit = concerns narrow.prefixes unit.payload

  record_kept : (at : RecordAt) (read : Result (List ReplayUnit) Fault) → found_of at (selected_units narrow read) ≡ filter (keeps keep) (found_of at (selected_units wide read))
  record_kept at (Ok units) = ap (map as_found) (selected_late narrow units) ∙ sym (keeps_found keep (filter (is_selected wide) units))
  record_kept at (Err fault) = refl

  begins_none : (selection : UnitSelection) (at : RecordAt) (index : Option (List PeerKey)) (dumps : DumpsState) (kind : BodyKind) (body : List ℕ) → selection.ribs ≡ Add →
      begins selection at index dumps kind body ≡ false
  begins_none selection at index dumps (content.Rib add_path) body add = and_none (is_ok (rib_beside selection.rules.family add_path index body)) _ (rw add refl)
  begins_none selection at index dumps content.IndexTable body add = refl
  begins_none selection at index dumps (content.Message width add_path) body add = refl
  begins_none selection at index dumps (content.States width) body add = refl
  begins_none selection at index dumps content.OldEntry body add = refl
  begins_none selection at index dumps content.Aside body add = refl

  clears_none : (selection : UnitSelection) (at : RecordAt) (index : Option (List PeerKey)) (dumps : DumpsState) (kind : BodyKind) (body : List ℕ) → selection.ribs ≡ Add →
      clears_at selection at index dumps kind body ≡ []
  clears_none selection at index dumps kind body add = ap (λ (b : Bool). clears_if b at dumps.heard) (begins_none selection at index dumps kind body add)

  abbrev Alike : DumpsState → DumpsState → Type 0
  Alike a b = a.known ≡ b.known

  cut_kept : (file : ℕ) (index : Option (List PeerKey)) (a b : DumpsState) (cut : Cut) → Alike a b →
      found_at file narrow index a cut ≡ filter (keeps keep) (found_at file wide index b cut)
  unfolding found_at
  cut_kept file index a b (Whole r) alike =
      let at : RecordAt = at_record file r.offset r.seconds in
      let kind : BodyKind = body_kind_of narrow.rules.family r.kind r.subtype in
      let read : Result (List ReplayUnit) Fault = units_in narrow a.known at (is_extended r.kind) index kind r.body in
      ap (λ (clears : List ReplayUnit). map as_found clears ++ found_units narrow at read) (clears_none narrow at index a kind r.body added)
      ∙ record_kept at read
      ∙ sym (ap (λ (clears : List ReplayUnit). filter (keeps keep) (map as_found clears ++ found_units wide at read)) (clears_none wide at index b kind r.body added))
      ∙ ap (λ (r' : Result (List ReplayUnit) Fault). filter (keeps keep) (map as_found (clears_at wide at index b kind r.body) ++ found_units wide at r'))
      (narrowed.read_alike narrow narrow.peers narrow.share [] a b at (is_extended r.kind) index kind r.body alike)
  cut_kept file index a b (Broken offset fault) alike = refl

  pub prefixes_kept : (files : List (List ℕ)) → units_of narrow files ≡ filter keep (units_of wide files)
  prefixes_kept = narrowed.units_kept narrow narrow.peers narrow.share [] keep Alike cut_kept (narrowed.known_after narrow narrow.peers narrow.share []) refl
