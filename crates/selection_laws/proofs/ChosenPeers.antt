-- The units of chosen peers are those of all units that are of one of them.
use Rattle.std.proofs.Common.{◌≡◌, ℕ, ◌&&◌, ◌||◌, Bool, true, false, cond, List, [], ◌∷◌, ◌++◌, map, Option, None, Result, Ok, Err, refl, sym, ◌∙◌, ap, subst}
use Rattle.std.specs.Prelude.{if◌then◌else◌}
use Rattle.std.specs.List.{filter}
use Rattle.std.proofs.lemmas.List.Elements.{filter-append, filter_agree}
use Rattle.mrt_frame.specs.declared.fault.Fault.{Fault}
use Rattle.mrt_frame.specs.declared.cut.Cut.{Cut}
use Rattle.mrt_frame.specs.declared.cut.Cut.TheVariants.{Whole, Broken}
use Rattle.peer_units.specs.Plain.{Unit as ReplayUnit}
use Rattle.peer_units.specs.declared.unit.PeerKey.{PeerKey}
use Rattle.peer_units.specs.Choices.{UnitSelection}
use Rattle.peer_units.specs.Selections.{concerns, is_in_time, is_selected, takes_peer}
use Rattle.mrt_body.specs.declared.record_place.RecordAt.{RecordAt}
use Rattle.mrt_body.specs.declared.body_kind.BodyKind.{BodyKind}
use Rattle.mrt_body.specs.KnownPeers.{known_with}
use Rattle.mrt_body.specs.RibDumps.{DumpsState, heard_of, no_dumps}
use Rattle.mrt_body.specs.Units.{at_record, begins, body_kind_of, clear_unit, clears_at, clears_if, dumps_after, dumps_behind, dumps_told, found_at, found_of, found_units, is_extended, is_index_content, peers_named, selected_units, units_in, units_of, units_or_none}
use Rattle.selection_laws.specs.Wider.{of_all_peers}
use Rattle.selection_laws.proofs.Filters.{as_found, filter_twice, keeps, keeps_found}
use Rattle.selection_laws.proofs.HeardPeers.{Rise, heard_kept, rise_of}
use Rattle.selection_laws.proofs.Narrowed as narrowed

and_turned : (t k c : Bool) → (t && (k && c)) ≡ ((t && c) && k)
and_turned true true true = refl
and_turned true true false = refl
and_turned true false true = refl
and_turned true false false = refl
and_turned false k c = refl

module _ (narrow : UnitSelection) where
  abbrev wide : UnitSelection
  wide = of_all_peers narrow

  abbrev takes : PeerKey → Bool
  takes q = takes_peer narrow q

  abbrev keep : ReplayUnit → Bool
  keep unit = takes_peer narrow unit.peer

  selected : (units : List ReplayUnit) → filter (is_selected narrow) units ≡ filter keep (filter (is_selected wide) units)
  selected units =
      filter_agree (is_selected narrow) (λ unit. is_selected wide unit && keep unit)
      (λ unit. and_turned (is_in_time narrow unit) (takes_peer narrow unit.peer) (concerns narrow.prefixes unit.payload)) units
      ∙ sym (filter_twice (is_selected wide) keep units)

  -- the chosen ones of the peers that were heard are heard
  pub record Alike (a b : DumpsState) : Type 0 where
    pub heard : a.heard ≡ filter takes b.heard
    pub begun : a.begun ≡ b.begun
    pub rise : Rise b.heard
    pub known : a.known ≡ b.known

  record_kept : (at : RecordAt) (read : Result (List ReplayUnit) Fault) → found_of at (selected_units narrow read) ≡ filter (keeps keep) (found_of at (selected_units wide read))
  record_kept at (Ok units) = ap (map as_found) (selected units) ∙ sym (keeps_found keep (filter (is_selected wide) units))
  record_kept at (Err fault) = refl

  given_kept : (read : Result (List ReplayUnit) Fault) → units_or_none (selected_units narrow read) ≡ filter keep (units_or_none (selected_units wide read))
  given_kept (Ok units) = selected units
  given_kept (Err fault) = refl

  cleared : (b : Bool) (at : RecordAt) (q : PeerKey) (peers : List PeerKey) → map (clear_unit at) (cond b (q ∷ peers) peers) ≡ cond b (clear_unit at q ∷ map (clear_unit at) peers) (map (clear_unit at) peers)
  cleared true at q peers = refl
  cleared false at q peers = refl

  clears_kept : (at : RecordAt) (peers : List PeerKey) → map (clear_unit at) (filter takes peers) ≡ filter keep (map (clear_unit at) peers)
  clears_kept at [] = refl
  clears_kept at (q ∷ peers) = cleared (takes q) at q (filter takes peers) ∙ ap (λ (l : List ReplayUnit). cond (takes q) (clear_unit at q ∷ l) l) (clears_kept at peers)

  clears_by : (b : Bool) (at : RecordAt) (peers : List PeerKey) → clears_if b at (filter takes peers) ≡ filter keep (clears_if b at peers)
  clears_by true at peers = clears_kept at peers
  clears_by false at peers = refl

  clears_same : (at : RecordAt) (index : Option (List PeerKey)) (a b : DumpsState) (kind : BodyKind) (body : List ℕ) → Alike a b →
      clears_at narrow at index a kind body ≡ filter keep (clears_at wide at index b kind body)
  clears_same at index a b kind body alike =
      (λ i. clears_if (narrowed.begins_same narrow [] None narrow.prefixes at index a b kind body alike.begun i) at (alike.heard i)) ∙ clears_by (begins wide at index b kind body) at b.heard

  cut_kept : (file : ℕ) (index : Option (List PeerKey)) (a b : DumpsState) (cut : Cut) → Alike a b →
      found_at file narrow index a cut ≡ filter (keeps keep) (found_at file wide index b cut)
  unfolding found_at
  cut_kept file index a b (Whole r) alike =
      let at : RecordAt = at_record file r.offset r.seconds in
      let kind : BodyKind = body_kind_of narrow.rules.family r.kind r.subtype in
      let read : Result (List ReplayUnit) Fault = units_in narrow a.known at (is_extended r.kind) index kind r.body in
      (λ i. (ap (map as_found) (clears_same at index a b kind r.body alike) ∙ sym (keeps_found keep (clears_at wide at index b kind r.body))) i ++ record_kept at read i)
      ∙ sym (filter-append (keeps keep) (map as_found (clears_at wide at index b kind r.body)) (found_units wide at read))
      ∙ ap (λ (r' : Result (List ReplayUnit) Fault). filter (keeps keep) (map as_found (clears_at wide at index b kind r.body) ++ found_units wide at r'))
      (narrowed.read_alike narrow [] None narrow.prefixes a b at (is_extended r.kind) index kind r.body alike.known)
  cut_kept file index a b (Broken offset fault) alike = refl

  start_kept : (begun : Bool) (a b : List PeerKey) → a ≡ filter takes b → (if begun then [] else a) ≡ filter takes (if begun then [] else b)
  start_kept true a b e = refl
  start_kept false a b e = e

  start_rises : (begun : Bool) (heard : List PeerKey) → Rise heard → Rise (if begun then [] else heard)
  start_rises true heard rise = tt
  start_rises false heard rise = rise

  alike_with : (begun : Bool) (a b : DumpsState) (named : List PeerKey) (read : Result (List ReplayUnit) Fault) → Alike a b →
      Alike (dumps_told narrow begun a named read) (dumps_told wide begun b named read)
  alike_with begun a b named read alike =
      let start : List PeerKey = if begun then [] else b.heard in
      let rises : Rise start = start_rises begun b.heard alike.rise in
      record {
        heard =
            (λ i. heard_of narrow.ribs (start_kept begun a.heard b.heard alike.heard i) (given_kept read i))
            ∙ heard_kept takes narrow.ribs start (units_or_none (selected_units wide read)) rises;
        begun = ap (λ (x : Bool). begun || x) alike.begun;
        rise = rise_of narrow.ribs start (units_or_none (selected_units wide read)) rises;
        known = ap (λ (k : List PeerKey). known_with narrow.state_peers k named) alike.known;
      }

  alike_if : (index : Bool) (a b : DumpsState) → Alike a b → Alike (if index then record a { begun = false } else a) (if index then record b { begun = false } else b)
  alike_if true a b alike = record { heard = alike.heard; begun = refl; rise = alike.rise; known = alike.known }
  alike_if false a b alike = alike

  alike_after : (file : ℕ) (index : Option (List PeerKey)) (a b : DumpsState) (cut : Cut) → Alike a b → Alike (dumps_after file narrow index a cut) (dumps_after file wide index b cut)
  alike_after file index a b (Whole r) alike =
      let at : RecordAt = at_record file r.offset r.seconds in
      let kind : BodyKind = body_kind_of narrow.rules.family r.kind r.subtype in
      let read : Result (List ReplayUnit) Fault = units_in narrow a.known at (is_extended r.kind) index kind r.body in
      let named : List PeerKey = peers_named kind r.body read in
      let begun : Bool = begins narrow at index a kind r.body in
      subst (λ (r' : Result (List ReplayUnit) Fault). Alike (dumps_behind narrow begun a kind r.body read) (dumps_behind wide (begins wide at index b kind r.body) b kind r.body r'))
      (narrowed.read_alike narrow [] None narrow.prefixes a b at (is_extended r.kind) index kind r.body alike.known)
      (alike_if (is_index_content kind) (dumps_told narrow begun a named read) (dumps_told wide (begins wide at index b kind r.body) b named read)
      (subst (λ (x : Bool). Alike (dumps_told narrow x a named read) (dumps_told wide (begins wide at index b kind r.body) b named read))
      (sym (narrowed.begins_same narrow [] None narrow.prefixes at index a b kind r.body alike.begun)) (alike_with (begins wide at index b kind r.body) a b named read alike)))
  alike_after file index a b (Broken offset fault) alike = alike

  alike_first : Alike no_dumps no_dumps
  alike_first = record { heard = refl; begun = refl; rise = tt; known = refl }

  pub peers_kept : (files : List (List ℕ)) → units_of narrow files ≡ filter keep (units_of wide files)
  peers_kept = narrowed.units_kept narrow [] None narrow.prefixes keep Alike cut_kept alike_after alike_first
