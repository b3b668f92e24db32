-- A peer that isn't heard has an empty table, so that after the clears of a dump every peer has.
use Rattle.std.proofs.Common.{◌≡◌, ℕ, ◌+◌, ◌||◌, Bool, true, false, cond, List, [], ◌∷◌, ◌++◌, map, length, Option, None, Result, Ok, Err, refl, sym, ◌∙◌, ap, subst, append_assoc, append-nil, arith}
use Rattle.std.specs.Prelude.{if◌then◌else◌}
use Rattle.std.specs.List.{filter_map, list_any}
use Rattle.std.specs.Ordering.{match_ordering}
use Rattle.std.specs.declared.cmp.Ordering.{Ordering}
use Rattle.std.specs.declared.cmp.Ordering.TheVariants.{Less, Equal, Greater}
use Rattle.std.proofs.lemmas.Bool.{and_parts, or_parts}
use Rattle.std.proofs.lemmas.List.Elements.{filter-append, filter_map-append}
use Rattle.bgp_prefix.specs.Keys.{RouteKey}
use Rattle.bgp_update.specs.declared.route.Route.{Route}
use Rattle.mrt_frame.specs.declared.fault.Fault.{Fault}
use Rattle.mrt_frame.specs.declared.cut.Cut.{Cut}
use Rattle.mrt_frame.specs.declared.cut.Cut.TheVariants.{Whole, Broken}
use Rattle.mrt_frame.specs.declared.cut.Record.{Record}
use Rattle.mrt_frame.specs.Cuts.{cuts}
use Rattle.mrt_frame.specs.Positions.{flat_map_after}
use Rattle.peer_units.specs.declared.rib_rule.RibRule.{RibRule}
use Rattle.peer_units.specs.declared.rib_rule.RibRule.TheVariants.{Add, Replace}
use Rattle.peer_units.specs.declared.unit.PeerKey.{PeerKey}
use Rattle.peer_units.specs.Plain.{Unit as ReplayUnit, Found}
use Rattle.peer_units.specs.Choices.{UnitSelection}
use Rattle.mrt_body.specs.declared.record_place.RecordAt.{RecordAt}
use Rattle.mrt_body.specs.declared.body_kind.BodyKind.{BodyKind}
use Rattle.mrt_body.specs.declared.body_kind.BodyKind.TheVariants as content
use Rattle.mrt_body.specs.RibDumps.{DumpsState, dumps_with, hear, heard_of, no_dumps, peer_cmp, replaces}
use Rattle.mrt_body.specs.Units.{at_record, begins, body_kind_of, clear_unit, clears_if, dumps_after, dumps_behind, dumps_behind_cuts, dumps_told, peers_named, found_at, found_from, found_in, found_in_file, found_in_files, found_units, index_after, index_before, is_extended, is_index_content, selected_units, unit_of, units_in, units_of, units_or_none}
use Rattle.mrt_body.proofs.IndexLaws.{found_from-is, found_in_file-is}
use Rattle.adj_rib.specs.Steps.{steps_of}
use Rattle.adj_rib.specs.Tables.{table_of}
use Rattle.adj_rib.proofs.Positions.{after_both}
use Rattle.adj_rib.proofs.SourceLaws.{emptied_at_end}
use Rattle.peer_tables.specs.Peers.{peer_eq, units_of_peer}
use Rattle.selection_laws.specs.Dumps.{BeginWith, begins_dump, clears_before, dumps_at_start, dumps_before, dumps_behind_files, table_of_peer, units_before}
use Rattle.selection_laws.proofs.Filters.{as_found}
use Rattle.selection_laws.proofs.PeerOrder.{peer_same}

-- ---- peers that are heard

abbrev pub is_heard : List PeerKey → PeerKey → Bool
is_heard peers q = list_any (λ p. peer_eq p q) peers

or_twice : (a b : Bool) → (a || b) ≡ (a || (a || b))
or_twice true b = refl
or_twice false b = refl

or_turned : (a b c : Bool) → (a || (b || c)) ≡ (b || (a || c))
or_turned true true c = refl
or_turned true false c = refl
or_turned false b c = refl

hear_by : (o : Ordering) (x p q : PeerKey) (peers : List PeerKey) → peer_cmp p x ≡ o → is_heard (hear peers p) q ≡ (peer_eq p q || is_heard peers q) →
    is_heard (match_ordering o (p ∷ x ∷ peers) (x ∷ peers) (x ∷ hear peers p)) q ≡ (peer_eq p q || is_heard (x ∷ peers) q)
hear_by Less x p q peers e behind = refl
hear_by Equal x p q peers e behind =
    or_twice (peer_eq x q) (is_heard peers q) ∙ ap (λ (y : PeerKey). peer_eq y q || is_heard (x ∷ peers) q) (sym (peer_same p x e))
hear_by Greater x p q peers e behind = ap (λ (b : Bool). peer_eq x q || b) behind ∙ or_turned (peer_eq x q) (peer_eq p q) (is_heard peers q)

-- one more is heard
hear_more : (peers : List PeerKey) (p q : PeerKey) → is_heard (hear peers p) q ≡ (peer_eq p q || is_heard peers q)
hear_more [] p q = refl
hear_more (x ∷ peers) p q = hear_by (peer_cmp p x) x p q peers refl (hear_more peers p q)

-- a peer that isn't heard after units wasn't before, and none of them is of it
unheard : (ribs : RibRule) (heard : List PeerKey) (units : List ReplayUnit) (q : PeerKey) → ribs ≡ Replace → is_heard (heard_of ribs heard units) q ≡ false →
    (is_heard heard q ≡ false) × (units_of_peer units q ≡ [])
unheard Add heard units q replace none = absurd cc
unheard Replace heard [] q replace none = (none, refl)
unheard Replace heard (u ∷ units) q replace none =
    let behind = unheard Replace (hear heard u.peer) units q refl none in
    let parts = or_parts (peer_eq u.peer q) (is_heard heard q) (sym (hear_more heard u.peer q) ∙ behind.0) in
    (parts.1, ap (λ (b : Bool). cond b (u ∷ units_of_peer units q) (units_of_peer units q)) parts.0 ∙ behind.1)

-- ---- clears

abbrev left : List ReplayUnit → List (RouteKey × Route)
left own = table_of (steps_of own)

abbrev own_clears : RecordAt → List PeerKey → PeerKey → List ReplayUnit
own_clears at peers q = units_of_peer (map (clear_unit at) peers) q

-- one more peer is cleared, or another one's table stands
one_cleared : (b : Bool) (at : RecordAt) (own more : List ReplayUnit) (p : PeerKey) → left ((own ++ clear_unit at p ∷ []) ++ more) ≡ [] → (b ≡ false → left (own ++ more) ≡ []) →
    left (own ++ cond b (clear_unit at p ∷ more) more) ≡ []
one_cleared true at own more p now other = ap left (sym (append_assoc own (clear_unit at p ∷ []) more)) ∙ now
one_cleared false at own more p now other = other refl

-- an empty table stays so
cleared_still : (at : RecordAt) (own : List ReplayUnit) (peers : List PeerKey) (q : PeerKey) → left own ≡ [] → left (own ++ own_clears at peers q) ≡ []
cleared_still at own [] q empty = ap left (append-nil own) ∙ empty
cleared_still at own (p ∷ peers) q empty =
    one_cleared (peer_eq p q) at own (own_clears at peers q) p (cleared_still at (own ++ clear_unit at p ∷ []) peers q (emptied_at_end own (clear_unit at p) tt))
    (λ other. cleared_still at own peers q empty)

-- a peer that is cleared has an empty table
cleared_now : (at : RecordAt) (own : List ReplayUnit) (peers : List PeerKey) (q : PeerKey) → is_heard peers q ≡ true → left (own ++ own_clears at peers q) ≡ []
cleared_now at own [] q heard = absurd cc
cleared_now at own (p ∷ peers) q heard =
    one_cleared (peer_eq p q) at own (own_clears at peers q) p (cleared_still at (own ++ clear_unit at p ∷ []) peers q (emptied_at_end own (clear_unit at p) tt))
    (λ other. cleared_now at own peers q (ap (λ (b : Bool). b || is_heard peers q) (sym other) ∙ heard))

-- ---- the peers that aren't heard have empty tables

abbrev pub Tracks : DumpsState → List ReplayUnit → Type 0
Tracks dumps units = (q : PeerKey) → is_heard dumps.heard q ≡ false → table_of_peer units q ≡ []

-- so after clears of all that are heard every peer has
pub all_cleared : (at : RecordAt) (dumps : DumpsState) (units : List ReplayUnit) (q : PeerKey) → Tracks dumps units → table_of_peer (units ++ map (clear_unit at) dumps.heard) q ≡ []
all_cleared at dumps units q tracks =
    ap left (filter-append (λ (u : ReplayUnit). peer_eq u.peer q) units (map (clear_unit at) dumps.heard)) ∙ by (is_heard dumps.heard q) refl
  where
    by : (b : Bool) → is_heard dumps.heard q ≡ b → left (units_of_peer units q ++ own_clears at dumps.heard q) ≡ []
    by true e = cleared_now at (units_of_peer units q) dumps.heard q e
    by false e = cleared_still at (units_of_peer units q) dumps.heard q (tracks q e)

if_begun : (begun : Bool) (at : RecordAt) (dumps : DumpsState) (units : List ReplayUnit) (q : PeerKey) → Tracks dumps units → is_heard (if begun then [] else dumps.heard) q ≡ false →
    table_of_peer (units ++ clears_if begun at dumps.heard) q ≡ []
if_begun true at dumps units q tracks none = all_cleared at dumps units q tracks
if_begun false at dumps units q tracks none = ap (λ (us : List ReplayUnit). table_of_peer us q) (append-nil units) ∙ tracks q none

tracks_with : (ribs : RibRule) (begun : Bool) (at : RecordAt) (dumps : DumpsState) (units more : List ReplayUnit) → ribs ≡ Replace → Tracks dumps units →
    Tracks (dumps_with ribs begun dumps more) (units ++ (clears_if begun at dumps.heard ++ more))
tracks_with ribs begun at dumps units more replace tracks q none =
    let parts = unheard ribs (if begun then [] else dumps.heard) more q replace none in
    let cleared : List ReplayUnit = units ++ clears_if begun at dumps.heard in
    ap (λ (us : List ReplayUnit). table_of_peer us q) (sym (append_assoc units (clears_if begun at dumps.heard) more))
    ∙ ap left (filter-append (λ (u : ReplayUnit). peer_eq u.peer q) cleared more ∙ ap (λ (us : List ReplayUnit). units_of_peer cleared q ++ us) parts.1 ∙ append-nil (units_of_peer cleared q))
    ∙ if_begun begun at dumps units q tracks parts.0

-- an index table leaves those that are heard
tracks_if : (index : Bool) (dumps : DumpsState) (units : List ReplayUnit) → Tracks dumps units → Tracks (if index then record dumps { begun = false } else dumps) units
tracks_if true dumps units tracks = tracks
tracks_if false dumps units tracks = tracks

pub units_back : (units : List ReplayUnit) → filter_map unit_of (map as_found units) ≡ units
units_back [] = refl
units_back (u ∷ units) = ap (λ (us : List ReplayUnit). u ∷ us) (units_back units)

given_units : (selection : UnitSelection) (at : RecordAt) (read : Result (List ReplayUnit) Fault) → filter_map unit_of (found_units selection at read) ≡ units_or_none (selected_units selection read)
given_units selection at (Ok units) = units_back _
given_units selection at (Err fault) = refl

-- the units of a whole record: the clears, and its own
pub record_units : (selection : UnitSelection) (at : RecordAt) (clears : List ReplayUnit) (read : Result (List ReplayUnit) Fault) →
    filter_map unit_of (map as_found clears ++ found_units selection at read) ≡ clears ++ units_or_none (selected_units selection read)
record_units selection at clears read =
    filter_map-append unit_of (map as_found clears) (found_units selection at read)
    ∙ (λ i. units_back clears i ++ given_units selection at read i)

module _ (selection : UnitSelection) (replace : selection.ribs ≡ Replace) where
  pub tracks_cut : (file : ℕ) (index : Option (List PeerKey)) (dumps : DumpsState) (units : List ReplayUnit) (cut : Cut) → Tracks dumps units →
      Tracks (dumps_after file selection index dumps cut) (units ++ filter_map unit_of (found_at file selection index dumps cut))
  unfolding found_at
  tracks_cut file index dumps units (Whole r) tracks =
      let at : RecordAt = at_record file r.offset r.seconds in
      let kind : BodyKind = body_kind_of selection.rules.family r.kind r.subtype in
      let begun : Bool = begins selection at index dumps kind r.body in
      let read : Result (List ReplayUnit) Fault = units_in selection dumps.known at (is_extended r.kind) index kind r.body in
      let more : List ReplayUnit = units_or_none (selected_units selection read) in
      subst (λ (us : List ReplayUnit). Tracks (dumps_behind selection begun dumps kind r.body read) (units ++ us)) (sym (record_units selection at (clears_if begun at dumps.heard) read))
      (tracks_if (is_index_content kind) (dumps_told selection begun dumps (peers_named kind r.body read) read) (units ++ (clears_if begun at dumps.heard ++ more)) (tracks_with selection.ribs begun at dumps units more replace tracks))
  tracks_cut file index dumps units (Broken offset fault) tracks = λ q none. ap (λ (us : List ReplayUnit). table_of_peer us q) (append-nil units) ∙ tracks q none

  pub tracks_cuts : (file : ℕ) (index : Option (List PeerKey)) (dumps : DumpsState) (units : List ReplayUnit) (earlier : List Cut) → Tracks dumps units →
      Tracks (dumps_behind_cuts file selection index dumps earlier) (units ++ filter_map unit_of (found_from file selection index dumps earlier))
  tracks_cuts file index dumps units [] tracks = λ q none. ap (λ (us : List ReplayUnit). table_of_peer us q) (append-nil units) ∙ tracks q none
  tracks_cuts file index dumps units (cut ∷ others) tracks =
      let given : List Found = found_at file selection index dumps cut in
      let index_then : Option (List PeerKey) = index_after selection.rules.family index cut in
      let dumps_then : DumpsState = dumps_after file selection index dumps cut in
      let behind : List Found = found_from file selection index_then dumps_then others in
      subst (λ (us : List ReplayUnit). Tracks (dumps_behind_cuts file selection index_then dumps_then others) us)
      (append_assoc units (filter_map unit_of given) (filter_map unit_of behind) ∙ ap (λ (us : List ReplayUnit). units ++ us) (sym (filter_map-append unit_of given behind)))
      (tracks_cuts file index_then dumps_then (units ++ filter_map unit_of given) others (tracks_cut file index dumps units cut tracks))

  pub tracks_files : (file : ℕ) (dumps : DumpsState) (units : List ReplayUnit) (files : List (List ℕ)) → Tracks dumps units →
      Tracks (dumps_behind_files selection file dumps files) (units ++ filter_map unit_of (found_in_files selection file dumps files))
  tracks_files file dumps units [] tracks = λ q none. ap (λ (us : List ReplayUnit). table_of_peer us q) (append-nil units) ∙ tracks q none
  tracks_files file dumps units (bytes ∷ files) tracks =
      let given : List Found = found_in_file selection file dumps bytes in
      let dumps_then : DumpsState = dumps_behind_cuts file selection None dumps (cuts 0 bytes) in
      let behind : List Found = found_in_files selection (file + 1) dumps_then files in
      let first : Tracks dumps_then (units ++ filter_map unit_of given) =
      subst (λ (found : List Found). Tracks dumps_then (units ++ filter_map unit_of found)) (sym (found_in_file-is selection file dumps bytes)) (tracks_cuts file None dumps units (cuts 0 bytes) tracks) in
      subst (λ (us : List ReplayUnit). Tracks (dumps_behind_files selection (file + 1) dumps_then files) us)
      (append_assoc units (filter_map unit_of given) (filter_map unit_of behind) ∙ ap (λ (us : List ReplayUnit). units ++ us) (sym (filter_map-append unit_of given behind)))
      (tracks_files (file + 1) dumps_then (units ++ filter_map unit_of given) files first)

  pub no_units : Tracks no_dumps []
  unfolding steps_of table_of
  no_units q none = refl

  pub tracks_before : (files : List (List ℕ)) (earlier : List Cut) → Tracks (dumps_before selection files earlier) (units_before selection files earlier)
  unfolding units_of found_in
  tracks_before files earlier =
      tracks_cuts (length files) None (dumps_at_start selection files) (units_of selection files) earlier (tracks_files 0 no_dumps [] files no_units)

-- ---- where a dump begins

replaces_one : (ribs : RibRule) → replaces ribs ≡ true → ribs ≡ Replace
replaces_one Add e = absurd cc
replaces_one Replace e = refl

-- RIB dumps replace what came before them
pub begins_where : (selection : UnitSelection) (at : RecordAt) (index : Option (List PeerKey)) (dumps : DumpsState) (kind : BodyKind) (body : List ℕ) →
    begins selection at index dumps kind body ≡ true → selection.ribs ≡ Replace
begins_where selection at index dumps (content.Rib add_path) body e = replaces_one selection.ribs (and_parts _ _ (and_parts _ _ e).1).0
begins_where selection at index dumps content.IndexTable body e = absurd cc
begins_where selection at index dumps (content.Message width add_path) body e = absurd cc
begins_where selection at index dumps (content.States width) body e = absurd cc
begins_where selection at index dumps content.OldEntry body e = absurd cc
begins_where selection at index dumps content.Aside body e = absurd cc

pub none_left : (selection : UnitSelection) (files : List (List ℕ)) (earlier : List Cut) (r : Record) (q : PeerKey) → begins_dump selection files earlier r ≡ true →
    table_of_peer (units_before selection files earlier ++ clears_before selection files earlier r) q ≡ []
none_left selection files earlier r q e =
    let at : RecordAt = at_record (length files) r.offset r.seconds in
    let dumps : DumpsState = dumps_before selection files earlier in
    let replace = begins_where selection at (index_before selection.rules.family earlier) dumps (body_kind_of selection.rules.family r.kind r.subtype) r.body e in
    ap (λ (b : Bool). table_of_peer (units_before selection files earlier ++ clears_if b at dumps.heard) q) e
    ∙ all_cleared at dumps (units_before selection files earlier) q (tracks_before selection replace files earlier)

-- ---- the reading goes on with these units

units_both : (selection : UnitSelection) (file last : ℕ) (dumps : DumpsState) (files others : List (List ℕ)) → last ≡ file + length files →
    found_in_files selection file dumps (files ++ others) ≡ found_in_files selection file dumps files ++ found_in_files selection last (dumps_behind_files selection file dumps files) others
units_both selection file last dumps [] others e = ap (λ (n : ℕ). found_in_files selection n dumps others) (let same : file ≡ last = omega (arith, e) in same)
units_both selection file last dumps (bytes ∷ files) others e =
    let dumps_then : DumpsState = dumps_behind_cuts file selection None dumps (cuts 0 bytes) in
    ap (λ (found : List Found). found_in_file selection file dumps bytes ++ found) (units_both selection (file + 1) last dumps_then files others (omega (arith, e)))
    ∙ sym (append_assoc (found_in_file selection file dumps bytes) (found_in_files selection (file + 1) dumps_then files) (found_in_files selection last (dumps_behind_files selection (file + 1) dumps_then files) others))

regrouped : {X : Type 0} (f e c r l m : List X) → f ++ ((e ++ ((c ++ r) ++ l)) ++ m) ≡ ((f ++ e) ++ c) ++ (r ++ (l ++ m))
regrouped f e c r l m =
    ap (λ x. f ++ x) (append_assoc e ((c ++ r) ++ l) m ∙ ap (λ x. e ++ x) (append_assoc (c ++ r) l m ∙ append_assoc c r (l ++ m)))
    ∙ sym (append_assoc f e (c ++ (r ++ (l ++ m))))
    ∙ sym (append_assoc (f ++ e) c (r ++ (l ++ m)))

pub reading_begins : (selection : UnitSelection) (files : List (List ℕ)) (bytes : List ℕ) (others : List (List ℕ)) (earlier later : List Cut) (r : Record) → cuts 0 bytes ≡ earlier ++ Whole r ∷ later →
    BeginWith (units_of selection (files ++ bytes ∷ others)) (units_before selection files earlier ++ clears_before selection files earlier r)
unfolding units_of found_in found_at
reading_begins selection files bytes others earlier later r e =
    let file : ℕ = length files in
    let start : DumpsState = dumps_at_start selection files in
    let given : List Cut → Cut → List Found = λ before cut. found_at file selection (index_before selection.rules.family before) (dumps_behind_cuts file selection None start before) cut in
    let at : RecordAt = at_record file r.offset r.seconds in
    let index : Option (List PeerKey) = index_before selection.rules.family earlier in
    let kind : BodyKind = body_kind_of selection.rules.family r.kind r.subtype in
    let clears : List ReplayUnit = clears_before selection files earlier r in
    let own : List Found = found_units selection at (units_in selection (dumps_before selection files earlier).known at (is_extended r.kind) index kind r.body) in
    let rest : List Found = flat_map_after given (earlier ++ Whole r ∷ []) later in
    let behind : List Found = found_in_files selection (file + 1) (dumps_behind_cuts file selection None start (cuts 0 bytes)) others in
    let before : List Found = found_in_files selection 0 no_dumps files in
    let first : List Found = found_from file selection None start earlier in
    let fm : List Found → List ReplayUnit = λ found. filter_map unit_of found in
    record {
      others = fm own ++ (fm rest ++ fm behind);
      parts =
          ap fm (units_both selection 0 file no_dumps files (bytes ∷ others) (omega arith))
          ∙ ap (λ (found : List Found). fm (before ++ (found ++ behind)))
          (ap (flat_map_after given []) e ∙ after_both given [] earlier (Whole r ∷ later)
          ∙ ap (λ (found : List Found). found ++ ((map as_found clears ++ own) ++ rest)) (found_from-is file selection start [] earlier))
          ∙ filter_map-append unit_of before ((first ++ ((map as_found clears ++ own) ++ rest)) ++ behind)
          ∙ ap (λ (us : List ReplayUnit). fm before ++ us)
          (filter_map-append unit_of (first ++ ((map as_found clears ++ own) ++ rest)) behind
          ∙ ap (λ (us : List ReplayUnit). us ++ fm behind)
          (filter_map-append unit_of first ((map as_found clears ++ own) ++ rest)
          ∙ ap (λ (us : List ReplayUnit). fm first ++ us)
          (filter_map-append unit_of (map as_found clears ++ own) rest
          ∙ ap (λ (us : List ReplayUnit). us ++ fm rest)
          (filter_map-append unit_of (map as_found clears) own ∙ ap (λ (us : List ReplayUnit). us ++ fm own) (units_back clears)))))
          ∙ regrouped (fm before) (fm first) clears (fm own) (fm rest) (fm behind);
    }
