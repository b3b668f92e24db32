-- Each peer has the same routes of chosen prefixes in a reading of these as in one of all: where a dump begins, none.
use Rattle.std.proofs.Common.{◌≡◌, ℕ, ◌+◌, ◌&&◌, ◌||◌, Bool, true, false, cond, List, [], ◌∷◌, ◌++◌, map, Option, None, Result, Ok, Err, refl, sym, ◌∙◌, ap, subst, append_assoc, append-nil}
use Rattle.std.specs.Prelude.{if◌then◌else◌, unwrap_or}
use Rattle.std.specs.List.{filter, filter_map, last_or}
use Rattle.std.specs.FinMap.Entries.{find, find-where_key, is_sorted-where_key, same_entries}
use Rattle.std.proofs.lemmas.List.Elements.{filter-append, filter_agree, filter_map-append}
use Rattle.bgp_prefix.specs.Keys.{RouteKey, key_cmp}
use Rattle.bgp_prefix.proofs.KeyLaws.{key_cmp_total, key_cmp_exact}
use Rattle.bgp_update.specs.declared.route.Route.{Route}
use Rattle.mrt_frame.specs.declared.fault.Fault.{Fault}
use Rattle.mrt_frame.specs.declared.cut.Cut.{Cut}
use Rattle.mrt_frame.specs.declared.cut.Cut.TheVariants.{Whole, Broken}
use Rattle.mrt_frame.specs.Cuts.{cuts}
use Rattle.peer_units.specs.declared.rib_rule.RibRule.TheVariants.{Replace}
use Rattle.peer_units.specs.declared.state_rule.StateRule.{StateRule}
use Rattle.peer_units.specs.declared.unit.PeerKey.{PeerKey}
use Rattle.peer_units.specs.Plain.{Unit as ReplayUnit, Found}
use Rattle.peer_units.specs.States.{established_by, up_by}
use Rattle.peer_units.specs.Choices.{UnitSelection}
use Rattle.peer_units.specs.Selections.{concerns}
use Rattle.mrt_body.specs.declared.record_place.RecordAt.{RecordAt}
use Rattle.mrt_body.specs.declared.body_kind.BodyKind.{BodyKind}
use Rattle.mrt_body.specs.RibDumps.{DumpsState, no_dumps}
use Rattle.mrt_body.specs.Units.{at_record, begins, body_kind_of, clear_unit, clears_if, dumps_after, dumps_behind_cuts, dumps_told, found_at, found_from, found_in, found_in_file, found_in_files, index_after, is_extended, is_index_content, peers_named, selected_units, unit_of, units_in, units_of, units_or_none}
use Rattle.mrt_body.proofs.IndexLaws.{found_in_file-is}
use Rattle.adj_rib.specs.Steps.{Step, is_established, is_up, last_said, state_says, steps_of, unit_steps}
use Rattle.adj_rib.specs.Tables.{route_at, said_of, table_of}
use Rattle.adj_rib.specs.Selecting.{chooses, concerned, selected_entries}
use Rattle.adj_rib.proofs.After.{steps_of-push}
use Rattle.adj_rib.proofs.TableLaws.{find-table_of, is_sorted-table_of, last_or-append}
use Rattle.adj_rib.proofs.Selected.{is_established-concerned, is_up-concerned, route_at-selected, steps_of-concerned, tied_alike}
use Rattle.peer_tables.specs.Peers.{peer_eq, units_of_peer}
use Rattle.selection_laws.specs.Dumps.{table_of_peer}
use Rattle.selection_laws.specs.Wider.{of_all_prefixes}
use Rattle.selection_laws.proofs.ChosenPrefixes.{selected_late}
use Rattle.selection_laws.proofs.Cleared.{Tracks, all_cleared, begins_where, no_units, record_units, tracks_cut}
use Rattle.selection_laws.proofs.Filters.{filter_twice}
use Rattle.selection_laws.proofs.Narrowed.{begins_same, known_after, read_alike}

-- ---- what further units make of two lists of units

-- what is said last, behind what says the same
last_behind : {A : Type 0} (d : A) (o p : Option A) (xs : List A) → unwrap_or o d ≡ unwrap_or p d → unwrap_or (last_or o xs) d ≡ unwrap_or (last_or p xs) d
last_behind d o p [] e = e
last_behind d o p (x ∷ xs) e = refl

-- the state is the same, by what state changes say
abbrev SayAlike : List ReplayUnit → List ReplayUnit → Type 0
SayAlike own other = (says : StateRule → ℕ → ℕ → Option Bool) → last_said says own ≡ last_said says other

say_more : (own other more : List ReplayUnit) → SayAlike own other → SayAlike (own ++ more) (other ++ more)
say_more own other more same says =
    let said : List ReplayUnit → List Bool = λ units. filter_map (λ (u : ReplayUnit). state_says says u.payload) units in
    both own ∙ last_behind true (last_or None (said own)) (last_or None (said other)) (said more) (same says) ∙ sym (both other)
  where
    both : (units : List ReplayUnit) → last_said says (units ++ more) ≡ unwrap_or (last_or (last_or None (filter_map (λ (u : ReplayUnit). state_says says u.payload) units)) (filter_map (λ (u : ReplayUnit). state_says says u.payload) more)) true
    both units =
        ap (λ (l : List Bool). unwrap_or (last_or None l) true) (filter_map-append (λ (u : ReplayUnit). state_says says u.payload) units more)
        ∙ ap (λ (o : Option Bool). unwrap_or o true) (last_or-append None (filter_map (λ (u : ReplayUnit). state_says says u.payload) units) (filter_map (λ (u : ReplayUnit). state_says says u.payload) more))

module _ (k : RouteKey) where
  abbrev said : List Step → List (Option Route)
  said steps = filter_map (said_of k) steps

  steps_both : (steps more : List Step) → route_at (steps ++ more) k ≡ unwrap_or (last_or (last_or None (said steps)) (said more)) None
  steps_both steps more =
      ap (λ (l : List (Option Route)). unwrap_or (last_or None l) None) (filter_map-append (said_of k) steps more)
      ∙ ap (λ (o : Option (Option Route)). unwrap_or o None) (last_or-append None (said steps) (said more))

  steps_more : (steps others more : List Step) → route_at steps k ≡ route_at others k → route_at (steps ++ more) k ≡ route_at (others ++ more) k
  steps_more steps others more same =
      steps_both steps more ∙ last_behind None (last_or None (said steps)) (last_or None (said others)) (said more) same ∙ sym (steps_both others more)

  one_more : (own other : List ReplayUnit) (u : ReplayUnit) → is_up own ≡ is_up other → route_at (steps_of own) k ≡ route_at (steps_of other) k →
      route_at (steps_of (own ++ u ∷ [])) k ≡ route_at (steps_of (other ++ u ∷ [])) k
  one_more own other u up same =
      ap (λ (steps : List Step). route_at steps k) (steps_of-push own u ∙ ap (λ (b : Bool). steps_of own ++ unit_steps b u) up)
      ∙ steps_more (steps_of own) (steps_of other) (unit_steps (is_up other) u) same
      ∙ ap (λ (steps : List Step). route_at steps k) (sym (steps_of-push other u))

  -- a key has no route in an empty table
  no_route : (own : List ReplayUnit) → table_of (steps_of own) ≡ [] → route_at (steps_of own) k ≡ None
  no_route own e = sym (find-table_of (steps_of own) k) ∙ ap (find key_cmp k) e

-- the same state, and the same routes of the keys that are picked
record Alike (picks : RouteKey → Bool) (own other : List ReplayUnit) : Type 0 where
  pub says : SayAlike own other
  pub routes : (k : RouteKey) → picks k ≡ true → route_at (steps_of own) k ≡ route_at (steps_of other) k

module _ (picks : RouteKey → Bool) where
  alike_one : (own other : List ReplayUnit) (u : ReplayUnit) → Alike picks own other → Alike picks (own ++ u ∷ []) (other ++ u ∷ [])
  alike_one own other u alike = record {
    says = say_more own other (u ∷ []) alike.says;
    routes = λ k picked. one_more k own other u (alike.says up_by) (alike.routes k picked);
  }

  -- so it is behind further units
  alike_more : (own other more : List ReplayUnit) → Alike picks own other → Alike picks (own ++ more) (other ++ more)
  alike_more own other [] alike =
      subst (λ (units : List ReplayUnit). Alike picks units (other ++ [])) (sym (append-nil own)) (subst (λ (units : List ReplayUnit). Alike picks own units) (sym (append-nil other)) alike)
  alike_more own other (u ∷ more) alike =
      subst (λ (units : List ReplayUnit). Alike picks units (other ++ u ∷ more)) (append_assoc own (u ∷ []) more)
      (subst (λ (units : List ReplayUnit). Alike picks ((own ++ u ∷ []) ++ more) units) (append_assoc other (u ∷ []) more)
      (alike_more (own ++ u ∷ []) (other ++ u ∷ []) more (alike_one own other u alike)))

-- ---- clears say nothing of the state

module _ (says : StateRule → ℕ → ℕ → Option Bool) (p : ReplayUnit → Bool) where
  quiet_clear : (b : Bool) (at : RecordAt) (peer : PeerKey) (units : List ReplayUnit) →
      filter_map (λ (u : ReplayUnit). state_says says u.payload) (cond b (clear_unit at peer ∷ units) units) ≡ filter_map (λ (u : ReplayUnit). state_says says u.payload) units
  quiet_clear true at peer units = refl
  quiet_clear false at peer units = refl

  quiet_clears : (at : RecordAt) (peers : List PeerKey) → filter_map (λ (u : ReplayUnit). state_says says u.payload) (filter p (map (clear_unit at) peers)) ≡ []
  quiet_clears at [] = refl
  quiet_clears at (peer ∷ peers) = quiet_clear (p (clear_unit at peer)) at peer (filter p (map (clear_unit at) peers)) ∙ quiet_clears at peers

  say_cleared : (units : List ReplayUnit) (at : RecordAt) (peers : List PeerKey) → last_said says (filter p (units ++ map (clear_unit at) peers)) ≡ last_said says (filter p units)
  say_cleared units at peers =
      let clears : List ReplayUnit = filter p (map (clear_unit at) peers) in
      ap (last_said says) (filter-append p units (map (clear_unit at) peers))
      ∙ ap (λ (l : List Bool). unwrap_or (last_or None l) true)
      (filter_map-append (λ (u : ReplayUnit). state_says says u.payload) (filter p units) clears
      ∙ ap (λ (l : List Bool). filter_map (λ (u : ReplayUnit). state_says says u.payload) (filter p units) ++ l) (quiet_clears at peers)
      ∙ append-nil (filter_map (λ (u : ReplayUnit). state_says says u.payload) (filter p units)))

-- ---- two readings

pub and_swapped : (a b : Bool) → (a && b) ≡ (b && a)
and_swapped true true = refl
and_swapped true false = refl
and_swapped false true = refl
and_swapped false false = refl

module _ (narrow : UnitSelection) (q : PeerKey) where
  abbrev wide : UnitSelection
  wide = of_all_prefixes narrow

  abbrev picks : RouteKey → Bool
  picks k = chooses narrow.prefixes k

  abbrev keep : ReplayUnit → Bool
  keep unit = concerns narrow.prefixes unit.payload

  -- the peer's units, and those of them that can concern the prefixes
  abbrev is_own : ReplayUnit → Bool
  is_own unit = peer_eq unit.peer q

  abbrev is_early : ReplayUnit → Bool
  is_early unit = is_own unit && keep unit

  early_is : (units : List ReplayUnit) → filter is_early units ≡ concerned narrow.prefixes (units_of_peer units q)
  early_is units = sym (filter_twice is_own keep units)

  own_kept : (units : List ReplayUnit) → filter is_own (filter keep units) ≡ filter is_early units
  own_kept units = filter_twice keep is_own units ∙ filter_agree (λ u. keep u && is_own u) is_early (λ u. and_swapped (keep u) (is_own u)) units

  early_route : (units : List ReplayUnit) (k : RouteKey) → picks k ≡ true → route_at (steps_of (filter is_early units)) k ≡ route_at (steps_of (units_of_peer units q)) k
  early_route units k picked =
      let own : List ReplayUnit = units_of_peer units q in
      ap (λ (us : List ReplayUnit). route_at (steps_of us) k) (early_is units)
      ∙ sym (route_at-selected picks (steps_of (concerned narrow.prefixes own)) k picked)
      ∙ ap (λ (steps : List Step). route_at steps k) (steps_of-concerned narrow.prefixes own)
      ∙ route_at-selected picks (steps_of own) k picked

  given_kept : (read : Result (List ReplayUnit) Fault) → units_or_none (selected_units narrow read) ≡ filter keep (units_or_none (selected_units wide read))
  given_kept (Ok units) = selected_late narrow units
  given_kept (Err fault) = refl

  -- what the units so far, and the dumps, have in common
  record Beside (us vs : List ReplayUnit) (a b : DumpsState) : Type 0 where
    pub begun : a.begun ≡ b.begun
    pub known : a.known ≡ b.known
    pub tracks : narrow.ribs ≡ Replace → Tracks a us
    pub wide_tracks : narrow.ribs ≡ Replace → Tracks b vs
    pub alike : Alike picks (filter is_own us) (filter is_early vs)

  -- a dump leaves no route of the peer in either
  alike_cleared : (at : RecordAt) (us vs : List ReplayUnit) (a b : DumpsState) → Tracks a us → Tracks b vs → Alike picks (filter is_own us) (filter is_early vs) →
      Alike picks (filter is_own (us ++ map (clear_unit at) a.heard)) (filter is_early (vs ++ map (clear_unit at) b.heard))
  alike_cleared at us vs a b tracks wide_tracks alike = record {
    says = λ says. say_cleared says is_own us at a.heard ∙ alike.says says ∙ sym (say_cleared says is_early vs at b.heard);
    routes = λ k picked.
        no_route k (filter is_own (us ++ map (clear_unit at) a.heard)) (all_cleared at a us q tracks)
        ∙ sym (early_route (vs ++ map (clear_unit at) b.heard) k picked ∙ no_route k (units_of_peer (vs ++ map (clear_unit at) b.heard) q) (all_cleared at b vs q wide_tracks));
  }

  alike_if : (begun : Bool) (at : RecordAt) (us vs : List ReplayUnit) (a b : DumpsState) → (begun ≡ true → narrow.ribs ≡ Replace) → Beside us vs a b →
      Alike picks (filter is_own (us ++ clears_if begun at a.heard)) (filter is_early (vs ++ clears_if begun at b.heard))
  alike_if true at us vs a b replace beside = alike_cleared at us vs a b (beside.tracks (replace refl)) (beside.wide_tracks (replace refl)) beside.alike
  alike_if false at us vs a b replace beside =
      subst (λ (units : List ReplayUnit). Alike picks (filter is_own units) (filter is_early (vs ++ []))) (sym (append-nil us))
      (subst (λ (units : List ReplayUnit). Alike picks (filter is_own us) (filter is_early units)) (sym (append-nil vs)) beside.alike)

  -- behind a record's units
  alike_record : (begun : Bool) (at : RecordAt) (us vs : List ReplayUnit) (a b : DumpsState) (read : Result (List ReplayUnit) Fault) → (begun ≡ true → narrow.ribs ≡ Replace) → Beside us vs a b →
      Alike picks (filter is_own (us ++ (clears_if begun at a.heard ++ units_or_none (selected_units narrow read)))) (filter is_early (vs ++ (clears_if begun at b.heard ++ units_or_none (selected_units wide read))))
  alike_record begun at us vs a b read replace beside =
      let more : List ReplayUnit = units_or_none (selected_units narrow read) in
      let others : List ReplayUnit = units_or_none (selected_units wide read) in
      let same : filter is_own more ≡ filter is_early others = ap (filter is_own) (given_kept read) ∙ own_kept others in
      subst (λ (units : List ReplayUnit). Alike picks units (filter is_early (vs ++ (clears_if begun at b.heard ++ others))))
      (ap (λ (units : List ReplayUnit). filter is_own (us ++ clears_if begun at a.heard) ++ units) (sym same)
      ∙ sym (filter-append is_own (us ++ clears_if begun at a.heard) more) ∙ ap (filter is_own) (append_assoc us (clears_if begun at a.heard) more))
      (subst (λ (units : List ReplayUnit). Alike picks (filter is_own (us ++ clears_if begun at a.heard) ++ filter is_early others) units)
      (sym (filter-append is_early (vs ++ clears_if begun at b.heard) others) ∙ ap (filter is_early) (append_assoc vs (clears_if begun at b.heard) others))
      (alike_more picks (filter is_own (us ++ clears_if begun at a.heard)) (filter is_early (vs ++ clears_if begun at b.heard)) (filter is_early others) (alike_if begun at us vs a b replace beside)))

  begun_if : (index : Bool) (a b : DumpsState) → a.begun ≡ b.begun → (if index then record a { begun = false } else a).begun ≡ (if index then record b { begun = false } else b).begun
  begun_if true a b same = refl
  begun_if false a b same = same

  abbrev behind_cut : UnitSelection → ℕ → Option (List PeerKey) → DumpsState → List ReplayUnit → Cut → List ReplayUnit
  behind_cut selection file index dumps units cut = units ++ filter_map unit_of (found_at file selection index dumps cut)

  cut_alike : (file : ℕ) (index : Option (List PeerKey)) (us vs : List ReplayUnit) (a b : DumpsState) (cut : Cut) → Beside us vs a b →
      Alike picks (filter is_own (behind_cut narrow file index a us cut)) (filter is_early (behind_cut wide file index b vs cut))
  unfolding found_at
  cut_alike file index us vs a b (Whole r) beside =
      let at : RecordAt = at_record file r.offset r.seconds in
      let kind : BodyKind = body_kind_of narrow.rules.family r.kind r.subtype in
      let begun : Bool = begins narrow at index a kind r.body in
      let wide_begun : Bool = begins wide at index b kind r.body in
      let read : Result (List ReplayUnit) Fault = units_in narrow a.known at (is_extended r.kind) index kind r.body in
      let again : Result (List ReplayUnit) Fault = units_in wide b.known at (is_extended r.kind) index kind r.body in
      let alike : read ≡ again = read_alike narrow narrow.peers narrow.share [] a b at (is_extended r.kind) index kind r.body beside.known in
      let more : List ReplayUnit = units_or_none (selected_units narrow read) in
      let others : List ReplayUnit = units_or_none (selected_units wide read) in
      let same : begun ≡ wide_begun = begins_same narrow narrow.peers narrow.share [] at index a b kind r.body beside.begun in
      subst (λ (units : List ReplayUnit). Alike picks (filter is_own (us ++ units)) (filter is_early (behind_cut wide file index b vs (Whole r)))) (sym (record_units narrow at (clears_if begun at a.heard) read))
      (subst (λ (units : List ReplayUnit). Alike picks (filter is_own (us ++ (clears_if begun at a.heard ++ more))) (filter is_early (vs ++ units))) (sym (record_units wide at (clears_if wide_begun at b.heard) again))
      (subst (λ (r' : Result (List ReplayUnit) Fault). Alike picks (filter is_own (us ++ (clears_if begun at a.heard ++ more))) (filter is_early (vs ++ (clears_if wide_begun at b.heard ++ units_or_none (selected_units wide r'))))) alike
      (subst (λ (x : Bool). Alike picks (filter is_own (us ++ (clears_if begun at a.heard ++ more))) (filter is_early (vs ++ (clears_if x at b.heard ++ others)))) same
      (alike_record begun at us vs a b read (λ e. begins_where narrow at index a kind r.body e) beside))))
  cut_alike file index us vs a b (Broken offset fault) beside =
      subst (λ (units : List ReplayUnit). Alike picks (filter is_own units) (filter is_early (vs ++ []))) (sym (append-nil us))
      (subst (λ (units : List ReplayUnit). Alike picks (filter is_own us) (filter is_early units)) (sym (append-nil vs)) beside.alike)

  begun_same : (file : ℕ) (index : Option (List PeerKey)) (a b : DumpsState) (cut : Cut) → a.begun ≡ b.begun → (dumps_after file narrow index a cut).begun ≡ (dumps_after file wide index b cut).begun
  begun_same file index a b (Whole r) same =
      let at : RecordAt = at_record file r.offset r.seconds in
      let kind : BodyKind = body_kind_of narrow.rules.family r.kind r.subtype in
      let read : Result (List ReplayUnit) Fault = units_in narrow a.known at (is_extended r.kind) index kind r.body in
      let again : Result (List ReplayUnit) Fault = units_in wide b.known at (is_extended r.kind) index kind r.body in
      begun_if (is_index_content kind) (dumps_told narrow (begins narrow at index a kind r.body) a (peers_named kind r.body read) read)
      (dumps_told wide (begins wide at index b kind r.body) b (peers_named kind r.body again) again)
      (λ i. begins_same narrow narrow.peers narrow.share [] at index a b kind r.body same i || same i)
  begun_same file index a b (Broken offset fault) same = same

  beside_cut : (file : ℕ) (index : Option (List PeerKey)) (us vs : List ReplayUnit) (a b : DumpsState) (cut : Cut) → Beside us vs a b →
      Beside (behind_cut narrow file index a us cut) (behind_cut wide file index b vs cut) (dumps_after file narrow index a cut) (dumps_after file wide index b cut)
  beside_cut file index us vs a b cut beside = record {
    begun = begun_same file index a b cut beside.begun;
    known = known_after narrow narrow.peers narrow.share [] file index a b cut beside.known;
    tracks = λ replace. tracks_cut narrow replace file index a us cut (beside.tracks replace);
    wide_tracks = λ replace. tracks_cut wide replace file index b vs cut (beside.wide_tracks replace);
    alike = cut_alike file index us vs a b cut beside;
  }

  parts_of : (units : List ReplayUnit) (given others : List Found) → (units ++ filter_map unit_of given) ++ filter_map unit_of others ≡ units ++ filter_map unit_of (given ++ others)
  parts_of units given others =
      append_assoc units (filter_map unit_of given) (filter_map unit_of others) ∙ ap (λ (us : List ReplayUnit). units ++ us) (sym (filter_map-append unit_of given others))

  beside_none : (us vs : List ReplayUnit) (a b : DumpsState) → Beside us vs a b → Beside (us ++ []) (vs ++ []) a b
  beside_none us vs a b beside =
      subst (λ (units : List ReplayUnit). Beside units (vs ++ []) a b) (sym (append-nil us)) (subst (λ (units : List ReplayUnit). Beside us units a b) (sym (append-nil vs)) beside)

  beside_cuts : (file : ℕ) (index : Option (List PeerKey)) (us vs : List ReplayUnit) (a b : DumpsState) (earlier : List Cut) → Beside us vs a b →
      Beside (us ++ filter_map unit_of (found_from file narrow index a earlier)) (vs ++ filter_map unit_of (found_from file wide index b earlier))
      (dumps_behind_cuts file narrow index a earlier) (dumps_behind_cuts file wide index b earlier)
  beside_cuts file index us vs a b [] beside = beside_none us vs a b beside
  beside_cuts file index us vs a b (cut ∷ others) beside =
      let index_then : Option (List PeerKey) = index_after narrow.rules.family index cut in
      let a_then : DumpsState = dumps_after file narrow index a cut in
      let b_then : DumpsState = dumps_after file wide index b cut in
      subst (λ (units : List ReplayUnit). Beside units (vs ++ filter_map unit_of (found_from file wide index b (cut ∷ others))) (dumps_behind_cuts file narrow index_then a_then others) (dumps_behind_cuts file wide index_then b_then others))
      (parts_of us (found_at file narrow index a cut) (found_from file narrow index_then a_then others))
      (subst (λ (units : List ReplayUnit). Beside (behind_cut narrow file index a us cut ++ filter_map unit_of (found_from file narrow index_then a_then others)) units (dumps_behind_cuts file narrow index_then a_then others) (dumps_behind_cuts file wide index_then b_then others))
      (parts_of vs (found_at file wide index b cut) (found_from file wide index_then b_then others))
      (beside_cuts file index_then (behind_cut narrow file index a us cut) (behind_cut wide file index b vs cut) a_then b_then others (beside_cut file index us vs a b cut beside)))

  files_alike : (file : ℕ) (us vs : List ReplayUnit) (a b : DumpsState) (files : List (List ℕ)) → Beside us vs a b →
      Alike picks (filter is_own (us ++ filter_map unit_of (found_in_files narrow file a files))) (filter is_early (vs ++ filter_map unit_of (found_in_files wide file b files)))
  files_alike file us vs a b [] beside = (beside_none us vs a b beside).alike
  files_alike file us vs a b (bytes ∷ files) beside =
      let a_then : DumpsState = dumps_behind_cuts file narrow None a (cuts 0 bytes) in
      let b_then : DumpsState = dumps_behind_cuts file wide None b (cuts 0 bytes) in
      let here : List Found = found_in_file narrow file a bytes in
      let there : List Found = found_in_file wide file b bytes in
      let first : Beside (us ++ filter_map unit_of here) (vs ++ filter_map unit_of there) a_then b_then =
      subst (λ (found : List Found). Beside (us ++ filter_map unit_of found) (vs ++ filter_map unit_of there) a_then b_then) (sym (found_in_file-is narrow file a bytes))
      (subst (λ (found : List Found). Beside (us ++ filter_map unit_of (found_from file narrow None a (cuts 0 bytes))) (vs ++ filter_map unit_of found) a_then b_then) (sym (found_in_file-is wide file b bytes))
      (beside_cuts file None us vs a b (cuts 0 bytes) beside)) in
      subst (λ (units : List ReplayUnit). Alike picks (filter is_own units) (filter is_early (vs ++ filter_map unit_of (found_in_files wide file b (bytes ∷ files)))))
      (parts_of us here (found_in_files narrow (file + 1) a_then files))
      (subst (λ (units : List ReplayUnit). Alike picks (filter is_own ((us ++ filter_map unit_of here) ++ filter_map unit_of (found_in_files narrow (file + 1) a_then files))) (filter is_early units))
      (parts_of vs there (found_in_files wide (file + 1) b_then files))
      (files_alike (file + 1) (us ++ filter_map unit_of here) (vs ++ filter_map unit_of there) a_then b_then files first))

  at_start : Beside [] [] no_dumps no_dumps
  at_start = record { begun = refl; known = refl; tracks = λ replace. no_units narrow replace; wide_tracks = λ replace. no_units wide replace; alike = record { says = λ says. refl; routes = λ k picked. refl } }

  reading_alike : (files : List (List ℕ)) → Alike picks (units_of_peer (units_of narrow files) q) (filter is_early (units_of wide files))
  unfolding units_of found_in
  reading_alike files = files_alike 0 [] [] no_dumps no_dumps files at_start

  -- ---- the laws

  pub same_up : (files : List (List ℕ)) → is_up (units_of_peer (units_of narrow files) q) ≡ is_up (units_of_peer (units_of wide files) q)
  same_up files = (reading_alike files).says up_by ∙ ap is_up (early_is (units_of wide files)) ∙ is_up-concerned narrow.prefixes (units_of_peer (units_of wide files) q)

  pub same_established : (files : List (List ℕ)) → is_established (units_of_peer (units_of narrow files) q) ≡ is_established (units_of_peer (units_of wide files) q)
  same_established files =
      (reading_alike files).says established_by ∙ ap is_established (early_is (units_of wide files)) ∙ is_established-concerned narrow.prefixes (units_of_peer (units_of wide files) q)

  -- a key that is picked has the same route
  pub same_found : (files : List (List ℕ)) (k : RouteKey) (b : Bool) → picks k ≡ b →
      cond b (find key_cmp k (table_of_peer (units_of narrow files) q)) None ≡ cond b (find key_cmp k (table_of_peer (units_of wide files) q)) None
  same_found files k true picked =
      find-table_of (steps_of (units_of_peer (units_of narrow files) q)) k
      ∙ (reading_alike files).routes k picked
      ∙ early_route (units_of wide files) k picked
      ∙ sym (find-table_of (steps_of (units_of_peer (units_of wide files) q)) k)
  same_found files k false picked = refl

  pub same_routes : (files : List (List ℕ)) → selected_entries picks (table_of_peer (units_of narrow files) q) ≡ selected_entries picks (table_of_peer (units_of wide files) q)
  same_routes files =
      let steps : List Step = steps_of (units_of_peer (units_of narrow files) q) in
      let others : List Step = steps_of (units_of_peer (units_of wide files) q) in
      same_entries key_cmp key_cmp_total key_cmp_exact (selected_entries picks (table_of steps)) (selected_entries picks (table_of others))
      (is_sorted-where_key key_cmp picks (table_of steps) (is_sorted-table_of steps)) (is_sorted-where_key key_cmp picks (table_of others) (is_sorted-table_of others))
      (λ k. find-where_key key_cmp picks k (tied_alike picks k) (table_of steps) ∙ same_found files k (picks k) refl ∙ sym (find-where_key key_cmp picks k (tied_alike picks k) (table_of others)))
