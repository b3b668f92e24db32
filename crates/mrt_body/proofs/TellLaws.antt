-- The units of a state change that are selected, and what they leave noted of their peers.
use Rattle.std.proofs.Common.{◌≡◌, ℕ, ◌+◌, ◌≤◌, ◌&&◌, Bool, true, false, cond, List, [], ◌∷◌, ◌++◌, length, map, None, Result, Ok, refl, sym, ap, subst, ◌∙◌, append-nil, arith}
use Rattle.std.specs.Prelude.{if◌then◌else◌}
use Rattle.std.specs.List.{filter}
use Rattle.std.proofs.lemmas.List.{length-map, length-take}
use Rattle.std.proofs.lemmas.List.Sums.{length-filter, count_by-le-length}
use Rattle.peer_units.specs.Choices.{UnitSelection}
use Rattle.peer_units.specs.Selections.{is_past, is_selected, takes_peer}
use Rattle.peer_units.specs.declared.rib_rule.RibRule.{RibRule}
use Rattle.peer_units.specs.declared.rib_rule.RibRule.TheVariants.{Add, Replace}
use Rattle.peer_units.specs.declared.state_peers.StatePeers.{StatePeers}
use Rattle.peer_units.specs.declared.state_peers.StatePeers.TheVariants.{Recorded, Local, ByAs}
use Rattle.peer_units.specs.declared.unit.PeerKey.{PeerKey}
use Rattle.peer_units.specs.Plain.{Unit as ReplayUnit}
use Rattle.mrt_body.specs.declared.record_place.RecordAt.{RecordAt}
use Rattle.mrt_body.specs.declared.bgp4mp.SessionEnds.{SessionEnds}
use Rattle.mrt_body.specs.declared.bgp4mp.StateChange.{StateChange}
use Rattle.mrt_body.specs.RibDumps.{DumpsState, hear, heard_of, heard_peers}
use Rattle.mrt_body.specs.KnownPeers.{is_meant, known_where, is_unnamed, is_zero, names_no_as, known_with, told_peers}
use Rattle.mrt_body.specs.declared.known_peers.Meant.TheVariants.{Address, As}
use Rattle.mrt_frame.specs.declared.fault.Fault.{Fault}
use Rattle.mrt_frame.specs.Fields.{◌>>=◌}
use Rattle.bgp_update.specs.declared.width.Width.{Width}
use Rattle.mrt_body.specs.declared.body_kind.BodyKind.TheVariants as content
use Rattle.mrt_body.specs.Bgp4mp.{state_change_in}
use Rattle.mrt_body.specs.ToCome.{UnitsState, TakesRecord, as_found}
use Rattle.mrt_body.specs.Readings.{GivesFew}
use Rattle.mrt_body.specs.Units.{change_unit, change_units, dumps_told, found_units, time_of, units_in, units_or_none}
use Rattle.mrt_body.proofs.HeardLaws.{few_heard}
use Rattle.mrt_body.proofs.ManyLaws.{done}
use Rattle.mrt_body.proofs.WaitingLaws.{both_none}

-- ---- how many peers a state change is of

few_where : (test : PeerKey → Bool) (known : List PeerKey) → length (known_where test known) ≤ 65535
few_where test known = omega (arith, length-take 65535 (filter test known))

few_of : (b : Bool) (x y : List PeerKey) → length x ≤ 65535 → length y ≤ 65535 → length (if b then x else y) ≤ 65535
few_of true x y h k = h
few_of false x y h k = k

few_one : (q : PeerKey) → length (q ∷ []) ≤ 65535
few_one q = omega arith

pub few_told : (rule : StatePeers) (known : List PeerKey) (ends : SessionEnds) → length (told_peers rule known ends) ≤ 65535
few_told Recorded known ends = few_one ends.peer
few_told Local known ends =
    few_of (is_unnamed ends.local) (ends.peer ∷ []) _ (few_one ends.peer)
    (few_of (names_no_as ends.local.asn) (known_where (is_meant (Address ends.local.addr)) known) (ends.local ∷ []) (few_where (is_meant (Address ends.local.addr)) known) (few_one ends.local))
few_told ByAs known ends =
    few_of (is_unnamed ends.local) (ends.peer ∷ []) _ (few_one ends.peer)
    (few_of (is_zero ends.peer.addr) (known_where (is_meant (As ends.peer.asn)) known) (ends.peer ∷ []) (few_where (is_meant (As ends.peer.asn)) known) (few_one ends.peer))

module _ (selection : UnitSelection) (at : RecordAt) (change : StateChange) where
  abbrev pub unit : PeerKey → ReplayUnit
  unit q = change_unit selection.states at change q

  abbrev pub past : Bool
  past = is_past selection.until (time_of at change.microseconds)

  abbrev pub kept : List PeerKey → List PeerKey
  kept peers = if past then [] else filter (takes_peer selection) peers

  abbrev timely : Bool → Bool
  timely b = if b then false else true

  one : (takes : Bool) → (takes && true) ≡ takes
  one true = refl
  one false = refl

  kept_first : (b : Bool) (q : PeerKey) (peers : List PeerKey) → map unit (cond b (q ∷ peers) peers) ≡ cond b (unit q ∷ map unit peers) (map unit peers)
  kept_first true q peers = refl
  kept_first false q peers = refl

  timely_kept : past ≡ false → (peers : List PeerKey) → map unit (filter (takes_peer selection) peers) ≡ filter (is_selected selection) (map unit peers)
  timely_kept now [] = refl
  timely_kept now (q ∷ peers) =
      let test : is_selected selection (unit q) ≡ takes_peer selection q = ap (λ (b : Bool). timely b && (takes_peer selection q && true)) now ∙ one (takes_peer selection q) in
      kept_first (takes_peer selection q) q (filter (takes_peer selection) peers)
      ∙ ap (λ (l : List ReplayUnit). cond (takes_peer selection q) (unit q ∷ l) l) (timely_kept now peers)
      ∙ ap (λ (b : Bool). cond b (unit q ∷ filter (is_selected selection) (map unit peers)) (filter (is_selected selection) (map unit peers))) (sym test)

  none_kept : past ≡ true → (peers : List PeerKey) → filter (is_selected selection) (map unit peers) ≡ []
  none_kept late [] = refl
  none_kept late (q ∷ peers) =
      let test : is_selected selection (unit q) ≡ false = ap (λ (b : Bool). timely b && (takes_peer selection q && true)) late in
      ap (λ (b : Bool). cond b (unit q ∷ filter (is_selected selection) (map unit peers)) (filter (is_selected selection) (map unit peers))) test ∙ none_kept late peers

  kept_by : (b : Bool) → past ≡ b → (peers : List PeerKey) → map unit (if b then [] else filter (takes_peer selection) peers) ≡ filter (is_selected selection) (map unit peers)
  kept_by true is peers = sym (none_kept is peers)
  kept_by false is peers = timely_kept is peers

  pub units_kept : (peers : List PeerKey) → map unit (kept peers) ≡ filter (is_selected selection) (map unit peers)
  units_kept peers = kept_by past refl peers

  few_by : (b : Bool) (peers : List PeerKey) → length peers ≤ 65535 → length (if b then [] else filter (takes_peer selection) peers) ≤ 65535
  few_by true peers few = omega arith
  few_by false peers few = omega (arith, few, length-filter (takes_peer selection) peers, count_by-le-length (takes_peer selection) peers)

  pub few_kept : (peers : List PeerKey) → length peers ≤ 65535 → length (map unit (kept peers)) ≤ 65535
  few_kept peers few = omega (arith, few_by past peers few, length-map (kept peers) unit)

  -- ---- what is noted

  peers_back : (peers : List PeerKey) → map (λ (u : ReplayUnit). u.peer) (map unit peers) ≡ peers
  peers_back [] = refl
  peers_back (q ∷ peers) = ap (λ (l : List PeerKey). q ∷ l) (peers_back peers)

  heard_back : (ribs : RibRule) (heard peers : List PeerKey) → heard_of ribs heard (map unit peers) ≡ heard_peers ribs heard peers
  heard_back Add heard peers = refl
  heard_back Replace heard [] = refl
  heard_back Replace heard (q ∷ peers) = heard_back Replace (hear heard q) peers

  pub noted : (dumps : DumpsState) (peers : List PeerKey)
      → record dumps { heard = heard_peers selection.ribs dumps.heard (kept peers); known = known_with selection.state_peers dumps.known peers }
      ≡ dumps_told selection false dumps (map (λ (u : ReplayUnit). u.peer) (map unit peers)) (Ok (map unit peers))
  noted dumps peers =
      let heard : heard_peers selection.ribs dumps.heard (kept peers) ≡ heard_of selection.ribs dumps.heard (filter (is_selected selection) (map unit peers)) =
      sym (heard_back selection.ribs dumps.heard (kept peers)) ∙ ap (heard_of selection.ribs dumps.heard) (units_kept peers) in
      ap (λ (h : List PeerKey). record dumps { heard = h; known = known_with selection.state_peers dumps.known peers }) heard
      ∙ ap (λ (named : List PeerKey). record dumps { heard = heard_of selection.ribs dumps.heard (filter (is_selected selection) (map unit peers)); known = known_with selection.state_peers dumps.known named }) (sym (peers_back peers))

-- ---- the record of a state change

module _ (old : UnitsState) (at : RecordAt) (extended : Bool) (width : Width) (body : List ℕ) (change : StateChange) (read : state_change_in extended width body ≡ Ok change)
    (dumps : DumpsState) (waiting entries : List ReplayUnit) (none : entries ≡ [])
    (waits : waiting ≡ filter (is_selected old.selection) (change_units old.selection old.dumps.known at change))
    (notes : dumps ≡ dumps_told old.selection false old.dumps (map (λ (u : ReplayUnit). u.peer) (change_units old.selection old.dumps.known at change)) (Ok (change_units old.selection old.dumps.known at change))) where
  abbrev new : UnitsState
  new = record old { dumps = dumps; pending = waiting ++ entries }

  abbrev units : Result (List ReplayUnit) Fault
  units = units_in old.selection old.dumps.known at extended old.index (content.States width) body

  units_are : units ≡ Ok (change_units old.selection old.dumps.known at change)
  units_are = ap (λ (r : Result StateChange Fault). r >>= λ c. done (change_units old.selection old.dumps.known at c)) read

  all_wait : waiting ++ entries ≡ filter (is_selected old.selection) (change_units old.selection old.dumps.known at change)
  all_wait = ap (λ (l : List ReplayUnit). waiting ++ l) none ∙ append-nil waiting ∙ waits

  takes_states : TakesRecord old at extended (content.States width) body new None
  takes_states = record {
    state =
        ap (λ (d : DumpsState). record old { dumps = d; pending = waiting ++ entries }) (notes ∙ ap (λ (r : Result (List ReplayUnit) Fault). dumps_told old.selection false old.dumps (map (λ (u : ReplayUnit). u.peer) (units_or_none r)) r) (sym units_are))
        ∙ ap (λ (n : ℕ). record old { dumps = dumps_told old.selection false old.dumps (map (λ (u : ReplayUnit). u.peer) (units_or_none units)) units; pending = waiting ++ entries; aside = n }) plus_none;
    found =
        ap (λ (l : List ReplayUnit). as_found l) all_wait
        ∙ ap (λ (r : Result (List ReplayUnit) Fault). found_units old.selection at r) (sym units_are);
  }
    where
      plus_none : old.aside ≡ old.aside + 0
      plus_none = omega arith

  gives_few_states : length waiting ≤ 65535 → GivesFew old new None
  gives_few_states few =
      omega (
        arith,
        few,
        ap (λ (l : List ReplayUnit). length l) all_wait,
        ap (λ (l : List ReplayUnit). length l) waits,
        ap (λ (d : DumpsState). length d.heard) notes,
        few_heard old.selection.ribs old.dumps.heard (filter (is_selected old.selection) (change_units old.selection old.dumps.known at change)),
      )

-- both, of the state before under another name, where nothing was to be returned
pub states_taken : (old was : UnitsState) → old ≡ was → was.pending ≡ [] → (first entries : List ReplayUnit) → old.pending ≡ first ++ entries
    → (at : RecordAt) (extended : Bool) (width : Width) (body : List ℕ) (change : StateChange) → state_change_in extended width body ≡ Ok change
    → (dumps : DumpsState) (waiting : List ReplayUnit)
    → waiting ≡ filter (is_selected old.selection) (change_units old.selection old.dumps.known at change)
    → dumps ≡ dumps_told old.selection false old.dumps (map (λ (u : ReplayUnit). u.peer) (change_units old.selection old.dumps.known at change)) (Ok (change_units old.selection old.dumps.known at change))
    → length waiting ≤ 65535
    → TakesRecord was at extended (content.States width) body (record old { dumps = dumps; pending = waiting ++ entries }) None × GivesFew was (record old { dumps = dumps; pending = waiting ++ entries }) None
states_taken old was is given first entries parts at extended width body change read dumps waiting waits notes few =
    let none = (both_none first entries (sym parts ∙ ap (λ (u : UnitsState). u.pending) is ∙ given)).1 in
    let new : UnitsState = record old { dumps = dumps; pending = waiting ++ entries } in
    subst (λ (u : UnitsState). TakesRecord u at extended (content.States width) body new None × GivesFew u new None) is
    (takes_states old at extended width body change read dumps waiting entries none waits notes, gives_few_states old at extended width body change read dumps waiting entries none waits notes few)
