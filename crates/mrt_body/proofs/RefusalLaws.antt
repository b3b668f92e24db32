-- A body is refused for what is wrong with it, and for nothing else.
use Rattle.std.proofs.Common.{◌≡◌, ◌⊎◌, inl, inr, ℕ, Bool, List, [], ◌∷◌, ◌++◌, length, Option, Some, None, Result, Ok, Err, refl, sym, ap, subst, ◌∙◌}
use Rattle.mrt_frame.specs.declared.fault.Fault.{Fault}
use Rattle.mrt_frame.specs.declared.fault.Fault.TheVariants.{ShortRecord, TrailingBytes, BadFamily, NoPeerIndex, BadPeerIndex, BadPrefix}
use Rattle.mrt_frame.proofs.FieldLaws.{IsBytes}
use Rattle.bgp_update.specs.declared.width.Width.{Width}
use Rattle.bgp_update.specs.Families.{by_entry_width}
use Rattle.bgp_update.specs.declared.width.Width.TheVariants.{Four}
use Rattle.bgp_update.proofs.Readings.{mapped_err}
use Rattle.mrt_body.specs.declared.record_place.RecordAt.{RecordAt}
use Rattle.mrt_body.specs.declared.body_kind.BodyKind.{BodyKind}
use Rattle.mrt_body.specs.declared.body_kind.BodyKind.TheVariants as content
use Rattle.peer_units.specs.declared.table_dump_rule.TableDumpRule.{TableDumpRule}
use Rattle.peer_units.specs.declared.table_dump_rule.TableDumpRule.TheVariants.{Aside, Read}
use Rattle.peer_units.specs.Choices.{UnitSelection}
use Rattle.peer_units.specs.declared.unit.PeerKey.{PeerKey}
use Rattle.peer_units.specs.Plain.{Unit as ReplayUnit}
use Rattle.mrt_body.specs.Indexes.{index_bytes, peers_of_index, peers_in}
use Rattle.mrt_body.specs.RibRecords.{rib_bytes, rib_in}
use Rattle.mrt_body.specs.Units.{units_in, rib_units, message_unit, change_units, old_unit, old_entry_unit, old_units}
use Rattle.mrt_body.specs.Agreement.{IsRibBody, AgreesOld}
use Rattle.mrt_body.specs.Refusals.{HasRibFault, HasOldFault, HasFault, IsRefused}
use Rattle.mrt_body.proofs.PeerFaults.{IndexAndMore, peers_refused, peers_go_on}
use Rattle.mrt_body.proofs.RibFaults.{RibFault, rib_refused, bad_prefix_refused, unknown_peer_refused, rib_goes_on}
use Rattle.mrt_body.specs.Bgp4mp.{state_change_in}
use Rattle.mrt_body.specs.OldEntries.{old_entry_bytes}
use Rattle.mrt_body.proofs.OldFaults.{OldFault, old_unit_refused, bad_old_prefix_refused, old_goes_on}
use Rattle.mrt_body.proofs.SessionFaults.{ChangeFault, message_refused, message_other, change_refused, change_other, change_goes_on}
use Rattle.mrt_body.proofs.AgreementLaws.{agrees, is_read}

abbrev Units : Type 0
Units = List ReplayUnit

module _ (selection : UnitSelection) (known : List PeerKey) (at : RecordAt) (extended : Bool) where
  -- ---- what is refused has a fault, or a field that runs past it

  index_fault : (index : Option (List PeerKey)) (body : List ℕ) (fault : Fault) → ((fault ≡ TrailingBytes) × IndexAndMore body) ⊎ (fault ≡ ShortRecord) → HasFault selection known at extended index content.IndexTable body fault ⊎ (fault ≡ ShortRecord)
  index_fault index body fault (inr short) = inr short
  index_fault index body fault (inl h) = inl (
    h.0,
    record {
      front = index_bytes h.1.form;
      more = h.1.more;
      units = [];
      parts = h.1.parts;
      some = h.1.some;
      agrees = ((peers_of_index h.1.form, record { form = h.1.form; fits = h.1.fits; spelled = refl; said = refl }), refl);
    },
  )

  abbrev no_units : Units
  no_units = []

  index_refused : (index : Option (List PeerKey)) (body : List ℕ) (fault : Fault) → IsBytes body → units_in selection known at extended index content.IndexTable body ≡ Err fault → HasFault selection known at extended index content.IndexTable body fault ⊎ (fault ≡ ShortRecord)
  index_refused index body fault fine e = index_fault index body fault (peers_refused body fault fine (mapped_err (peers_in body) (λ peers. no_units) fault e))

  rib_fault : (add_path : Bool) (peers : List PeerKey) (body : List ℕ) (fault : Fault) → RibFault selection.rules.family add_path (length peers) body fault ⊎ (fault ≡ ShortRecord) → HasRibFault selection known at extended add_path (Some peers) body fault ⊎ (fault ≡ ShortRecord)
  rib_fault add_path peers body fault (inr short) = inr short
  rib_fault add_path peers body fault (inl (inl h)) = inl (inl h)
  rib_fault add_path peers body fault (inl (inr (inl h))) = inl (inr (inl h))
  rib_fault add_path peers body fault (inl (inr (inr h))) = inl (inr (inr (
    h.0,
    record {
      front = rib_bytes add_path h.1.form;
      more = h.1.more;
      units = rib_units (by_entry_width Four selection.rules) at (Some peers) h.1.form;
      parts = h.1.parts;
      some = h.1.some;
      agrees = record { form = h.1.form; fits = h.1.fits; spelled = refl; said = refl };
    },
  )))

  rib_is_refused : (add_path : Bool) (index : Option (List PeerKey)) (body : List ℕ) (fault : Fault) → IsBytes body → units_in selection known at extended index (content.Rib add_path) body ≡ Err fault → HasRibFault selection known at extended add_path index body fault ⊎ (fault ≡ ShortRecord)
  rib_is_refused add_path None body fault fine e = inl cc
  rib_is_refused add_path (Some peers) body fault fine e =
      rib_fault add_path peers body fault (rib_refused selection.rules.family add_path (length peers) body fault fine (mapped_err (rib_in selection.rules.family add_path (length peers) body) (rib_units (by_entry_width Four selection.rules) at (Some peers)) fault e))

  states_fault : (index : Option (List PeerKey)) (width : Width) (body : List ℕ) (fault : Fault) → ChangeFault extended width body fault ⊎ (fault ≡ ShortRecord) → HasFault selection known at extended index (content.States width) body fault ⊎ (fault ≡ ShortRecord)
  states_fault index width body fault (inr short) = inr short
  states_fault index width body fault (inl (inl h)) = inl (inl h)
  states_fault index width body fault (inl (inr h)) = inl (inr (
    h.0,
    record {
      front = h.1.front;
      more = h.1.more;
      units = change_units selection known at h.1.change;
      parts = h.1.parts;
      some = h.1.some;
      agrees = (h.1.change, h.1.agrees, refl);
    },
  ))

  old_fault : (index : Option (List PeerKey)) → selection.table_dumps ≡ Read → (body : List ℕ) (fault : Fault) → OldFault selection.rules.family body fault ⊎ (fault ≡ ShortRecord) → HasOldFault Read selection known at extended index body fault ⊎ (fault ≡ ShortRecord)
  old_fault index is_read body fault (inr short) = inr short
  old_fault index is_read body fault (inl (inl h)) = inl (inl h)
  old_fault index is_read body fault (inl (inr h)) = inl (inr (
    h.0,
    record {
      front = old_entry_bytes h.1.form;
      more = h.1.more;
      units = old_unit selection.rules at h.1.form ∷ [];
      parts = h.1.parts;
      some = h.1.some;
      agrees = subst (λ (rule : TableDumpRule). AgreesOld rule selection.rules at (old_entry_bytes h.1.form) (old_unit selection.rules at h.1.form ∷ [])) (sym is_read) (old_unit selection.rules at h.1.form, record { form = h.1.form; fits = h.1.fits; spelled = refl; said = refl }, refl);
    },
  ))

  old_refused : (index : Option (List PeerKey)) (rule : TableDumpRule) → selection.table_dumps ≡ rule → (body : List ℕ) (fault : Fault) → IsBytes body → old_units rule selection.rules at body ≡ Err fault → HasOldFault rule selection known at extended index body fault ⊎ (fault ≡ ShortRecord)
  old_refused index Aside is body fault fine e = absurd cc
  old_refused index Read is body fault fine e = old_fault index is body fault (old_unit_refused selection.rules at body fault fine (mapped_err (old_entry_unit selection.rules at body) (λ unit. unit ∷ []) fault e))

  refused : (index : Option (List PeerKey)) (c : BodyKind) (body : List ℕ) (fault : Fault) → IsBytes body → units_in selection known at extended index c body ≡ Err fault → HasFault selection known at extended index c body fault ⊎ (fault ≡ ShortRecord)
  refused index content.IndexTable body fault fine e = index_refused index body fault fine e
  refused index (content.Rib add_path) body fault fine e = rib_is_refused add_path index body fault fine e
  refused index (content.Message width add_path) body fault fine e = message_refused selection.rules at extended width add_path body fault fine (mapped_err (message_unit selection.rules at extended width add_path body) (λ unit. unit ∷ []) fault e)
  refused index (content.States width) body fault fine e = states_fault index width body fault (change_refused extended width body fault fine (mapped_err (state_change_in extended width body) (change_units selection known at) fault e))
  refused index content.OldEntry body fault fine e = old_refused index selection.table_dumps refl body fault fine e
  refused index content.Aside body fault fine e = absurd cc

  -- ---- what has a fault is refused for it

  rib_has_fault : (add_path : Bool) (index : Option (List PeerKey)) (body : List ℕ) (fault : Fault) → HasRibFault selection known at extended add_path index body fault → units_in selection known at extended index (content.Rib add_path) body ≡ Err fault
  rib_has_fault add_path None body fault h = ap (λ (f : Fault). Err f) (sym h)
  rib_has_fault add_path (Some peers) body fault (inl h) = rw (bad_prefix_refused selection.rules.family add_path (length peers) body h.1) (ap (λ (f : Fault). Err f) (sym h.0))
  rib_has_fault add_path (Some peers) body fault (inr (inl h)) = rw (unknown_peer_refused selection.rules.family add_path (length peers) body h.1) (ap (λ (f : Fault). Err f) (sym h.0))
  rib_has_fault add_path (Some peers) body fault (inr (inr h)) =
      let m = h.1 in
      let front : IsRibBody (by_entry_width Four selection.rules) at add_path peers m.front m.units = m.agrees in
      let read : rib_in selection.rules.family add_path (length peers) body ≡ Err TrailingBytes = ap (rib_in selection.rules.family add_path (length peers)) (m.parts ∙ ap (λ (l : List ℕ). l ++ m.more) front.spelled) ∙ rib_goes_on selection.rules.family add_path (length peers) front.form m.more front.fits m.some in
      rw read (ap (λ (f : Fault). Err f) (sym h.0))

  old_has_fault : (index : Option (List PeerKey)) (rule : TableDumpRule) → selection.table_dumps ≡ rule → (body : List ℕ) (fault : Fault) → HasOldFault rule selection known at extended index body fault → old_units rule selection.rules at body ≡ Err fault
  old_has_fault index Aside is body fault h = absurd h
  old_has_fault index Read is body fault (inl h) = rw (bad_old_prefix_refused selection.rules at body h.1) (ap (λ (f : Fault). Err f) (sym h.0))
  old_has_fault index Read is body fault (inr h) =
      let m = h.1 in
      let agrees : AgreesOld Read selection.rules at m.front m.units = subst (λ (rule : TableDumpRule). AgreesOld rule selection.rules at m.front m.units) is m.agrees in
      rw (old_goes_on selection.rules at body m.front m.more agrees.0 m.parts m.some agrees.1) (ap (λ (f : Fault). Err f) (sym h.0))

  has_fault : (index : Option (List PeerKey)) (c : BodyKind) (body : List ℕ) (fault : Fault) → HasFault selection known at extended index c body fault → units_in selection known at extended index c body ≡ Err fault
  has_fault index content.IndexTable body fault h =
      let m = h.1 in
      let read : peers_in body ≡ Err TrailingBytes = ap peers_in m.parts ∙ peers_go_on m.front m.more m.agrees.0.0 m.agrees.0.1 m.some in
      rw read (ap (λ (f : Fault). Err f) (sym h.0))
  has_fault index (content.Rib add_path) body fault h = rib_has_fault add_path index body fault h
  has_fault index (content.Message width add_path) body fault h = rw (message_other selection.rules at extended width add_path body h.1) (ap (λ (f : Fault). Err f) (sym h.0))
  has_fault index (content.States width) body fault (inl h) = rw (change_other extended width body h.1) (ap (λ (f : Fault). Err f) (sym h.0))
  has_fault index (content.States width) body fault (inr h) =
      let m = h.1 in
      rw (change_goes_on extended width body m.front m.more m.agrees.0 m.parts m.some m.agrees.1) (ap (λ (f : Fault). Err f) (sym h.0))
  has_fault index content.OldEntry body fault h = old_has_fault index selection.table_dumps refl body fault h
  has_fault index content.Aside body fault h = absurd h

  rib_not_short : (add_path : Bool) (index : Option (List PeerKey)) (body : List ℕ) → HasRibFault selection known at extended add_path index body ShortRecord → ⊥
  rib_not_short add_path None body h = differs h
    where
      differs : ShortRecord ≡ NoPeerIndex → ⊥
      differs e = cc
  rib_not_short add_path (Some peers) body (inl h) = let e : ShortRecord ≡ BadPrefix = h.0 in cc
  rib_not_short add_path (Some peers) body (inr (inl h)) = let e : ShortRecord ≡ BadPeerIndex = h.0 in cc
  rib_not_short add_path (Some peers) body (inr (inr h)) = let e : ShortRecord ≡ TrailingBytes = h.0 in cc

  old_not_short : (index : Option (List PeerKey)) (rule : TableDumpRule) (body : List ℕ) → HasOldFault rule selection known at extended index body ShortRecord → ⊥
  old_not_short index Aside body h = h
  old_not_short index Read body (inl h) = let e : ShortRecord ≡ BadPrefix = h.0 in cc
  old_not_short index Read body (inr h) = let e : ShortRecord ≡ TrailingBytes = h.0 in cc

  not_short : (index : Option (List PeerKey)) (c : BodyKind) (body : List ℕ) → HasFault selection known at extended index c body ShortRecord → ⊥
  not_short index content.IndexTable body h = let e : ShortRecord ≡ TrailingBytes = h.0 in cc
  not_short index (content.Rib add_path) body h = rib_not_short add_path index body h
  not_short index (content.Message width add_path) body h = let e : ShortRecord ≡ BadFamily = h.0 in cc
  not_short index (content.States width) body (inl h) = let e : ShortRecord ≡ BadFamily = h.0 in cc
  not_short index (content.States width) body (inr h) = let e : ShortRecord ≡ TrailingBytes = h.0 in cc
  not_short index content.OldEntry body h = old_not_short index selection.table_dumps body h
  not_short index content.Aside body h = h

  -- ---- both ways

  not_both : (units : Units) (fault : Fault) (r : Result Units Fault) → r ≡ Ok units → r ≡ Err fault → ⊥
  not_both units fault (Ok other) e h = cc
  not_both units fault (Err other) e h = cc

  same_fault : (a b : Fault) (r : Result Units Fault) → r ≡ Err a → r ≡ Err b → a ≡ b
  same_fault a b (Ok units) e h = absurd cc
  same_fault a b (Err fault) e h = cc

  module _ (index : Option (List PeerKey)) (c : BodyKind) (body : List ℕ) (fault : Fault) where
    pub is_refused : IsBytes body → units_in selection known at extended index c body ≡ Err fault → IsRefused selection known at extended index c body fault
    is_refused fine e = by_fault (refused index c body fault fine e)
      where
        by_fault : HasFault selection known at extended index c body fault ⊎ (fault ≡ ShortRecord) → IsRefused selection known at extended index c body fault
        by_fault (inl h) = inl h
        by_fault (inr short) = inr (
          short,
          λ units a. not_both units fault (units_in selection known at extended index c body) (is_read selection known at extended index c body units a) e,
          λ other h. not_short index c body (subst (HasFault selection known at extended index c body) (same_fault other fault (units_in selection known at extended index c body) (has_fault index c body other h) e ∙ short) h),
        )

    pub refusal : IsBytes body → IsRefused selection known at extended index c body fault → units_in selection known at extended index c body ≡ Err fault
    refusal fine (inl h) = has_fault index c body fault h
    refusal fine (inr h) = by_units (units_in selection known at extended index c body) refl
      where
        by_fault : (other : Fault) → units_in selection known at extended index c body ≡ Err other → HasFault selection known at extended index c body other ⊎ (other ≡ ShortRecord) → units_in selection known at extended index c body ≡ Err fault
        by_fault other is (inl f) = absurd (h.2 other f)
        by_fault other is (inr short) = is ∙ ap (λ (f : Fault). Err f) (short ∙ sym h.0)

        by_units : (r : Result Units Fault) → units_in selection known at extended index c body ≡ r → units_in selection known at extended index c body ≡ Err fault
        by_units (Ok units) is = absurd (h.1 units (agrees selection known at extended index c body units fine is))
        by_units (Err other) is = by_fault other is (refused index c body other fine is)
