-- A body agrees with its form exactly where the reading of it gives its units.
use Rattle.std.proofs.Common.{◌≡◌, ℕ, Bool, List, [], ◌∷◌, Option, Result, Ok, sym, ap, ◌∙◌}
use Rattle.mrt_frame.specs.declared.fault.Fault.{Fault}
use Rattle.mrt_frame.proofs.Items.{bind_ok, ok_is}
use Rattle.mrt_frame.proofs.FieldLaws.{IsBytes}
use Rattle.bgp_update.specs.Families.{Rules, by_entry_width}
use Rattle.bgp_update.specs.declared.width.Width.TheVariants.{Four}
use Rattle.mrt_body.specs.declared.record_place.RecordAt.{RecordAt}
use Rattle.mrt_body.specs.declared.body_kind.BodyKind.{BodyKind}
use Rattle.mrt_body.specs.declared.body_kind.BodyKind.TheVariants as content
use Rattle.peer_units.specs.declared.table_dump_rule.TableDumpRule.{TableDumpRule}
use Rattle.peer_units.specs.declared.table_dump_rule.TableDumpRule.TheVariants.{Aside, Read}
use Rattle.peer_units.specs.Choices.{UnitSelection}
use Rattle.peer_units.specs.declared.unit.PeerKey.{PeerKey}
use Rattle.peer_units.specs.Plain.{Unit as ReplayUnit}
use Rattle.mrt_body.specs.Indexes.{peers_in}
use Rattle.mrt_body.specs.Units.{alone, units_in, message_unit, change_units, old_entry_unit, old_units}
use Rattle.mrt_body.specs.Bgp4mp.{state_change_in}
use Rattle.mrt_body.specs.Agreement.{Agrees, AgreesOld}
use Rattle.mrt_body.proofs.PeerForms.{index_body-is, index_body-again}
use Rattle.mrt_body.proofs.RibForms.{rib_body-is, rib_body-again}
use Rattle.mrt_body.proofs.OldForms.{old_body-is, old_body-again}
use Rattle.mrt_body.proofs.SessionForms.{message_body-is, message_body-again, states_body-is, states_body-again}

abbrev Units : Type 0
Units = List ReplayUnit

alone_is : (r : Result ReplayUnit Fault) (units : Units) → alone r ≡ Ok units → (unit : ReplayUnit) × (r ≡ Ok unit) × (units ≡ unit ∷ [])
alone_is r units e = let a = bind_ok r (λ unit. Ok (unit ∷ [])) units e in (a.0, a.1, sym (ok_is (a.0 ∷ []) units a.2))

old_agrees : (rule : TableDumpRule) (rules : Rules) (at : RecordAt) (body : List ℕ) (units : Units) → IsBytes body → old_units rule rules at body ≡ Ok units → AgreesOld rule rules at body units
old_agrees Aside rules at body units fine e = sym (ok_is [] units e)
old_agrees Read rules at body units fine e =
    let a = alone_is (old_entry_unit rules at body) units e in
    (a.0, old_body-is rules at body a.0 fine a.1, a.2)

old_is_read : (rule : TableDumpRule) (rules : Rules) (at : RecordAt) (body : List ℕ) (units : Units) → AgreesOld rule rules at body units → old_units rule rules at body ≡ Ok units
old_is_read Aside rules at body units h = ap (λ (us : Units). Ok us) (sym h)
old_is_read Read rules at body units h = rw (old_body-again rules at body h.0 h.1) (ap (λ (us : Units). Ok us) (sym h.2))

module _ (selection : UnitSelection) (known : List PeerKey) (at : RecordAt) (extended : Bool) (index : Option (List PeerKey)) where
  pub agrees : (c : BodyKind) (body : List ℕ) (units : Units) → IsBytes body → units_in selection known at extended index c body ≡ Ok units → Agrees selection known at extended index c body units
  agrees content.IndexTable body units fine e =
      let p = bind_ok (peers_in body) (λ peers. Ok []) units e in
      ((p.0, index_body-is body p.0 fine p.1), sym (ok_is [] units p.2))
  agrees (content.Rib add_path) body units fine e = rib_body-is (by_entry_width Four selection.rules) at add_path index body units fine e
  agrees (content.Message width add_path) body units fine e =
      let a = alone_is (message_unit selection.rules at extended width add_path body) units e in
      (a.0, message_body-is selection.rules at extended width add_path body a.0 fine a.1, a.2)
  agrees (content.States width) body units fine e =
      let c = bind_ok (state_change_in extended width body) (λ change. Ok (change_units selection known at change)) units e in
      (c.0, states_body-is extended width body c.0 fine c.1, sym (ok_is (change_units selection known at c.0) units c.2))
  agrees content.OldEntry body units fine e = old_agrees selection.table_dumps selection.rules at body units fine e
  agrees content.Aside body units fine e = sym (ok_is [] units e)

  pub is_read : (c : BodyKind) (body : List ℕ) (units : Units) → Agrees selection known at extended index c body units → units_in selection known at extended index c body ≡ Ok units
  is_read content.IndexTable body units h = rw (index_body-again body h.0.0 h.0.1) (ap (λ (us : Units). Ok us) (sym h.1))
  is_read (content.Rib add_path) body units h = rib_body-again (by_entry_width Four selection.rules) at add_path index body units h
  is_read (content.Message width add_path) body units h = rw (message_body-again selection.rules at extended width add_path body h.0 h.1) (ap (λ (us : Units). Ok us) (sym h.2))
  is_read (content.States width) body units h = rw (states_body-again extended width body h.0 h.1) (ap (λ (us : Units). Ok us) (sym h.2))
  is_read content.OldEntry body units h = old_is_read selection.table_dumps selection.rules at body units h
  is_read content.Aside body units h = ap (λ (us : Units). Ok us) (sym h)

  pub agrees_once : (c : BodyKind) (body : List ℕ) (units others : Units) → Agrees selection known at extended index c body units → Agrees selection known at extended index c body others → units ≡ others
  agrees_once c body units others h k = ok_is units others (sym (is_read c body units h) ∙ is_read c body others k)
