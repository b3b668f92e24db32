-- An attribute is taken among those that are kept in any case, or among those that have to be asked for.
use Rattle.std.proofs.Common.{◌≡◌, ℕ, ◌+◌, ◌<◌, Bool, true, false, cond, eqb, List, Option, Some, None, Result, Ok, Err, refl, sym, ap, ◌∙◌, arith}
use Rattle.std.specs.Prelude.{OnOk}
use Rattle.std.specs.Option.{option_and_then, option_or}
use Rattle.std.proofs.lemmas.Bool.{eqb-true, ne_eqb}
use Rattle.mrt_frame.specs.declared.fault.Fault.{Fault}
use Rattle.bgp_prefix.proofs.KeyLaws.{or_none}
use borrow.Author.Tests.{both_ways}
use Rattle.bgp_update.specs.Families.{FamilyOf, RouteRules, route_rules_of}
use Rattle.bgp_update.specs.declared.attribute_type.AttributeType.{AttributeType}
use Rattle.bgp_update.specs.declared.attribute_type.AttributeType.TheVariants as types
use Rattle.bgp_update.specs.declared.kept_attribute.KeptAttribute.{KeptAttribute}
use Rattle.bgp_update.specs.declared.kept_attribute.AttributeSet.{AttributeSet}
use Rattle.bgp_update.specs.declared.width.Width.{Width}
use Rattle.bgp_update.specs.declared.attribute_context.AttributeContext.{AttributeContext}
use Rattle.bgp_update.specs.declared.attribute_context.AttributeContext.TheVariants.{RibEntry, Message}
use Rattle.bgp_update.specs.declared.values.FirstValues.{FirstValues}
use Rattle.bgp_update.specs.declared.asked_values.AskedValues.{AskedValues}
use Rattle.bgp_update.specs.KeptAttributes.{has, is_kept_value, kept_code, kept_index, kept_of, no_attributes}
use Rattle.bgp_update.specs.AttributeTypes.{type_of, bad_attribute}
use Rattle.bgp_update.specs.Attributes.{WrittenAttribute, looks_at, looks_at_type, has_type, value_fault, repeat_fault, fault_unless}
use Rattle.bgp_update.specs.Values.{all_values, asked_value, kept_value, value_index, plain_rules, head_fault, head_fault_of_type, head_fault_beside, TakesAttribute, RefusesAttribute, TakesAsked, RefusesAsked}
use Rattle.bgp_update.proofs.FirstTaken.{head_beside, unasked}
use Rattle.bgp_update.proofs.TypeLaws.{type_again, value_index_decides, kept_index_decides, kept_type, not_kept}

pub on_ok : {T E P Q : Type 0} (r : Result T E) → (P → Q) → OnOk r P → OnOk r Q
on_ok (Ok x) f h = f h
on_ok (Err e) f h = h

-- ---- an attribute that is looked at in any case

-- its fault doesn't depend on what is asked for
head_same : (family : FamilyOf) (asked : AttributeSet) (context : AttributeContext) (width : Width) (t : AttributeType) (o : Option (List ℕ)) (value : List ℕ) → looks_at_type no_attributes t ≡ true → head_fault_of_type (route_rules_of family asked) context width t o value ≡ head_fault_of_type (plain_rules family) context width t o value
unfolding head_fault value_fault
head_same family asked context width (types.Kept a) o value plain = absurd (both_ways (has no_attributes a) (unasked a) plain)
head_same family asked context width t None value plain = refl
head_same family asked context width t (Some first) value plain = refl

module _ (family : FamilyOf) (asked : AttributeSet) (context : AttributeContext) (width : Width) (a : WrittenAttribute) (first : FirstValues) (kept : AskedValues) (none : kept_of a.code ≡ None) where
  beside_same : head_fault_beside (route_rules_of family asked) context width (all_values first kept) a ≡ head_fault_beside (plain_rules family) context width (kept_value first) a
  beside_same = by_type (type_of a.code) refl
    where
      by_value : (t : AttributeType) → type_of a.code ≡ Some t → head_fault_of_type (route_rules_of family asked) context width t (all_values first kept t) a.value ≡ head_fault_of_type (plain_rules family) context width t (kept_value first t) a.value
      by_value (types.Kept k) e = absurd (not_kept a.code k none e)
      by_value types.Origin e = head_same family asked context width types.Origin (kept_value first types.Origin) a.value refl
      by_value types.AsPath e = head_same family asked context width types.AsPath (kept_value first types.AsPath) a.value refl
      by_value types.NextHop e = head_same family asked context width types.NextHop (kept_value first types.NextHop) a.value refl
      by_value types.MultiExitDisc e = head_same family asked context width types.MultiExitDisc (kept_value first types.MultiExitDisc) a.value refl
      by_value types.LocalPref e = head_same family asked context width types.LocalPref (kept_value first types.LocalPref) a.value refl
      by_value types.AtomicAggregate e = head_same family asked context width types.AtomicAggregate (kept_value first types.AtomicAggregate) a.value refl
      by_value types.Aggregator e = head_same family asked context width types.Aggregator (kept_value first types.Aggregator) a.value refl
      by_value types.MpReachNlri e = head_same family asked context width types.MpReachNlri (kept_value first types.MpReachNlri) a.value refl
      by_value types.MpUnreachNlri e = head_same family asked context width types.MpUnreachNlri (kept_value first types.MpUnreachNlri) a.value refl
      by_value types.As4Path e = head_same family asked context width types.As4Path (kept_value first types.As4Path) a.value refl
      by_value types.As4Aggregator e = head_same family asked context width types.As4Aggregator (kept_value first types.As4Aggregator) a.value refl

      by_type : (o : Option AttributeType) → type_of a.code ≡ o → option_and_then (λ t. head_fault_of_type (route_rules_of family asked) context width t (all_values first kept t) a.value) o ≡ option_and_then (λ t. head_fault_of_type (plain_rules family) context width t (kept_value first t) a.value) o
      by_type None e = refl
      by_type (Some t) e = by_value t e

  pub refuses_plain : (fault : Fault) → RefusesAttribute (plain_rules family) context width (kept_value first) a fault → RefusesAttribute (route_rules_of family asked) context width (all_values first kept) a fault
  refuses_plain fault h = beside_same ∙ h

  pub takes_plain : (later : FirstValues) → TakesAttribute (plain_rules family) context width (kept_value first) a (kept_value later) → TakesAttribute (route_rules_of family asked) context width (all_values first kept) a (all_values later kept)
  takes_plain later takes = record { passes = beside_same ∙ takes.passes; kept = stays }
    where
      other : (k : KeptAttribute) (b : Bool) → eqb a.code (kept_code k) ≡ b → b ≡ false
      other k false h = refl
      other k true h = absurd (not_kept a.code k none (ap type_of (eqb-true a.code (kept_code k) h) ∙ type_again (types.Kept k)))

      stays : (t : AttributeType) → looks_at (route_rules_of family asked) t ≡ true → all_values later kept t ≡ option_or (all_values first kept t) (cond (has_type t a) (Some a.value) None)
      stays (types.Kept k) looked = sym (or_none (asked_value kept k)) ∙ ap (λ (b : Bool). option_or (asked_value kept k) (cond b (Some a.value) None)) (sym (other k (eqb a.code (kept_code k)) refl))
      stays types.Origin looked = takes.kept types.Origin refl
      stays types.AsPath looked = takes.kept types.AsPath refl
      stays types.NextHop looked = takes.kept types.NextHop refl
      stays types.MultiExitDisc looked = takes.kept types.MultiExitDisc refl
      stays types.LocalPref looked = takes.kept types.LocalPref refl
      stays types.AtomicAggregate looked = takes.kept types.AtomicAggregate refl
      stays types.Aggregator looked = takes.kept types.Aggregator refl
      stays types.MpReachNlri looked = takes.kept types.MpReachNlri refl
      stays types.MpUnreachNlri looked = takes.kept types.MpUnreachNlri refl
      stays types.As4Path looked = takes.kept types.As4Path refl
      stays types.As4Aggregator looked = takes.kept types.As4Aggregator refl

-- ---- an attribute that has to be asked for

module _ (family : FamilyOf) (context : AttributeContext) (width : Width) (a : WrittenAttribute) (first : FirstValues) (kept : AskedValues) (k : KeptAttribute) (some : kept_of a.code ≡ Some k) where
  abbrev rules : RouteRules
  rules = route_rules_of family kept.asked

  of_type : type_of a.code ≡ Some (types.Kept k)
  of_type = kept_type a.code k some

  value_passes : (b : Bool) → has kept.asked k ≡ b → (b ≡ true → is_kept_value k a.value ≡ true) → cond b (fault_unless (is_kept_value k a.value) (bad_attribute (types.Kept k))) None ≡ None
  value_passes false e h = refl
  value_passes true e h = ap (λ (t : Bool). fault_unless t (bad_attribute (types.Kept k))) (h refl)

  no_repeat : (c : AttributeContext) → repeat_fault c (types.Kept k) ≡ None
  no_repeat RibEntry = refl
  no_repeat (Message add_path) = refl

  passes_if : (o : Option (List ℕ)) → asked_value kept k ≡ o → (has kept.asked k ≡ true → o ≡ None → is_kept_value k a.value ≡ true) → head_fault_of_type rules context width (types.Kept k) o a.value ≡ None
  unfolding head_fault value_fault
  passes_if None e h = value_passes (has kept.asked k) refl (λ asked. h asked refl)
  passes_if (Some other) e h = no_repeat context

  pub takes_kept : (later : AskedValues) → TakesAsked kept k a.value later → TakesAttribute rules context width (all_values first kept) a (all_values first later)
  takes_kept later takes = record {
    passes = head_beside rules context width (all_values first kept) a (types.Kept k) (asked_value kept k) of_type refl ∙ passes_if (asked_value kept k) refl takes.passes;
    kept = moves;
  }
    where
      other : (t : AttributeType) → eqb (value_index t) (11 + kept_index k) ≡ false → kept_value first t ≡ option_or (kept_value first t) (cond (has_type t a) (Some a.value) None)
      other t e = sym (or_none (kept_value first t)) ∙ ap (λ (b : Bool). option_or (kept_value first t) (cond b (Some a.value) None)) (sym (value_index_decides a.code (types.Kept k) t of_type ∙ e))

      front : (n : ℕ) → n < 11 → eqb n (11 + kept_index k) ≡ false
      front n few = ne_eqb n (11 + kept_index k) (λ h. absurd (omega (arith, h, few)))

      moves : (t : AttributeType) → looks_at rules t ≡ true → all_values first later t ≡ option_or (all_values first kept t) (cond (has_type t a) (Some a.value) None)
      moves (types.Kept b) looked = takes.takes b looked ∙ ap (λ (x : Bool). option_or (asked_value kept b) (cond x (Some a.value) None)) (sym (kept_index_decides a.code k b of_type))
      moves types.Origin looked = other types.Origin (front 0 (omega arith))
      moves types.AsPath looked = other types.AsPath (front 1 (omega arith))
      moves types.NextHop looked = other types.NextHop (front 2 (omega arith))
      moves types.MultiExitDisc looked = other types.MultiExitDisc (front 3 (omega arith))
      moves types.LocalPref looked = other types.LocalPref (front 4 (omega arith))
      moves types.AtomicAggregate looked = other types.AtomicAggregate (front 10 (omega arith))
      moves types.Aggregator looked = other types.Aggregator (front 5 (omega arith))
      moves types.MpReachNlri looked = other types.MpReachNlri (front 6 (omega arith))
      moves types.MpUnreachNlri looked = other types.MpUnreachNlri (front 7 (omega arith))
      moves types.As4Path looked = other types.As4Path (front 8 (omega arith))
      moves types.As4Aggregator looked = other types.As4Aggregator (front 9 (omega arith))

  pub refuses_kept : (fault : Fault) → RefusesAsked kept k a.value fault → RefusesAttribute rules context width (all_values first kept) a fault
  unfolding head_fault value_fault
  refuses_kept fault h =
      head_beside rules context width (all_values first kept) a (types.Kept k) None of_type h.first
      ∙ ap (λ (b : Bool). cond b (fault_unless (is_kept_value k a.value) (bad_attribute (types.Kept k))) None) h.asked
      ∙ ap (λ (b : Bool). fault_unless b (bad_attribute (types.Kept k))) h.bad ∙ ap (λ (f : Fault). Some f) (sym h.is)
