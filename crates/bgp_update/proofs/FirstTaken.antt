-- An attribute is taken: it has no fault beside what is kept, and its value is kept if it is the first of its type.
use Rattle.std.proofs.Common.{◌≡◌, ℕ, Bool, true, false, cond, eqb, List, [], length, Option, Some, None, refl, sym, ap, ◌∙◌, arith}
use Rattle.std.proofs.lemmas.Bool.{eqb-true}
use Rattle.std.proofs.lemmas.List.{nil_from_length}
use Rattle.std.specs.Option.{option_or}
use Rattle.bgp_prefix.proofs.KeyLaws.{or_none}
use Rattle.bgp_update.specs.Families.{RouteRules}
use Rattle.bgp_update.specs.declared.attribute_type.AttributeType.{AttributeType}
use Rattle.bgp_update.specs.declared.attribute_type.AttributeType.TheVariants as types
use Rattle.bgp_update.specs.declared.width.Width.{Width}
use Rattle.bgp_update.specs.declared.attribute_context.AttributeContext.{AttributeContext}
use Rattle.bgp_update.specs.declared.attribute_context.AttributeContext.TheVariants.{RibEntry, Message}
use Rattle.bgp_update.specs.declared.kept_attribute.KeptAttribute.{KeptAttribute}
use Rattle.bgp_update.specs.declared.kept_attribute.KeptAttribute.TheVariants.{Communities, ExtendedCommunities, LargeCommunities, OriginatorId, ClusterList, OnlyToCustomer}
use Rattle.bgp_update.specs.KeptAttributes.{has, no_attributes}
use Rattle.bgp_update.specs.AttributeTypes.{type_code, type_of, bad_attribute}
use Rattle.bgp_update.specs.Attributes.{WrittenAttribute, looks_at, value_fault, refuses_repeat, fault_unless, fault_of_type, fault_beside}
use Rattle.bgp_update.specs.Values.{Values, value_count, value_index, head_fault, head_fault_of_type, head_fault_beside, TakesAttribute}
use borrow.Author.Tests.{both_ways}
use Rattle.bgp_update.proofs.TypeLaws.{type_again, value_index_decides, equal_value_indices}
use Rattle.bgp_update.proofs.FormedValues.{no_fault}

-- the fault of an attribute of a type
pub beside : (rules : RouteRules) (context : AttributeContext) (width : Width) (value_at : Values) (a : WrittenAttribute) (t : AttributeType) (o : Option (List ℕ)) → type_of a.code ≡ Some t → value_at t ≡ o → fault_beside rules context width value_at a ≡ fault_of_type rules context width t o a.value
beside rules context width value_at a t o e h = rw e (ap (λ (x : Option (List ℕ)). fault_of_type rules context width t x a.value) h)

-- the same but for keys
pub head_beside : (rules : RouteRules) (context : AttributeContext) (width : Width) (value_at : Values) (a : WrittenAttribute) (t : AttributeType) (o : Option (List ℕ)) → type_of a.code ≡ Some t → value_at t ≡ o → head_fault_beside rules context width value_at a ≡ head_fault_of_type rules context width t o a.value
head_beside rules context width value_at a t o e h = rw e (ap (λ (x : Option (List ℕ)). head_fault_of_type rules context width t x a.value) h)

-- the first of its type
pub takes_first : (rules : RouteRules) (context : AttributeContext) (width : Width) (first later : Values) (a : WrittenAttribute) (t : AttributeType) → type_of a.code ≡ Some t → first t ≡ None → head_fault rules context width t a.value ≡ None
    → ((u : AttributeType) → later u ≡ cond (eqb (value_index u) (value_index t)) (Some a.value) (first u)) → TakesAttribute rules context width first a later
takes_first rules context width first later a t e none fine kept =
    record {
      passes = head_beside rules context width first a t None e none ∙ fine;
      kept = λ u looked. kept u ∙ by_test u (eqb (value_index u) (value_index t)) refl ∙ ap (λ (b : Bool). option_or (first u) (cond b (Some a.value) None)) (sym (value_index_decides a.code t u e));
    }
  where
    by_test : (u : AttributeType) (b : Bool) → eqb (value_index u) (value_index t) ≡ b → cond b (Some a.value) (first u) ≡ option_or (first u) (cond b (Some a.value) None)
    by_test u false h = sym (or_none (first u))
    by_test u true h = ap (λ (o : Option (List ℕ)). option_or o (Some a.value)) (sym (ap first (equal_value_indices u t h) ∙ none))

-- a repeat
pub takes_again : (rules : RouteRules) (context : AttributeContext) (width : Width) (first : Values) (a : WrittenAttribute) (t : AttributeType) (value : List ℕ) → type_of a.code ≡ Some t → Some value ≡ first t → refuses_repeat context t ≡ false → TakesAttribute rules context width first a first
takes_again rules context width first a t value e some allowed =
    record {
      passes = head_beside rules context width first a t (Some value) e (sym some) ∙ ap (λ (b : Bool). fault_unless (cond b false true) (bad_attribute t)) allowed;
      kept = λ u looked. by_test u (eqb (value_index u) (value_index t)) refl ∙ ap (λ (b : Bool). option_or (first u) (cond b (Some a.value) None)) (sym (value_index_decides a.code t u e));
    }
  where
    by_test : (u : AttributeType) (b : Bool) → eqb (value_index u) (value_index t) ≡ b → first u ≡ option_or (first u) (cond b (Some a.value) None)
    by_test u false h = sym (or_none (first u))
    by_test u true h =
        let held : Some value ≡ first u = some ∙ ap first (sym (equal_value_indices u t h)) in
        sym held ∙ ap (λ (o : Option (List ℕ)). option_or o (Some a.value)) held

-- a code that isn't looked at has no type
pub no_type : (code : ℕ) (u : AttributeType) → type_of code ≡ None → eqb code (type_code u) ≡ false
no_type code u e = by_test (eqb code (type_code u)) refl
  where
    by_test : (b : Bool) → eqb code (type_code u) ≡ b → b ≡ false
    by_test false h = refl
    by_test true h =
        let none : type_of (type_code u) ≡ None = ap type_of (sym (eqb-true code (type_code u) h)) ∙ e in
        let some = type_again u in
        absurd cc

-- an attribute of a type that isn't looked at has no fault
pub unlooked : (rules : RouteRules) (context : AttributeContext) (width : Width) (t : AttributeType) (o : Option (List ℕ)) (value : List ℕ) → looks_at rules t ≡ false → head_fault_of_type rules context width t o value ≡ None
unfolding head_fault value_fault
unlooked rules context width (types.Kept a) None value h = rw h refl
unlooked rules RibEntry width (types.Kept a) (Some first) value h = refl
unlooked rules (Message add_path) width (types.Kept a) (Some first) value h = refl
unlooked rules context width t o value h = absurd cc

-- an attribute that has to be asked for isn't looked at where none is
pub unasked : (a : KeptAttribute) → has no_attributes a ≡ false
unasked Communities = refl
unasked ExtendedCommunities = refl
unasked LargeCommunities = refl
unasked OriginatorId = refl
unasked ClusterList = refl
unasked OnlyToCustomer = refl

-- an attribute that isn't looked at changes nothing
pub takes_none : (rules : RouteRules) (context : AttributeContext) (width : Width) (first : Values) (a : WrittenAttribute) → type_of a.code ≡ None → TakesAttribute rules context width first a first
takes_none rules context width first a e = record {
  passes = rw e refl;
  kept = λ u looked. sym (or_none (first u)) ∙ ap (λ (b : Bool). option_or (first u) (cond b (Some a.value) None)) (sym (no_type a.code u e));
}

-- neither does one that isn't asked for
pub takes_unasked : (rules : RouteRules) (context : AttributeContext) (width : Width) (first : Values) (a : WrittenAttribute) (t : AttributeType) → type_of a.code ≡ Some t → looks_at rules t ≡ false → TakesAttribute rules context width first a first
takes_unasked rules context width first a t e unasked = record {
  passes = head_beside rules context width first a t (first t) e refl ∙ unlooked rules context width t (first t) a.value unasked;
  kept = λ u looked. sym (or_none (first u)) ∙ ap (λ (b : Bool). option_or (first u) (cond b (Some a.value) None)) (sym (other u looked (eqb a.code (type_code u)) refl));
}
  where
    other : (u : AttributeType) → looks_at rules u ≡ true → (b : Bool) → eqb a.code (type_code u) ≡ b → b ≡ false
    other u looked false h = refl
    other u looked true h =
        let same : Some t ≡ Some u = sym e ∙ ap type_of (eqb-true a.code (type_code u) h) ∙ type_again u in
        absurd (both_ways (looks_at rules u) (ap (looks_at rules) (sym (some_is same)) ∙ unasked) looked)
      where
        some_is : Some t ≡ Some u → t ≡ u
        some_is s = cc

-- ATOMIC_AGGREGATE has an empty value
pub atomic_is_empty : (rules : RouteRules) (context : AttributeContext) (width : Width) (t : AttributeType) (value : List ℕ) → value_index t ≡ value_count → head_fault rules context width t value ≡ None → value ≡ []
unfolding head_fault value_fault
atomic_is_empty rules context width types.AtomicAggregate value h e = nil_from_length value (eqb-true (length value) 0 (no_fault (eqb (length value) 0) (bad_attribute types.AtomicAggregate) e))
atomic_is_empty rules context width t value h e = absurd (omega (arith, h))
