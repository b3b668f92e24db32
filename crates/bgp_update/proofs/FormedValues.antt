-- A value has no fault where it has the form of its type, and the other way round.
use Rattle.std.proofs.Common.{◌≡◌, ℕ, zero, suc, ◌*◌, ◌/◌, ◌%◌, ◌<◌, Bool, true, false, not, ◌&&◌, ◌||◌, cond, eqb, List, [], ◌∷◌, length, Some, None, Result, Ok, Err, refl, sym, ap, ◌∙◌, arith, inl, inr, ◌⊎◌}
use Rattle.std.specs.Prelude.{is_some}
use Rattle.std.proofs.Math.Nat.{mod-add-div'}
use borrow.Author.Tests.{both_ways}
use Rattle.std.proofs.lemmas.Bool.{eqb-true, ne_eqb, eq-eqb, and_parts, and_from}
use Rattle.bgp_update.specs.declared.kept_attribute.KeptAttribute.{KeptAttribute}
use Rattle.bgp_update.specs.declared.kept_attribute.KeptAttribute.TheVariants.{Communities, ExtendedCommunities, LargeCommunities, OriginatorId, ClusterList, OnlyToCustomer}
use Rattle.bgp_update.specs.KeptAttributes.{IsKeptValue, is_kept_value, has, kept_form}
use Rattle.std.specs.Result.{result_err}
use Rattle.mrt_frame.specs.declared.fault.Fault.{Fault}
use Rattle.mrt_frame.proofs.FieldLaws.{IsBytes}
use Rattle.bgp_update.specs.Families.{FamilyOf, RouteRules}
use Rattle.bgp_update.specs.declared.attribute_type.AttributeType.{AttributeType}
use Rattle.bgp_update.specs.declared.attribute_type.AttributeType.TheVariants as types
use Rattle.bgp_update.specs.declared.width.Width.{Width}
use Rattle.bgp_update.specs.declared.attribute_context.AttributeContext.{AttributeContext}
use Rattle.bgp_update.specs.declared.attribute_context.AttributeContext.TheVariants.{RibEntry, Message}
use Rattle.bgp_update.specs.declared.route.Origin.{Origin}
use Rattle.bgp_update.specs.declared.route.Origin.TheVariants.{Igp, Egp, Incomplete}
use Rattle.bgp_update.specs.Paths.{PathSegment}
use Rattle.bgp_update.specs.Segments.{number_len, path_bytes, IsPath, path_in}
use Rattle.bgp_update.specs.Equality.{origin_number}
use Rattle.bgp_update.specs.Multiprotocol.{reached_in, unreached_in, entry_hop_in}
use Rattle.bgp_update.specs.AttributeTypes.{bad_attribute}
use Rattle.bgp_update.specs.Attributes.{IsFormed, HoldsEntryHop, HoldsReach, HoldsUnreach, origin_of, fault_unless, reached_fault, unreached_fault, value_fault}
use Rattle.bgp_update.proofs.EntryHopLaws.{entry_hop_in-is, entry_hop_in-said}
use Rattle.bgp_update.proofs.SegmentLaws.{path_in-bytes, path_in-is}
use Rattle.bgp_update.proofs.MultiprotocolLaws.{reached_in-is, reached_in-bytes, unreached_in-is, unreached_in-bytes}

-- a test without a fault
pub no_fault : (b : Bool) (fault : Fault) → fault_unless b fault ≡ None → b ≡ true
no_fault true fault e = refl
no_fault false fault e = absurd cc

-- a reading without a fault
no_reading_fault : {A : Type 0} (r : Result A Fault) → result_err r ≡ None → (x : A) × (r ≡ Ok x)
no_reading_fault (Ok x) e = (x, refl)
no_reading_fault (Err fault) e = absurd cc

one_of : (a b : Bool) → (a || b) ≡ true → (a ≡ true) ⊎ (b ≡ true)
one_of true b e = inl refl
one_of false b e = inr e

-- ---- ORIGIN

is_origin : (value : List ℕ) → is_some (origin_of value) ≡ true → (origin : Origin) × (value ≡ origin_number origin ∷ [])
is_origin [] e = absurd cc
is_origin (a ∷ b ∷ rest) e = absurd (too_long e)
  where
    long : eqb (length (a ∷ b ∷ rest)) 1 ≡ false
    long = ne_eqb (length (a ∷ b ∷ rest)) 1 (λ h. absurd (omega (arith, h)))

    too_long : is_some (origin_of (a ∷ b ∷ rest)) ≡ true → ⊥
    too_long h = let none : is_some (origin_of (a ∷ b ∷ rest)) ≡ false = rw long refl in cc
is_origin (a ∷ []) e = by_tests (eqb a 0) (eqb a 1) (eqb a 2) refl refl refl e
  where
    by_tests : (zero' one' two' : Bool) → eqb a 0 ≡ zero' → eqb a 1 ≡ one' → eqb a 2 ≡ two' → is_some (cond zero' (Some Igp) (cond one' (Some Egp) (cond two' (Some Incomplete) None))) ≡ true
        → (origin : Origin) × (a ∷ [] ≡ origin_number origin ∷ [])
    by_tests true one' two' x y z h = (Igp, ap (λ (n : ℕ). n ∷ []) (eqb-true a 0 x))
    by_tests false true two' x y z h = (Egp, ap (λ (n : ℕ). n ∷ []) (eqb-true a 1 y))
    by_tests false false true x y z h = (Incomplete, ap (λ (n : ℕ). n ∷ []) (eqb-true a 2 z))
    by_tests false false false x y z h = absurd cc

origin_passes : (value : List ℕ) (origin : Origin) (fault : Fault) → value ≡ origin_number origin ∷ [] → fault_unless (is_some (origin_of value)) fault ≡ None
origin_passes value Igp fault e = ap (λ (v : List ℕ). fault_unless (is_some (origin_of v)) fault) e
origin_passes value Egp fault e = ap (λ (v : List ℕ). fault_unless (is_some (origin_of v)) fault) e
origin_passes value Incomplete fault e = ap (λ (v : List ℕ). fault_unless (is_some (origin_of v)) fault) e

-- ---- lengths

has_length : (value : List ℕ) (n : ℕ) (fault : Fault) → fault_unless (eqb (length value) n) fault ≡ None → length value ≡ n
has_length value n fault e = eqb-true (length value) n (no_fault (eqb (length value) n) fault e)

length_passes : (value : List ℕ) (n : ℕ) (fault : Fault) → length value ≡ n → fault_unless (eqb (length value) n) fault ≡ None
length_passes value n fault e = ap (λ (m : ℕ). fault_unless (eqb m n) fault) e ∙ ap (λ (b : Bool). fault_unless b fault) (eq-eqb n n refl)

either_length : (value : List ℕ) (fault : Fault) → fault_unless (eqb (length value) 6 || eqb (length value) 8) fault ≡ None → (length value ≡ 6) ⊎ (length value ≡ 8)
either_length value fault e =
    elim (one_of (eqb (length value) 6) (eqb (length value) 8) (no_fault (eqb (length value) 6 || eqb (length value) 8) fault e)) [
      | inl six ↦ inl (eqb-true (length value) 6 six)
      | inr eight ↦ inr (eqb-true (length value) 8 eight)
    ]

either_passes : (value : List ℕ) (fault : Fault) → (length value ≡ 6) ⊎ (length value ≡ 8) → fault_unless (eqb (length value) 6 || eqb (length value) 8) fault ≡ None
either_passes value fault (inl e) = ap (λ (m : ℕ). fault_unless (eqb m 6 || eqb m 8) fault) e
either_passes value fault (inr e) = ap (λ (m : ℕ). fault_unless (eqb m 6 || eqb m 8) fault) e

-- ---- MP_REACH_NLRI and MP_UNREACH_NLRI

entry_holds : (own : Bool) (family : FamilyOf) (value : List ℕ) → IsBytes value → cond own None (result_err (entry_hop_in family value)) ≡ None → HoldsEntryHop own family value
entry_holds true family value fine e = tt
entry_holds false family value fine e =
    let r = no_reading_fault (entry_hop_in family value) e in
    (r.0, entry_hop_in-is family value r.0 fine r.1)

entry_passes : (own : Bool) (family : FamilyOf) (value : List ℕ) → HoldsEntryHop own family value → cond own None (result_err (entry_hop_in family value)) ≡ None
entry_passes true family value h = refl
entry_passes false family value h = ap result_err (entry_hop_in-said family value h.0 h.1)

holds_reach : (family : FamilyOf) (context : AttributeContext) (value : List ℕ) → IsBytes value → reached_fault family context value ≡ None → HoldsReach family context value
holds_reach family RibEntry value fine e = entry_holds family.own_fields family value fine e
holds_reach family (Message add_path) value fine e =
    let r = no_reading_fault (reached_in family add_path value) e in
    (r.0.0, r.0.1, reached_in-is family add_path value r.0 fine r.1)

reach_passes : (family : FamilyOf) (context : AttributeContext) (value : List ℕ) → HoldsReach family context value → reached_fault family context value ≡ None
reach_passes family RibEntry value h = entry_passes family.own_fields family value h
reach_passes family (Message add_path) value h = rw (reached_in-bytes family add_path value h.0 h.1 h.2) refl

holds_unreach : (family : FamilyOf) (context : AttributeContext) (value : List ℕ) → IsBytes value → unreached_fault family context value ≡ None → HoldsUnreach family context value
holds_unreach family RibEntry value fine e = tt
holds_unreach family (Message add_path) value fine e =
    let r = no_reading_fault (unreached_in family add_path value) e in
    (r.0, unreached_in-is family add_path value r.0 fine r.1)

unreach_passes : (family : FamilyOf) (context : AttributeContext) (value : List ℕ) → HoldsUnreach family context value → unreached_fault family context value ≡ None
unreach_passes family RibEntry value h = refl
unreach_passes family (Message add_path) value h = rw (unreached_in-bytes family add_path value h.0 h.1) refl

-- ---- attributes that have to be asked for

-- a length that is a multiple of this size, and not 0
is_some_members : (len size : ℕ) → (not (eqb len 0) && eqb (len % size) 0) ≡ true → (0 < len / size) × (len ≡ len / size * size)
is_some_members len size e =
    let parts = and_parts (not (eqb len 0)) (eqb (len % size) 0) e in
    let whole : len ≡ len / size * size = omega (arith, mod-add-div' len size, eqb-true (len % size) 0 parts.1) in
    (positive (len / size) whole parts.0, whole)
  where
    not_set : (b : Bool) → not b ≡ true → b ≡ false
    not_set true h = absurd cc
    not_set false h = refl

    positive : (n : ℕ) → len ≡ n * size → not (eqb len 0) ≡ true → 0 < n
    positive zero h nonzero = absurd (both_ways (eqb len 0) (not_set (eqb len 0) nonzero) (eq-eqb len 0 (omega (arith, h))))
    positive (suc n) h nonzero = omega arith

of_several : (a : KeptAttribute) (value : List ℕ) → (kept_form a).is_list ≡ true → (not (eqb (length value) 0) && eqb (length value % (kept_form a).size) 0) ≡ true → IsKeptValue a value
of_several a value list e =
    let m = is_some_members (length value) (kept_form a).size e in
    record { members = length value / (kept_form a).size; some = m.0; single = λ h. absurd (both_ways (kept_form a).is_list h list); len = m.1 }

of_one : (a : KeptAttribute) (value : List ℕ) → eqb (length value) (kept_form a).size ≡ true → IsKeptValue a value
of_one a value e = record { members = 1; some = omega arith; single = λ h. refl; len = omega (arith, eqb-true (length value) (kept_form a).size e) }

is_kept : (a : KeptAttribute) (value : List ℕ) → is_kept_value a value ≡ true → IsKeptValue a value
is_kept Communities value e = of_several Communities value refl e
is_kept ExtendedCommunities value e = of_several ExtendedCommunities value refl e
is_kept LargeCommunities value e = of_several LargeCommunities value refl e
is_kept OriginatorId value e = of_one OriginatorId value e
is_kept ClusterList value e = of_several ClusterList value refl e
is_kept OnlyToCustomer value e = of_one OnlyToCustomer value e

several_pass : (len size : ℕ) → (eqb len 0 ≡ false) → (len % size ≡ 0) → (not (eqb len 0) && eqb (len % size) 0) ≡ true
several_pass len size some none = and_from (not (eqb len 0)) (eqb (len % size) 0) (ap not some) (eq-eqb (len % size) 0 none)

kept_again : (a : KeptAttribute) (value : List ℕ) → IsKeptValue a value → is_kept_value a value ≡ true
kept_again Communities value h = several_pass (length value) 4 (ne_eqb (length value) 0 (λ e. absurd (omega (arith, e, h.len, h.some)))) (omega (arith, h.len))
kept_again ExtendedCommunities value h = several_pass (length value) 8 (ne_eqb (length value) 0 (λ e. absurd (omega (arith, e, h.len, h.some)))) (omega (arith, h.len))
kept_again LargeCommunities value h = several_pass (length value) 12 (ne_eqb (length value) 0 (λ e. absurd (omega (arith, e, h.len, h.some)))) (omega (arith, h.len))
kept_again OriginatorId value h = eq-eqb (length value) 4 (omega (arith, h.len, h.single refl))
kept_again ClusterList value h = several_pass (length value) 4 (ne_eqb (length value) 0 (λ e. absurd (omega (arith, e, h.len, h.some)))) (omega (arith, h.len))
kept_again OnlyToCustomer value h = eq-eqb (length value) 4 (omega (arith, h.len, h.single refl))

kept_is_formed : (rules : RouteRules) (a : KeptAttribute) (value : List ℕ) → cond (has rules.kept a) (fault_unless (is_kept_value a value) (bad_attribute (types.Kept a))) None ≡ None → has rules.kept a ≡ true → IsKeptValue a value
kept_is_formed rules a value e asked =
    is_kept a value (no_fault (is_kept_value a value) (bad_attribute (types.Kept a)) (ap (λ (b : Bool). cond b (fault_unless (is_kept_value a value) (bad_attribute (types.Kept a))) None) (sym asked) ∙ e))

kept_passes : (rules : RouteRules) (a : KeptAttribute) (value : List ℕ) → (has rules.kept a ≡ true → IsKeptValue a value) → cond (has rules.kept a) (fault_unless (is_kept_value a value) (bad_attribute (types.Kept a))) None ≡ None
kept_passes rules a value h = by_test (has rules.kept a) refl
  where
    by_test : (b : Bool) → has rules.kept a ≡ b → cond b (fault_unless (is_kept_value a value) (bad_attribute (types.Kept a))) None ≡ None
    by_test false e = refl
    by_test true e = ap (λ (b : Bool). fault_unless b (bad_attribute (types.Kept a))) (kept_again a value (h e))

-- ---- all types

path_is : (width : Width) (value : List ℕ) → IsBytes value → result_err (path_in (number_len width) value) ≡ None → (path : List PathSegment) × IsPath (number_len width) path × (value ≡ path_bytes (number_len width) path)
path_is width value fine e =
    let r = no_reading_fault (path_in (number_len width) value) e in
    let law = path_in-is width value r.0 fine r.1 in
    (r.0, law.1, law.0)

path_passes : (width : Width) (value : List ℕ) (path : List PathSegment) → IsPath (number_len width) path → value ≡ path_bytes (number_len width) path → result_err (path_in (number_len width) value) ≡ None
path_passes width value path h e = ap (λ (v : List ℕ). result_err (path_in (number_len width) v)) e ∙ rw (path_in-bytes width path h) refl

pub value_is_formed : (rules : RouteRules) (context : AttributeContext) (width : Width) (t : AttributeType) (value : List ℕ) → IsBytes value → value_fault rules context width t value ≡ None → IsFormed rules context width t value
unfolding value_fault
value_is_formed rules context width types.Origin value fine e = is_origin value (no_fault (is_some (origin_of value)) (bad_attribute types.Origin) e)
value_is_formed rules context width types.AsPath value fine e = path_is width value fine e
value_is_formed rules context width types.NextHop value fine e = has_length value 4 (bad_attribute types.NextHop) e
value_is_formed rules context width types.MultiExitDisc value fine e = has_length value 4 (bad_attribute types.MultiExitDisc) e
value_is_formed rules context width types.LocalPref value fine e = has_length value 4 (bad_attribute types.LocalPref) e
value_is_formed rules context width types.AtomicAggregate value fine e = has_length value 0 (bad_attribute types.AtomicAggregate) e
value_is_formed rules context width types.Aggregator value fine e = either_length value (bad_attribute types.Aggregator) e
value_is_formed rules context width types.MpReachNlri value fine e = holds_reach rules.family context value fine e
value_is_formed rules context width types.MpUnreachNlri value fine e = holds_unreach rules.family context value fine e
value_is_formed rules context width types.As4Path value fine e = tt
value_is_formed rules context width types.As4Aggregator value fine e = tt
value_is_formed rules context width (types.Kept a) value fine e = kept_is_formed rules a value e

pub formed_passes : (rules : RouteRules) (context : AttributeContext) (width : Width) (t : AttributeType) (value : List ℕ) → IsFormed rules context width t value → value_fault rules context width t value ≡ None
unfolding value_fault
formed_passes rules context width types.Origin value h = origin_passes value h.0 (bad_attribute types.Origin) h.1
formed_passes rules context width types.AsPath value h = path_passes width value h.0 h.1 h.2
formed_passes rules context width types.NextHop value h = length_passes value 4 (bad_attribute types.NextHop) h
formed_passes rules context width types.MultiExitDisc value h = length_passes value 4 (bad_attribute types.MultiExitDisc) h
formed_passes rules context width types.LocalPref value h = length_passes value 4 (bad_attribute types.LocalPref) h
formed_passes rules context width types.AtomicAggregate value h = length_passes value 0 (bad_attribute types.AtomicAggregate) h
formed_passes rules context width types.Aggregator value h = either_passes value (bad_attribute types.Aggregator) h
formed_passes rules context width types.MpReachNlri value h = reach_passes rules.family context value h
formed_passes rules context width types.MpUnreachNlri value h = unreach_passes rules.family context value h
formed_passes rules context width types.As4Path value h = refl
formed_passes rules context width types.As4Aggregator value h = refl
formed_passes rules context width (types.Kept a) value h = kept_passes rules a value h
