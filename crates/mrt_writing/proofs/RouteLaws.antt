-- A route that is written is read.
use Rattle.std.proofs.Common.{◌≡◌, ℕ, ◌+◌, ◌^◌, ◌<◌, ◌≤◌, ◌⊎◌, inl, inr, Bool, true, false, cond, eqb, ltb, List, [], ◌∷◌, ◌++◌, length, drop, take, Option, Some, None, Ok, Err, refl, sym, ap, subst, ◌∙◌, arith, append-nil, length-append}
use Rattle.std.specs.Prelude.{IfSome, option_map, count_by}
use Rattle.std.specs.List.{AllByRecursion, flat_map, cons_option}
use Rattle.std.proofs.lemmas.List.{take_at, drop_at}
use Rattle.std.proofs.lemmas.List.Sums.{sum_by-cons}
use Rattle.std.specs.Option.{option_and_then}
use Rattle.std.proofs.lemmas.Bool.{eqb-true, false≢true, ltb-false}
use Rattle.byteorder.specs.Endian.{big_bytes}
use Rattle.byteorder.specs.Numbers.{big_number-reads_back, length-bytes_high_first}
use Rattle.bgp_update.specs.declared.attribute_type.AttributeType.{AttributeType}
use Rattle.bgp_update.specs.declared.attribute_type.AttributeType.TheVariants as types
use Rattle.bgp_update.specs.declared.attribute_context.AttributeContext.TheVariants.{RibEntry}
use Rattle.bgp_update.specs.declared.width.Width.TheVariants.{Four}
use Rattle.bgp_update.specs.AttributeTypes.{type_code, type_of}
use Rattle.bgp_update.specs.Attributes.{WrittenAttribute, FitsAttribute, attribute_bytes, attributes_bytes, length_len, has_type, value_of, IsFormed}
use Rattle.bgp_update.proofs.TypeLaws.{type_again}
use Rattle.mrt_frame.specs.declared.fault.Fault.{Fault}
use Rattle.std.specs.Prelude.{is_some, OnOk, Result}
use Rattle.std.specs.Result.{result_ok}
use Rattle.bgp_update.specs.declared.attribute_context.AttributeContext.{AttributeContext}
use Rattle.bgp_update.specs.declared.next_hop.NextHop.{NextHop}
use Rattle.bgp_update.specs.declared.next_hop.NextHop.TheVariants.{V4, V6, V6Pair}
use Rattle.bgp_update.specs.declared.route.Origin.{Origin}
use Rattle.bgp_update.specs.declared.route.Origin.TheVariants.{Igp}
use Rattle.bgp_update.specs.declared.route.Aggregator.{Aggregator}
use Rattle.bgp_update.specs.declared.route.Route.{Route}
use Rattle.bgp_update.specs.Paths.{PathSegment}
use Rattle.bgp_update.specs.declared.kept_attribute.AttributeSet.{AttributeSet}
use Rattle.bgp_update.specs.declared.kept_attribute.KeptAttribute.{KeptAttribute}
use Rattle.bgp_update.specs.declared.kept_attribute.KeptAttribute.TheVariants.{Communities}
use Rattle.bgp_update.specs.KeptBytes.{IsShort}
use Rattle.bgp_update.specs.KeptAttributes.{IsKeptValue, has, kept_code, value_kept}
use Rattle.bgp_update.specs.Families.{FamilyOf, RouteRules}
use Rattle.bgp_update.specs.Hops.{by_hop}
use Rattle.bgp_update.specs.Equality.{origin_number}
use Rattle.bgp_update.specs.Merging.{aggregator_of}
use Rattle.bgp_update.specs.Segments.{IsPath, path_bytes, path_of_value}
use Rattle.bgp_update.specs.Multiprotocol.{FitsHop, SaysEntryHop}
use Rattle.bgp_update.specs.Packing.{CanPack, FitsAggregator, aggregator_bytes}
use Rattle.bgp_update.specs.Attributes.{HoldsReach, HoldsEntryHop, origin_of, number_value, next_hop_value, route_from, SaysRoute, ReadsAsRoute, route_in}
use Rattle.bgp_update.proofs.SegmentLaws.{path_in-bytes}
use Rattle.bgp_update.proofs.FromFirstValues.{route_from_same}
use Rattle.bgp_update.proofs.UpdateLaws.{route_again}
use Rattle.mrt_writing.specs.RouteAttributes.{AppendsWithin, type_flags, extended_flag, attribute_of, types_in_order, attributes_by, atomic_value, route_values, own_hop, entry_reach, entry_values, entry_attributes, HasEntryHop, FitsEntryRoute, IsKeptBy, value_bytes}

-- ---- values by types

abbrev Values : Type 0
Values = AttributeType → Option (List ℕ)

-- types of one code are one
same_type : (t u : AttributeType) → type_code t ≡ type_code u → t ≡ u
same_type t u e = some_is (sym (type_again t) ∙ ap type_of e ∙ type_again u)
  where
    some_is : Some t ≡ Some u → t ≡ u
    some_is h = cc

-- how many of these types are this one
abbrev times : AttributeType → List AttributeType → ℕ
times t ts = count_by (λ u. eqb (type_code u) (type_code t)) ts

abbrev if_in : Bool → Option (List ℕ) → Option (List ℕ)
if_in b o = cond b o None

abbrev is_in : AttributeType → List AttributeType → Bool
is_in t [] = false
is_in t (u ∷ ts) = cond (eqb (type_code u) (type_code t)) true (is_in t ts)

-- the attributes, where the first type has this value
abbrev with_attribute : AttributeType → Option (List ℕ) → List WrittenAttribute → List WrittenAttribute
with_attribute t o others = cons_option (option_map (attribute_of t) o) others

none_in : (b : Bool) → if_in b None ≡ None
none_in true = refl
none_in false = refl

-- the first value of a type is its value, if it is one of these types
value_by : (value_at : Values) (t : AttributeType) (ts : List AttributeType) → value_of t (attributes_by value_at ts) ≡ if_in (is_in t ts) (value_at t)
value_by value_at t [] = refl
value_by value_at t (u ∷ ts) = by_both (value_by value_at t ts) (eqb (type_code u) (type_code t)) refl (value_at u) refl
  where
    own : eqb (type_code u) (type_code t) ≡ true → value_at u ≡ value_at t
    own h = ap value_at (same_type u t (eqb-true (type_code u) (type_code t) h))

    by_both : value_of t (attributes_by value_at ts) ≡ if_in (is_in t ts) (value_at t) → (b : Bool) → eqb (type_code u) (type_code t) ≡ b → (o : Option (List ℕ)) → value_at u ≡ o
        → value_of t (with_attribute u o (attributes_by value_at ts)) ≡ if_in (cond b true (is_in t ts)) (value_at t)
    by_both more true h None e = more ∙ ap (if_in (is_in t ts)) (sym (own h) ∙ e) ∙ none_in (is_in t ts) ∙ sym e ∙ own h
    by_both more true h (Some value) e = ap (λ (b : Bool). cond b (Some value) (value_of t (attributes_by value_at ts))) h ∙ sym e ∙ own h
    by_both more false h None e = more
    by_both more false h (Some value) e = ap (λ (b : Bool). cond b (Some value) (value_of t (attributes_by value_at ts))) h ∙ more

-- each type is among those
all_in : (t : AttributeType) → is_in t types_in_order ≡ true
all_in (types.Kept Communities) = refl
all_in (types.Kept a) = refl
all_in types.Origin = refl
all_in t = refl

pub value_in_order : (value_at : Values) (t : AttributeType) → value_of t (attributes_by value_at types_in_order) ≡ value_at t
value_in_order value_at t = value_by value_at t types_in_order ∙ ap (λ (b : Bool). if_in b (value_at t)) (all_in t)

-- ---- each type once

tick_most : (b : Bool) (n : ℕ) → cond b 1 0 ≤ 1
tick_most true n = omega arith
tick_most false n = omega arith

count_by_types : (value_at : Values) (t : AttributeType) (ts : List AttributeType) → count_by (has_type t) (attributes_by value_at ts) ≤ times t ts
count_by_types value_at t [] = omega arith
count_by_types value_at t (u ∷ ts) = by_value (count_by_types value_at t ts) (value_at u)
  where
    of_types : times t (u ∷ ts) ≡ cond (eqb (type_code u) (type_code t)) 1 0 + times t ts
    of_types = sum_by-cons (λ (v : AttributeType). cond (eqb (type_code v) (type_code t)) 1 0) u ts

    by_value : count_by (has_type t) (attributes_by value_at ts) ≤ times t ts → (o : Option (List ℕ)) → count_by (has_type t) (with_attribute u o (attributes_by value_at ts)) ≤ times t (u ∷ ts)
    by_value more None = omega (arith, of_types, more)
    by_value more (Some value) =
        omega (arith, of_types, more, sum_by-cons (λ (a : WrittenAttribute). cond (has_type t a) 1 0) (attribute_of u value) (attributes_by value_at ts))

once_in : (t : AttributeType) → times t types_in_order ≡ 1
once_in (types.Kept Communities) = refl
once_in (types.Kept a) = refl
once_in types.Origin = refl
once_in t = refl

pub once_in_order : (value_at : Values) (t : AttributeType) → count_by (has_type t) (attributes_by value_at types_in_order) ≤ 1
once_in_order value_at t = omega (arith, count_by_types value_at t types_in_order, once_in t)

-- ---- lengths

code-lt : (t : AttributeType) → type_code t < 256
code-lt (types.Kept Communities) = omega arith
code-lt (types.Kept a) = omega arith
code-lt types.Origin = omega arith
code-lt t = omega arith

flags-lt : (t : AttributeType) (b : Bool) → type_flags t + extended_flag b < 256
flags-lt (types.Kept Communities) true = omega arith
flags-lt (types.Kept Communities) false = omega arith
flags-lt (types.Kept a) true = omega arith
flags-lt (types.Kept a) false = omega arith
flags-lt types.Origin true = omega arith
flags-lt types.Origin false = omega arith
flags-lt t true = omega arith
flags-lt t false = omega arith

length_len-is : (t : AttributeType) (b : Bool) → length_len (type_flags t + extended_flag b) ≡ cond b 2 1
length_len-is (types.Kept Communities) true = refl
length_len-is (types.Kept Communities) false = refl
length_len-is (types.Kept a) true = refl
length_len-is (types.Kept a) false = refl
length_len-is types.Origin true = refl
length_len-is types.Origin false = refl
length_len-is t true = refl
length_len-is t false = refl

-- a value of less than 65,536 bytes fits
attribute_fits : (t : AttributeType) (value : List ℕ) → length value < 256 ^ 2 → FitsAttribute (attribute_of t value)
attribute_fits t value short = record { flags = flags-lt t (ltb 255 (length value)); code = code-lt t; value = by_len (ltb 255 (length value)) refl }
  where
    by_len : (b : Bool) → ltb 255 (length value) ≡ b → length value < 256 ^ length_len (type_flags t + extended_flag b)
    by_len true h = subst (λ (n : ℕ). length value < 256 ^ n) (sym (length_len-is t true)) short
    by_len false h = subst (λ (n : ℕ). length value < 256 ^ n) (sym (length_len-is t false)) (omega (arith, ltb-false _ _ h))

value-shorter : (a : WrittenAttribute) → length a.value ≤ length (attribute_bytes a)
value-shorter a = omega (arith, length-append (big_bytes (length_len a.flags) (length a.value)) a.value)

-- each fits where all are short
pub all_fit : (value_at : Values) (ts : List AttributeType) (n : ℕ) → length (attributes_bytes (attributes_by value_at ts)) ≤ n → n < 256 ^ 2 → AllByRecursion FitsAttribute (attributes_by value_at ts)
all_fit value_at [] n le short = tt
all_fit value_at (t ∷ ts) n le short = by_value (λ less. all_fit value_at ts n less short) (value_at t) refl
  where
    by_value : (length (attributes_bytes (attributes_by value_at ts)) ≤ n → AllByRecursion FitsAttribute (attributes_by value_at ts)) → (o : Option (List ℕ)) → value_at t ≡ o → AllByRecursion FitsAttribute (with_attribute t o (attributes_by value_at ts))
    by_value more None e = more (subst (λ (o : Option (List ℕ)). length (attributes_bytes (with_attribute t o (attributes_by value_at ts))) ≤ n) e le)
    by_value more (Some value) e =
        let a = attribute_of t value in
        let long : length (attribute_bytes a ++ attributes_bytes (attributes_by value_at ts)) ≤ n = subst (λ (o : Option (List ℕ)). length (attributes_bytes (with_attribute t o (attributes_by value_at ts))) ≤ n) e le in
        let parts : length (attribute_bytes a ++ attributes_bytes (attributes_by value_at ts)) ≡ length (attribute_bytes a) + length (attributes_bytes (attributes_by value_at ts)) = length-append (attribute_bytes a) (attributes_bytes (attributes_by value_at ts)) in
        (attribute_fits t value (omega (arith, long, parts, value-shorter a, short)), more (omega (arith, long, parts)))

-- ---- values of a route

origin_formed : (o : Option Origin) → IfSome (option_map (λ (origin : Origin). origin_number origin ∷ []) o) (λ value. (origin : Origin) × (value ≡ origin_number origin ∷ []))
origin_formed None = tt
origin_formed (Some origin) = (origin, refl)

path_formed : (o : Option (List PathSegment)) → IfSome o (IsPath 4) → IfSome (option_map (path_bytes 4) o) (λ value. (path : List PathSegment) × IsPath 4 path × (value ≡ path_bytes 4 path))
path_formed None h = tt
path_formed (Some path) h = (path, h, refl)

number_formed : (o : Option ℕ) → IfSome (option_map (big_bytes 4) o) (λ value. length value ≡ 4)
number_formed None = tt
number_formed (Some n) = length-bytes_high_first 4 n

atomic_formed : (b : Bool) → IfSome (atomic_value b) (λ value. length value ≡ 0)
atomic_formed true = refl
atomic_formed false = tt

aggregator_formed : (o : Option Aggregator) → IfSome (option_map (λ (a : Aggregator). aggregator_bytes (Some a)) o) (λ value. (length value ≡ 6) ⊎ (length value ≡ 8))
aggregator_formed None = tt
aggregator_formed (Some a) = inr (omega (arith, length-append (big_bytes 4 a.asn) (big_bytes 4 a.addr), length-bytes_high_first 4 a.asn, length-bytes_high_first 4 a.addr))

kept_is_formed : (asked : Bool) (a : KeptAttribute) (o : Option (List ℕ)) → (asked ≡ true → IfSome o (IsKeptValue a)) → IfSome o (λ value. asked ≡ true → IsKeptValue a value)
kept_is_formed asked a None h = tt
kept_is_formed asked a (Some value) h = h

pub values_formed : (rules : RouteRules) (context : AttributeContext) (own reach : Option (List ℕ)) (r : Route) → CanPack r → IsKeptBy rules.kept r.kept → IfSome own (λ value. length value ≡ 4) → IfSome reach (HoldsReach rules.family context) → (t : AttributeType) → IfSome (route_values own reach r t) (IsFormed rules context Four t)
values_formed rules context own reach r packs kept own_is reach_is types.Origin = origin_formed r.origin
values_formed rules context own reach r packs kept own_is reach_is types.AsPath = path_formed r.path packs.path
values_formed rules context own reach r packs kept own_is reach_is types.NextHop = own_is
values_formed rules context own reach r packs kept own_is reach_is types.MultiExitDisc = number_formed r.med
values_formed rules context own reach r packs kept own_is reach_is types.LocalPref = number_formed r.local_pref
values_formed rules context own reach r packs kept own_is reach_is types.AtomicAggregate = atomic_formed r.atomic
values_formed rules context own reach r packs kept own_is reach_is types.Aggregator = aggregator_formed r.aggregator
values_formed rules context own reach r packs kept own_is reach_is types.MpReachNlri = reach_is
values_formed rules context own reach r packs kept own_is reach_is types.MpUnreachNlri = tt
values_formed rules context own reach r packs kept own_is reach_is types.As4Path = tt
values_formed rules context own reach r packs kept own_is reach_is types.As4Aggregator = tt
values_formed rules context own reach r packs kept own_is reach_is (types.Kept a) = kept_is_formed (has rules.kept a) a (value_kept (kept_code a) r.kept) (kept.formed a)

origin_said : (o : Option Origin) → option_and_then origin_of (option_map (λ (origin : Origin). origin_number origin ∷ []) o) ≡ o
origin_said None = refl
origin_said (Some Igp) = refl
origin_said (Some origin) = refl

path_said : (o : Option (List PathSegment)) → IfSome o (IsPath 4) → option_and_then (path_of_value 4) (option_map (path_bytes 4) o) ≡ o
path_said None h = refl
path_said (Some path) h = ap (λ (r : Result (List PathSegment) Fault). result_ok r) (path_in-bytes Four path h)

number_said : (o : Option ℕ) → IfSome o (λ n. n < 256 ^ 4) → number_value (option_map (big_bytes 4) o) ≡ o
number_said None h = refl
number_said (Some n) h = ap (λ (m : ℕ). Some m) (big_number-reads_back 4 n [] h)

atomic_said : (b : Bool) → is_some (atomic_value b) ≡ b
atomic_said true = refl
atomic_said false = refl

aggregator_said : (o : Option Aggregator) → IfSome o FitsAggregator → option_and_then aggregator_of (option_map (λ (a : Aggregator). aggregator_bytes (Some a)) o) ≡ o
aggregator_said None h = refl
aggregator_said (Some a) h = λ i. Some (record { asn = big_number-reads_back 4 a.asn (big_bytes 4 a.addr) h.asn i; addr = big_number-reads_back 4 a.addr [] h.addr i })

-- what the values of a route say is the route, but for its next hop
pub values_said : (asked : AttributeSet) (own reach : Option (List ℕ)) (r : Route) → CanPack r → IsKeptBy asked r.kept → route_from asked Four (route_values own reach r) ≡ by_hop r (next_hop_value own)
unfolding route_from
values_said asked own reach r packs kept = λ i. record {
  next_hop = next_hop_value own;
  path = path_said r.path packs.path i;
  med = number_said r.med packs.fields.med i;
  local_pref = number_said r.local_pref packs.fields.local_pref i;
  aggregator = aggregator_said r.aggregator packs.fields.aggregator i;
  origin = origin_said r.origin i;
  atomic = atomic_said r.atomic i;
  kept = kept.values i;
}

-- ---- a RIB entry

own_formed : (own : Bool) (hop : Option NextHop) → HasEntryHop own hop → IfSome (own_hop own hop) (λ value. length value ≡ 4)
own_formed false hop h = tt
own_formed true None h = tt
own_formed true (Some (V4 addr)) h = length-bytes_high_first 4 addr
own_formed true (Some (V6 addr)) h = absurd h
own_formed true (Some (V6Pair addr link)) h = absurd h

reach_formed : (own : Bool) (family : FamilyOf) (hop : Option NextHop) → IfSome hop FitsHop → IfSome (entry_reach own hop) (HoldsEntryHop own family)
reach_formed true family hop fits = tt
reach_formed false family None fits = tt
reach_formed false family (Some hop) fits = (Some hop, inl (record { fits = fits; spelled = refl }))

own_said : (hop : Option NextHop) → HasEntryHop true hop → IfSome hop FitsHop → next_hop_value (own_hop true hop) ≡ hop
own_said None h fits = refl
own_said (Some (V4 addr)) h fits = ap (λ (n : ℕ). Some (V4 n)) (big_number-reads_back 4 addr [] fits)
own_said (Some (V6 addr)) h fits = absurd h
own_said (Some (V6Pair addr link)) h fits = absurd h

reach_said : (family : FamilyOf) (hop : Option NextHop) → IfSome hop FitsHop → SaysEntryHop family (entry_reach false hop) hop
reach_said family None fits = refl
reach_said family (Some hop) fits = inl (record { fits = fits; spelled = refl })

entry_said : (own : Bool) (rules : RouteRules) (r : Route) (attributes : List WrittenAttribute) → CanPack r → IsKeptBy rules.kept r.kept → HasEntryHop own r.next_hop
    → ((t : AttributeType) → value_of t attributes ≡ route_values (own_hop own r.next_hop) (entry_reach own r.next_hop) r t) → SaysRoute own rules Four attributes r
entry_said true rules r attributes packs kept h same =
    sym (route_from_same rules.kept Four (λ t. value_of t attributes) (route_values (own_hop true r.next_hop) None r) (λ t looked. same t) ∙ values_said rules.kept (own_hop true r.next_hop) None r packs kept ∙ ap (by_hop r) (own_said r.next_hop h packs.fields.next_hop))
entry_said false rules r attributes packs kept h same = (
  r.next_hop,
  subst (λ (o : Option (List ℕ)). SaysEntryHop rules.family o r.next_hop) (sym (same types.MpReachNlri)) (reach_said rules.family r.next_hop packs.fields.next_hop),
  sym (ap (λ (q : Route). by_hop q r.next_hop) (route_from_same rules.kept Four (λ t. value_of t attributes) (route_values None (entry_reach false r.next_hop) r) (λ t looked. same t) ∙ values_said rules.kept None (entry_reach false r.next_hop) r packs kept)),
)

pub entry_reads : (rules : RouteRules) (r : Route) → FitsEntryRoute rules r → ReadsAsRoute rules Four (attributes_bytes (entry_attributes rules.family r)) r
unfolding entry_attributes
entry_reads rules r h =
    let family = rules.family in
    let attributes : List WrittenAttribute = attributes_by (entry_values family r) types_in_order in
    let same = value_in_order (entry_values family r) in
    record {
      attributes = attributes;
      formed = record {
        fit = all_fit (entry_values family r) types_in_order (length (attributes_bytes attributes)) (omega arith) h.short;
        formed = λ t. subst (λ (o : Option (List ℕ)). IfSome o (IsFormed rules RibEntry Four t)) (sym (same t))
            (values_formed rules RibEntry (own_hop family.own_fields r.next_hop) (entry_reach family.own_fields r.next_hop) r h.packs h.kept (own_formed family.own_fields r.next_hop h.hop) (reach_formed family.own_fields family r.next_hop h.packs.fields.next_hop) t);
        once = λ t refused. once_in_order (entry_values family r) t;
      };
      spelled = refl;
      said = entry_said family.own_fields rules r attributes h.packs h.kept h.hop same;
    }

-- a route that fits is given back
pub entry_again : (rules : RouteRules) (r : Route) → FitsEntryRoute rules r → route_in rules Four (attributes_bytes (entry_attributes rules.family r)) ≡ Ok r
entry_again rules r h = route_again rules Four (attributes_bytes (entry_attributes rules.family r)) r (entry_reads rules r h)

-- ---- one type after the other

by_types : (value_at : Values) (ts : List AttributeType) → attributes_bytes (attributes_by value_at ts) ≡ flat_map (λ (t : AttributeType). value_bytes t (value_at t)) ts
by_types value_at [] = refl
by_types value_at (t ∷ ts) = by_value (value_at t) (by_types value_at ts)
  where
    by_value : (o : Option (List ℕ)) → attributes_bytes (attributes_by value_at ts) ≡ flat_map (λ (u : AttributeType). value_bytes u (value_at u)) ts
        → attributes_bytes (with_attribute t o (attributes_by value_at ts)) ≡ value_bytes t o ++ flat_map (λ (u : AttributeType). value_bytes u (value_at u)) ts
    by_value None more = more
    by_value (Some value) more = ap (λ (l : List ℕ). attribute_bytes (attribute_of t value) ++ l) more

-- what was appended type by type is the field of all types
pub fields_written : (value_at : AttributeType → Option (List ℕ)) (old new : List ℕ) → new ≡ old ++ flat_map (λ t. value_bytes t (value_at t)) types_in_order → new ≡ old ++ attributes_bytes (attributes_by value_at types_in_order)
fields_written value_at old new e = e ∙ ap (λ (l : List ℕ). old ++ l) (sym (by_types value_at types_in_order))

-- the same of what was appended unless there was an error
pub fields_on_ok : {A E : Type 0} (r : Result A E) (value_at : AttributeType → Option (List ℕ)) (old new : List ℕ)
    → OnOk r (new ≡ old ++ flat_map (λ t. value_bytes t (value_at t)) types_in_order) → OnOk r (new ≡ old ++ attributes_bytes (attributes_by value_at types_in_order))
fields_on_ok (Ok x) value_at old new h = fields_written value_at old new h
fields_on_ok (Err e) value_at old new h = tt

-- a value of the path that is as short as the path's own
pub path_fits : (value own : Option (List ℕ)) → value ≡ own → IfSome own IsShort → IfSome value IsShort
path_fits value own e h = subst (λ (o : Option (List ℕ)). IfSome o IsShort) (sym e) h

-- no path is longer than all attributes
pub path_within : (own reach : Option (List ℕ)) (r : Route) (most : ℕ) → most < 256 ^ 2 → length (attributes_bytes (attributes_by (route_values own reach r) types_in_order)) ≤ most → IfSome (option_map (path_bytes 4) r.path) IsShort
path_within own reach r most small le = by_path (option_map (path_bytes 4) r.path) refl
  where
    value_at : Values
    value_at = route_values own reach r

    front : List ℕ
    front = value_bytes types.Origin (value_at types.Origin)

    rest : List ℕ
    rest = flat_map (λ t. value_bytes t (value_at t)) (drop 2 types_in_order)

    whole : length (front ++ (value_bytes types.AsPath (option_map (path_bytes 4) r.path) ++ rest)) ≤ most
    whole = subst (λ (l : List ℕ). length l ≤ most) (by_types value_at types_in_order) le

    by_path : (o : Option (List ℕ)) → option_map (path_bytes 4) r.path ≡ o → IfSome o IsShort
    by_path None e = tt
    by_path (Some value) e =
        let a = attribute_of types.AsPath value in
        let long : length (front ++ (attribute_bytes a ++ rest)) ≤ most = subst (λ (o : Option (List ℕ)). length (front ++ (value_bytes types.AsPath o ++ rest)) ≤ most) e whole in
        omega (arith, small, long, length-append front (attribute_bytes a ++ rest), length-append (attribute_bytes a) rest, value-shorter a)

-- without a short path nothing is appended
pub path_too_long : (own reach : Option (List ℕ)) (r : Route) (most : ℕ) (old : List ℕ) → most < 256 ^ 2 → (IfSome (option_map (path_bytes 4) r.path) IsShort → ⊥)
    → AppendsWithin most (attributes_bytes (attributes_by (route_values own reach r) types_in_order)) old old false
path_too_long own reach r most old small long = record {
  test = (λ yes. absurd (false≢true yes), λ le. absurd (long (path_within own reach r most small le)));
  bytes = sym (append-nil old);
}

-- what stands behind the old bytes was appended to them
pub within_again : (most before : ℕ) (field old mid new : List ℕ) (fits : Bool) → before ≡ length old → mid ≡ old ++ field → AppendsWithin most (drop before mid) (take before mid) new fits → AppendsWithin most field old new fits
within_again most before field old mid new fits at e h =
    let front : take before mid ≡ old = ap (take before) e ∙ take_at old field before (sym at) in
    let rest : drop before mid ≡ field = ap (drop before) e ∙ drop_at old field before (sym at) in
    subst (λ (l : List ℕ). AppendsWithin most l old new fits) rest (subst (λ (l : List ℕ). AppendsWithin most (drop before mid) l new fits) front h)
