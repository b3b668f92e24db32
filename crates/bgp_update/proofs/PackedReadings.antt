-- Attributes are packed as they stand, where their numbers have four bytes.
use Rattle.std.proofs.Common.{◌≡◌, ℕ, ◌*◌, ◌/◌, ◌%◌, ◌^◌, ◌<◌, ◌≤◌, Bool, true, false, cond, eqb, List, [], ◌∷◌, ◌++◌, length, length-append, Option, Some, None, Result, Ok, refl, sym, ap, subst, ◌∙◌, arith}
use Rattle.std.specs.List.{flat_map, AllByRecursion}
use Rattle.std.proofs.lemmas.List.Concat.{flat_map-cons}
use Rattle.byteorder.specs.Endian.{big_bytes}
use Rattle.byteorder.specs.Numbers.{length-bytes_high_first}
use Rattle.std.specs.Prelude.{IfSome, is_some}
use Rattle.std.specs.Option.{option_and_then, unwrap_or}
use Rattle.std.specs.Result.{result_ok}
use Rattle.mrt_frame.specs.declared.fault.Fault.{Fault}
use Rattle.mrt_frame.proofs.FieldLaws.{IsBytes}
use Rattle.bgp_update.specs.Families.{FamilyOf, RouteRules, route_rules_of}
use Rattle.bgp_update.specs.declared.attribute_type.AttributeType.{AttributeType}
use Rattle.bgp_update.specs.declared.attribute_type.AttributeType.TheVariants.{Origin, AsPath, NextHop as AsNextHop, MultiExitDisc, LocalPref, AtomicAggregate, Aggregator, MpReachNlri, MpUnreachNlri, As4Path, As4Aggregator, Kept}
use Rattle.bgp_update.specs.declared.kept_attribute.KeptAttribute.{KeptAttribute}
use Rattle.bgp_update.specs.declared.kept_attribute.AttributeSet.{AttributeSet}
use Rattle.bgp_update.specs.KeptAttributes.{KeptValue, all_kept, no_attributes, asked_item, has, kept_item}
use Rattle.bgp_update.specs.KeptBytes.{AreKeptBytes, IsShort, FitsKept, kept_item_bytes, kept_bytes, spelled_values}
use Rattle.bgp_update.specs.declared.next_hop.NextHop.{NextHop}
use Rattle.bgp_update.specs.Hops.{by_hop}
use Rattle.bgp_update.specs.declared.width.Width.{Width}
use Rattle.bgp_update.specs.declared.width.Width.TheVariants.{Two, Four}
use Rattle.bgp_update.specs.declared.attribute_context.AttributeContext.{AttributeContext}
use Rattle.bgp_update.specs.declared.attribute_context.AttributeContext.TheVariants.{RibEntry, Message}
use Rattle.bgp_update.specs.declared.values.FirstValues.{FirstValues}
use Rattle.bgp_update.specs.declared.asked_values.AskedValues.{AskedValues}
use Rattle.bgp_update.specs.declared.route.Route.{Route}
use Rattle.bgp_update.specs.Paths.{PathSegment}
use Rattle.bgp_update.specs.Segments.{path_of_value}
use Rattle.bgp_update.specs.Attributes.{WrittenAttribute, FitsAttribute, has_type, value_of, attributes_in, IsFormed, next_hop_value, path_from, route_from, entry_route}
use Rattle.bgp_update.specs.Multiprotocol.{entry_hop}
use Rattle.bgp_update.specs.Values.{Values, AreShort, CanPackKept, all_values, asked_value, kept_entry_route, kept_route, kept_value, plain_rules, values_asked, keys_fault, unless_fault, KeepsFirst}
use Rattle.bgp_update.specs.Packing.{WritesPath, WritesRoute, kept_part, IsSpelled, spelled_path, IsWritable, HaveWidths, front_bytes, path_part}
use Rattle.bgp_update.proofs.KeptLaws.{kept-bytes, spelled_values-bytes}
use Rattle.bgp_update.proofs.SegmentLaws.{path_in-bytes}
use Rattle.bgp_update.proofs.AttributeLaws.{attributes_in-is, values_fine}
use Rattle.bgp_update.proofs.FromFirstValues.{route_from_same}
use Rattle.bgp_update.proofs.Packings.{path_behind, kept_behind, spelled-bytes}
use Rattle.bgp_update.proofs.Packable.{said_writable}

pub spelled_if : (rules : RouteRules) (context : AttributeContext) (o : Option (List ℕ)) → IfSome o (IsFormed rules context Four AsPath) → IfSome o IsSpelled
spelled_if rules context None h = tt
spelled_if rules context (Some value) h = subst IsSpelled (sym h.2) (spelled-bytes h.0 h.1)

-- without a fault of keys these are the attributes of the field
whole : (rules : RouteRules) (context : AttributeContext) (width : Width) (bytes : List ℕ) (values : Values) → keys_fault rules.family context values ≡ None → (keeps : KeepsFirst rules context width bytes values) → attributes_in rules context width bytes ≡ Ok keeps.0
whole rules context width bytes values fine keeps = keeps.1 ∙ ap (λ (o : Option Fault). unless_fault o (Ok keeps.0)) fine

pub keeps_spelled : (rules : RouteRules) (context : AttributeContext) (width : Width) (bytes : List ℕ) (values : Values) → IsBytes bytes → keys_fault rules.family context values ≡ None → KeepsFirst rules context width bytes values → width ≡ Four → IfSome (values AsPath) IsSpelled
keeps_spelled rules context width bytes values fine keys keeps e =
    let four : KeepsFirst rules context Four bytes values = subst (λ (w : Width). KeepsFirst rules context w bytes values) e keeps in
    let law = attributes_in-is rules context Four bytes four.0 fine (whole rules context Four bytes values keys four) in
    subst (λ (o : Option (List ℕ)). IfSome o IsSpelled) (sym (four.2 AsPath refl)) (spelled_if rules context (value_of AsPath four.0) (law.1.formed AsPath))

pub keeps_writable : (rules : RouteRules) (context : AttributeContext) (width : Width) (bytes : List ℕ) (values : Values) → IsBytes bytes → keys_fault rules.family context values ≡ None → KeepsFirst rules context width bytes values → IsWritable (path_from width values)
unfolding route_from
keeps_writable rules context width bytes values fine keys keeps =
    let law = attributes_in-is rules context width bytes keeps.0 fine (whole rules context width bytes values keys keeps) in
    let written : IsWritable (route_from rules.kept width (λ t. value_of t keeps.0)).path = said_writable rules.kept width (λ t. value_of t keeps.0) (λ t. values_fine t keeps.0 (subst IsBytes law.0 fine)) in
    subst (λ (r : Route). IsWritable r.path) (sym (route_from_same rules.kept width values (λ t. value_of t keeps.0) keeps.2)) written

spelled_is : (value : List ℕ) → IsSpelled value → path_of_value 4 value ≡ Some (spelled_path value)
spelled_is value h = ap (λ (v : List ℕ). path_of_value 4 v) h.written ∙ ap result_ok (path_in-bytes Four (spelled_path value) h.fits)

-- the path of an AS_PATH, and its bytes
abbrev four : Option (List ℕ) → Option (List PathSegment)
four o = option_and_then (path_of_value 4) o

four_there : (o : Option (List ℕ)) → IfSome o IsSpelled → is_some o ≡ is_some (four o)
four_there None h = refl
four_there (Some value) h = ap is_some (sym (spelled_is value h))

four_bytes : (o : Option (List ℕ)) → IfSome o IsSpelled → unwrap_or o [] ≡ path_part (four o)
four_bytes None h = refl
four_bytes (Some value) h = h.written ∙ ap path_part (sym (spelled_is value h))

-- what stands in front of the path comes, and then the path as it is written
pub four_route : (first : FirstValues) (kept : List KeptValue) (hop : Option NextHop) (o : Option (List ℕ)) (b : Bool) (old mid new : List ℕ) → CanPackKept Four first → HaveWidths (by_hop (kept_route Four first kept) hop)
    → o ≡ kept_value first AsPath → b ≡ is_some o → mid ≡ old ++ front_bytes (by_hop (kept_route Four first kept) hop) b → new ≡ mid ++ unwrap_or o [] → WritesPath old new (by_hop (kept_route Four first kept) hop)
unfolding route_from
four_route first kept hop o b old mid new can widths o-is b-is start end =
    let r : Route = by_hop (kept_route Four first kept) hop in
    let h : IfSome (kept_value first AsPath) IsSpelled = can.four refl in
    let there : b ≡ is_some r.path = b-is ∙ ap is_some o-is ∙ four_there (kept_value first AsPath) h in
    let path : unwrap_or o [] ≡ path_part r.path = ap (λ (x : Option (List ℕ)). unwrap_or x []) o-is ∙ four_bytes (kept_value first AsPath) h in
    path_behind r b r.path old mid new widths there refl start (end ∙ ap (λ (xs : List ℕ). mid ++ xs) path)

-- ---- what is kept

fits_item : (kept : AskedValues) (a : KeptAttribute) → AreShort kept → AllByRecursion FitsKept (asked_item kept.asked (asked_value kept) a)
fits_item kept a short = by_test (has kept.asked a) refl (asked_value kept a) refl
  where
    by_test : (b : Bool) → has kept.asked a ≡ b → (o : Option (List ℕ)) → asked_value kept a ≡ o → AllByRecursion FitsKept (cond b (kept_item a o) [])
    by_test false e o is = tt
    by_test true e None is = tt
    by_test true e (Some value) is = (subst (λ (x : Option (List ℕ)). IfSome x IsShort) is (short a e), tt)

joined : {A : Type 0} (P : A → Type 0) (xs ys : List A) → AllByRecursion P xs → AllByRecursion P ys → AllByRecursion P (xs ++ ys)
joined P [] ys h k = k
joined P (x ∷ xs) ys h k = (h.0, joined P xs ys h.1 k)

-- the values that are kept can be packed
all_fit : (kept : AskedValues) (xs : List KeptAttribute) → AreShort kept → AllByRecursion FitsKept (flat_map (asked_item kept.asked (asked_value kept)) xs)
all_fit kept [] short = tt
all_fit kept (x ∷ xs) short =
    let item = asked_item kept.asked (asked_value kept) in
    subst (AllByRecursion FitsKept) (sym (flat_map-cons item x xs)) (joined FitsKept (item x) (flat_map item xs) (fits_item kept x short) (all_fit kept xs short))

few_bytes : (ks : List KeptValue) → AllByRecursion FitsKept ks → length (kept_bytes ks) ≤ length ks * 65538
few_bytes [] h = omega arith
few_bytes (k ∷ ks) h =
    omega (arith, ap length (flat_map-cons kept_item_bytes k ks), length-append (kept_item_bytes k) (kept_bytes ks), length-append (big_bytes 2 (length k.value)) k.value, length-bytes_high_first 2 (length k.value), h.0, few_bytes ks h.1)

few_items : (kept : AskedValues) (xs : List KeptAttribute) → length (flat_map (asked_item kept.asked (asked_value kept)) xs) ≤ length xs
few_items kept [] = omega arith
few_items kept (x ∷ xs) =
    let item = asked_item kept.asked (asked_value kept) in
    omega (arith, ap length (flat_map-cons item x xs), length-append (item x) (flat_map item xs), one (has kept.asked x) (asked_value kept x), few_items kept xs)
  where
    one : (b : Bool) (o : Option (List ℕ)) → length (cond b (kept_item x o) []) ≤ 1
    one false o = omega arith
    one true None = omega arith
    one true (Some value) = omega arith

kept_fit : (kept : AskedValues) → AreShort kept → AllByRecursion FitsKept (values_asked kept)
kept_fit kept short = all_fit kept all_kept short

kept_few : (kept : AskedValues) → AreShort kept → length (kept_bytes (values_asked kept)) < 256 ^ 4
kept_few kept short = omega (arith, few_bytes (values_asked kept) (kept_fit kept short), few_items kept all_kept)

-- bytes behind none that were written of values spell them
pub written_kept : (kept : AskedValues) {none bytes : List ℕ} → AreShort kept → none ≡ [] → bytes ≡ none ++ kept_bytes (values_asked kept) → AreKeptBytes bytes × (spelled_values bytes ≡ values_asked kept)
written_kept kept {none} {bytes} short nothing written =
    let ks = values_asked kept in
    let fits = kept_fit kept short in
    let is : bytes ≡ kept_bytes ks = written ∙ ap (λ (xs : List ℕ). xs ++ kept_bytes ks) nothing in
    (subst AreKeptBytes (sym is) (kept-bytes ks fits (kept_few kept short)), ap spelled_values is ∙ spelled_values-bytes ks fits)

-- the whole route
pub whole_route : (width : Width) (first : FirstValues) (kept : List KeptValue) (hop : Option NextHop) (old mid new : List ℕ) → CanPackKept width first → AllByRecursion FitsKept kept → length (kept_bytes kept) < 256 ^ 4
    → WritesPath old mid (by_hop (kept_route width first kept) hop) → new ≡ mid ++ kept_part kept → WritesRoute old new (by_hop (kept_route width first kept) hop)
unfolding route_from
whole_route width first kept hop old mid new can fit few path second = kept_behind (by_hop (kept_route width first kept) hop) old mid new path can.writable fit few second

-- values of attributes that fit are short
pub values_short : (t : AttributeType) (attributes : List WrittenAttribute) → AllByRecursion FitsAttribute attributes → IfSome (value_of t attributes) IsShort
values_short t [] fit = tt
values_short t (a ∷ attributes) fit =
    elim (has_type t a) as (λ b. IfSome (cond b (Some a.value) (value_of t attributes)) IsShort) [
      | true ↦ short (eqb (a.flags / 16 % 2) 1) fit.0.value
      | false ↦ values_short t attributes fit.1
    ]
  where
    short : (b : Bool) → length a.value < 256 ^ cond b 2 1 → IsShort a.value
    short true h = h
    short false h = omega (arith, h)

pub no_values : (first : FirstValues) (kept : AskedValues) → ((t : AttributeType) → kept_value first t ≡ None) → ((a : KeptAttribute) → asked_value kept a ≡ None) → (t : AttributeType) → all_values first kept t ≡ None
no_values first kept none none_asked (Kept a) = none_asked a
no_values first kept none none_asked Origin = none Origin
no_values first kept none none_asked AsPath = none AsPath
no_values first kept none none_asked AsNextHop = none AsNextHop
no_values first kept none none_asked MultiExitDisc = none MultiExitDisc
no_values first kept none none_asked LocalPref = none LocalPref
no_values first kept none none_asked AtomicAggregate = none AtomicAggregate
no_values first kept none none_asked Aggregator = none Aggregator
no_values first kept none none_asked MpReachNlri = none MpReachNlri
no_values first kept none none_asked MpUnreachNlri = none MpUnreachNlri
no_values first kept none none_asked As4Path = none As4Path
no_values first kept none none_asked As4Aggregator = none As4Aggregator

-- a fault of keys is one of values that are kept in any case
pub all_keys : (family : FamilyOf) (context : AttributeContext) (first : FirstValues) (kept : AskedValues) → keys_fault family context (all_values first kept) ≡ keys_fault family context (kept_value first)
all_keys family RibEntry first kept = refl
all_keys family (Message add_path) first kept = refl

pub by_first : (family : FamilyOf) (context : AttributeContext) (first : FirstValues) (kept : AskedValues) (total read : Result (List WrittenAttribute) Fault) → total ≡ unless_fault (keys_fault family context (all_values first kept)) read → total ≡ unless_fault (keys_fault family context (kept_value first)) read
by_first family context first kept total read h = h ∙ ap (λ (o : Option Fault). unless_fault o read) (all_keys family context first kept)

-- so is the path
pub all_path : (width : Width) (first : FirstValues) (kept : AskedValues) → path_from width (all_values first kept) ≡ path_from width (kept_value first)
all_path Two first kept = refl
all_path Four first kept = refl

pub keeps_short : (rules : RouteRules) (context : AttributeContext) (width : Width) (bytes : List ℕ) (first : FirstValues) (kept : AskedValues) → IsBytes bytes → keys_fault rules.family context (kept_value first) ≡ None → kept.asked ≡ rules.kept
    → KeepsFirst rules context width bytes (all_values first kept) → AreShort kept
keeps_short rules context width bytes first kept fine keys same keeps = λ a h.
    let law = attributes_in-is rules context width bytes keeps.0 fine (whole rules context width bytes (all_values first kept) (all_keys rules.family context first kept ∙ keys) keeps) in
    let asked : has rules.kept a ≡ true = ap (λ (set : AttributeSet). has set a) (sym same) ∙ h in
    subst (λ (o : Option (List ℕ)). IfSome o IsShort) (sym (keeps.2 (Kept a) asked)) (values_short (Kept a) keeps.0 law.1.fit)

-- the path of what is kept, by whichever next hop
pub path_of_kept : (width : Width) (first : FirstValues) (kept : List KeptValue) (hop : Option NextHop) (path : Option (List PathSegment)) → path ≡ path_from width (kept_value first) → (by_hop (kept_route width first kept) hop).path ≡ path
unfolding route_from
path_of_kept width first kept hop path e = sym e

pub path_flag_of_kept : (width : Width) (first : FirstValues) (kept : List KeptValue) (hop : Option NextHop) (path : Option (List PathSegment)) → path ≡ path_from width (kept_value first) → is_some (by_hop (kept_route width first kept) hop).path ≡ is_some path
path_flag_of_kept width first kept hop path e = ap is_some (path_of_kept width first kept hop path e)

-- by the next hop of NEXT_HOP a route is itself
pub by_own_hop : (width : Width) (first : FirstValues) (kept : List KeptValue) (hop : Option NextHop) → hop ≡ next_hop_value (kept_value first AsNextHop) → by_hop (kept_route width first kept) hop ≡ kept_route width first kept
unfolding route_from
by_own_hop width first kept hop e = ap (by_hop (kept_route width first kept)) e

-- ---- routes of values

-- where no attribute is asked for
pub plain_route : (width : Width) (first : FirstValues) → kept_route width first [] ≡ route_from no_attributes width (kept_value first)
unfolding route_from
plain_route width first = refl

-- where some are
pub asked_route : (width : Width) (first : FirstValues) (kept : AskedValues) → kept_route width first (values_asked kept) ≡ route_from kept.asked width (all_values first kept)
unfolding route_from
asked_route Two first kept = refl
asked_route Four first kept = refl

pub asked_is : (width : Width) (first : FirstValues) (kept : AskedValues) (asked : AttributeSet) → kept.asked ≡ asked → kept_route width first (values_asked kept) ≡ route_from asked width (all_values first kept)
asked_is width first kept asked e = asked_route width first kept ∙ ap (λ (s : AttributeSet). route_from s width (all_values first kept)) e

pub plain_entry : (family : FamilyOf) (width : Width) (first : FirstValues) → kept_entry_route family width first [] ≡ entry_route (plain_rules family) width (kept_value first)
unfolding entry_route
plain_entry family width first = ap (λ (r : Route). cond family.own_fields r (by_hop r (entry_hop family (kept_value first MpReachNlri)))) (plain_route width first)

pub asked_entry : (family : FamilyOf) (width : Width) (first : FirstValues) (kept : AskedValues) → kept_entry_route family width first (values_asked kept) ≡ entry_route (route_rules_of family kept.asked) width (all_values first kept)
unfolding entry_route
asked_entry family width first kept = ap (λ (r : Route). cond family.own_fields r (by_hop r (entry_hop family (kept_value first MpReachNlri)))) (asked_route width first kept)
