-- What is read can be packed: its numbers have their widths, and its path, merged or not, can be written.
use Rattle.std.proofs.Common.{◌≡◌, ℕ, zero, suc, ◌-◌, ◌^◌, ◌<◌, Bool, true, false, cond, eqb, List, [], ◌∷◌, ◌++◌, length, take, Option, Some, None, Result, Ok, Err, refl, sym, ap, subst, arith}
use Rattle.std.specs.Prelude.{IfSome, nat_le, nat_lt}
use Rattle.std.specs.List.{filter, AllByRecursion}
use Rattle.std.specs.Option.{option_and_then}
use Rattle.std.proofs.lemmas.Bool.{ltb-true}
use Rattle.std.proofs.lemmas.List.{length-take}
use Rattle.std.specs.Result.{result_ok}
use Rattle.byteorder.specs.Endian.{big_bytes}
use Rattle.mrt_frame.specs.declared.fault.Fault.{Fault}
use Rattle.mrt_frame.proofs.FieldLaws.{IsBytes, IsBytes-front}
use Rattle.bgp_update.specs.Families.{RouteRules}
use Rattle.bgp_update.specs.declared.attribute_type.AttributeType.{AttributeType}
use Rattle.bgp_update.specs.declared.attribute_type.AttributeType.TheVariants as types
use Rattle.bgp_update.specs.declared.kept_attribute.AttributeSet.{AttributeSet}
use Rattle.bgp_update.specs.declared.width.Width.{Width}
use Rattle.bgp_update.specs.declared.width.Width.TheVariants.{Two, Four}
use Rattle.bgp_update.specs.declared.route.Route.{Route}
use Rattle.bgp_update.specs.Paths.{PathSegment, is_sequence, has_numbers, is_plain, part_of, part_front, longest_front, segment_length, path_length, merged}
use Rattle.bgp_update.specs.Segments.{number_len, path_in, path_of_value, IsSegment, IsPath}
use Rattle.bgp_update.specs.Merging.{aggregator_of, as4_aggregator_of, as4_path_of, joined_path, is_stale}
use Rattle.bgp_update.specs.Attributes.{WrittenAttribute, value_of, attributes_bytes, path_from, route_from, route_of, SaysRoute, route_in}
use Rattle.bgp_update.specs.Packing.{IsWritable}
use Rattle.bgp_update.proofs.SegmentLaws.{path_in-is}
use Rattle.bgp_update.proofs.AttributeLaws.{bytes_behind, values_fine}
use Rattle.bgp_update.proofs.UpdateLaws.{route_takes, update_takes}
use Rattle.bgp_update.specs.Updates.{Update, UpdateForm, update_bytes, update_in}

abbrev Path : Type 0
Path = List PathSegment

abbrev Fits : ℕ → ℕ → Type 0
Fits len n = n < 256 ^ len

-- ---- parts of lists of good items

taken : {A : Type 0} (P : A → Type 0) (n : ℕ) (xs : List A) → AllByRecursion P xs → AllByRecursion P (take n xs)
taken P zero xs h = tt
taken P (suc n) [] h = tt
taken P (suc n) (x ∷ xs) h = (h.0, taken P n xs h.1)

kept : {A : Type 0} (P : A → Type 0) (x : A) (xs : List A) (b : Bool) → P x → AllByRecursion P xs → AllByRecursion P (cond b (x ∷ xs) xs)
kept P x xs true h k = (h, k)
kept P x xs false h k = k

filtered : {A : Type 0} (P : A → Type 0) (keep : A → Bool) (xs : List A) → AllByRecursion P xs → AllByRecursion P (filter keep xs)
filtered P keep [] h = tt
filtered P keep (x ∷ xs) h = kept P x (filter keep xs) (keep x) h.0 (filtered P keep xs h.1)

either : {A : Type 0} (P : A → Type 0) (b : Bool) (xs ys : List A) → AllByRecursion P xs → AllByRecursion P ys → AllByRecursion P (cond b xs ys)
either P true xs ys h k = h
either P false xs ys h k = k

joined : {A : Type 0} (P : A → Type 0) (xs ys : List A) → AllByRecursion P xs → AllByRecursion P ys → AllByRecursion P (xs ++ ys)
joined P [] ys h k = k
joined P (x ∷ xs) ys h k = (h.0, joined P xs ys h.1 k)

mapped_all : {A : Type 0} (P Q : A → Type 0) → ((x : A) → P x → Q x) → (xs : List A) → AllByRecursion P xs → AllByRecursion Q xs
mapped_all P Q f [] h = tt
mapped_all P Q f (x ∷ xs) h = (f x h.0, mapped_all P Q f xs h.1)

-- ---- a wider number

wider : (n : ℕ) → n < 256 ^ 2 → n < 256 ^ 4
wider n h = omega arith

wide_segment : (s : PathSegment) → IsSegment 2 s → IsSegment 4 s
wide_segment s h = record { nonempty = h.nonempty; countable = h.countable; numbers = mapped_all (Fits 2) (Fits 4) wider s.numbers h.numbers }

wide_path : (width : Width) (path : Path) → IsPath (number_len width) path → IsPath 4 path
wide_path Two path h = mapped_all (IsSegment 2) (IsSegment 4) wide_segment path h
wide_path Four path h = h

-- ---- merging

-- a segment but for its being empty
record IsPart (s : PathSegment) : Type 0 where
  countable : length s.numbers < 256
  numbers : AllByRecursion (Fits 4) s.numbers

is_part : (s : PathSegment) → IsSegment 4 s → IsPart s
is_part s h = record { countable = h.countable; numbers = h.numbers }

part_good : (d : ℕ) (s : PathSegment) → IsSegment 4 s → AllByRecursion IsPart (part_front d s)
part_good zero s h = tt
part_good (suc d) s h =
    either IsPart (is_sequence s.kind) (part_of (suc d) s ∷ []) []
    (record { countable = omega (arith, length-take (suc d) s.numbers, h.countable); numbers = taken (Fits 4) (suc d) s.numbers h.numbers }, tt) tt

front_parts : (d : ℕ) (path : Path) → IsPath 4 path → AllByRecursion IsPart (longest_front d path)
front_parts d [] h = tt
front_parts d (s ∷ path) h =
    either IsPart (nat_le (segment_length s) d) (s ∷ longest_front (d - segment_length s) path) (part_front d s)
    (is_part s h.0, front_parts (d - segment_length s) path h.1) (part_good d s h.0)

kept_part : (s : PathSegment) (rest : Path) (b : Bool) → has_numbers s ≡ b → IsPart s → IsPath 4 rest → IsPath 4 (cond b (s ∷ rest) rest)
kept_part s rest true e h k = (record { nonempty = ltb-true 0 (length s.numbers) e; countable = h.countable; numbers = h.numbers }, k)
kept_part s rest false e h k = k

some_parts : (path : Path) → AllByRecursion IsPart path → IsPath 4 (filter has_numbers path)
some_parts [] h = tt
some_parts (s ∷ path) h = kept_part s (filter has_numbers path) (has_numbers s) refl h.0 (some_parts path h.1)

-- ---- the path that attributes name

merged_path : (path as4 : Path) → IsPath 4 path → IsPath 4 as4 → IsPath 4 (merged path as4)
merged_path path as4 h k =
    either (IsSegment 4) (nat_lt (path_length path) (path_length as4)) path (filter has_numbers front ++ filter is_plain as4) h
    (joined (IsSegment 4) (filter has_numbers front) (filter is_plain as4) (some_parts front (front_parts (path_length path - path_length as4) path h)) (filtered (IsSegment 4) is_plain as4 k))
  where
    front : Path
    front = longest_front (path_length path - path_length as4) path

writable_joined : (stale : Bool) (path as4 : Option Path) → IsWritable path → IsWritable as4 → IsWritable (joined_path stale path as4)
writable_joined stale None as4 h k = tt
writable_joined stale (Some path) None h k = h
writable_joined true (Some path) (Some as4) h k = h
writable_joined false (Some path) (Some as4) h k = merged_path path as4 h k

abbrev AreBytes : (AttributeType → Option (List ℕ)) → Type 0
AreBytes value_at = (t : AttributeType) → IfSome (value_at t) IsBytes

read_path : (width : Width) (value : List ℕ) (r : Result Path Fault) → path_in (number_len width) value ≡ r → IsBytes value → IsWritable (result_ok r)
read_path width value (Ok path) e fine = wide_path width path (path_in-is width value path fine e).1
read_path width value (Err fault) e fine = tt

path_of : (width : Width) (o : Option (List ℕ)) → IfSome o IsBytes → IsWritable (option_and_then (path_of_value (number_len width)) o)
path_of width None fine = tt
path_of width (Some value) fine = read_path width value (path_in (number_len width) value) refl fine

as4_path : (o : Option (List ℕ)) → IfSome o IsBytes → IsWritable (option_and_then as4_path_of o)
as4_path None fine = tt
as4_path (Some value) fine = by_test (eqb (length value) 0) (read_path Four value (path_in 4 value) refl fine)
  where
    by_test : (b : Bool) → IsWritable (path_of_value 4 value) → IsWritable (cond b None (path_of_value 4 value))
    by_test true h = tt
    by_test false h = h

path_said : (width : Width) (value_at : AttributeType → Option (List ℕ)) → AreBytes value_at → IsWritable (path_from width value_at)
path_said Four value_at fine = path_of Four (value_at types.AsPath) (fine types.AsPath)
path_said Two value_at fine =
    writable_joined (is_stale (option_and_then aggregator_of (value_at types.Aggregator)) (option_and_then as4_aggregator_of (value_at types.As4Aggregator)))
    (option_and_then (path_of_value 2) (value_at types.AsPath)) (option_and_then as4_path_of (value_at types.As4Path)) (path_of Two (value_at types.AsPath) (fine types.AsPath)) (as4_path (value_at types.As4Path) (fine types.As4Path))

pub said_writable : (asked : AttributeSet) (width : Width) (value_at : AttributeType → Option (List ℕ)) → AreBytes value_at → IsWritable (route_from asked width value_at).path
unfolding route_from
said_writable asked width value_at fine = path_said width value_at fine

-- another next hop leaves the path as it is
said_path : (own : Bool) (rules : RouteRules) (width : Width) (attributes : List WrittenAttribute) (route : Route) → SaysRoute own rules width attributes route → route.path ≡ (route_of rules.kept width attributes).path
said_path true rules width attributes route h = ap (λ (r : Route). r.path) h
said_path false rules width attributes route h = ap (λ (r : Route). r.path) h.2

pub route_writable : (rules : RouteRules) (width : Width) (bytes : List ℕ) (route : Route) → IsBytes bytes → route_in rules width bytes ≡ Ok route → IsWritable route.path
route_writable rules width bytes route fine e =
    let t = route_takes rules width bytes route fine e in
    let written : IsWritable (route_of rules.kept width t.attributes).path = said_writable rules.kept width (λ x. value_of x t.attributes) (λ x. values_fine x t.attributes (subst IsBytes t.spelled fine)) in
    subst IsWritable (sym (said_path rules.family.own_fields rules width t.attributes route t.said)) written

attributes_fine : (form : UpdateForm) → IsBytes (update_bytes form) → IsBytes (attributes_bytes form.attributes)
unfolding update_bytes
attributes_fine form h =
    IsBytes-front (attributes_bytes form.attributes) form.announced
    (bytes_behind (big_bytes 2 (length (attributes_bytes form.attributes))) (attributes_bytes form.attributes ++ form.announced)
    (bytes_behind form.withdrawn (big_bytes 2 (length (attributes_bytes form.attributes)) ++ (attributes_bytes form.attributes ++ form.announced))
    (bytes_behind (big_bytes 2 (length form.withdrawn)) (form.withdrawn ++ (big_bytes 2 (length (attributes_bytes form.attributes)) ++ (attributes_bytes form.attributes ++ form.announced))) h)))

-- the same of an UPDATE; another next hop leaves the path as it is
pub update_writable : (rules : RouteRules) (width : Width) (add_path : Bool) (body : List ℕ) (update : Update) → IsBytes body → update_in rules width add_path body ≡ Ok update → IsWritable update.route.path
update_writable rules width add_path body update fine e =
    let t = update_takes rules width add_path body update fine e in
    subst (λ (r : Route). IsWritable r.path) (sym t.said.route) (said_writable rules.kept width (λ x. value_of x t.form.attributes) (λ x. values_fine x t.form.attributes (attributes_fine t.form (subst IsBytes t.spelled fine))))
