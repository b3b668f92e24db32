-- Going over the segments of packed bytes.
use Rattle.std.proofs.Common.{◌≡◌, ℕ, zero, suc, ◌-◌, ◌*◌, ◌<◌, ◌≤◌, List, [], ◌∷◌, length, get_or, take, drop, Option, Some, Result, Ok, Err, refl, sym, ap, subst, ◌∙◌, arith}
use Rattle.std.specs.Prelude.{slice_get}
use Rattle.std.proofs.lemmas.List.{drop-drop, take_rest}
use Rattle.std.proofs.lemmas.Option.{slice_get-get_or}
use Rattle.mrt_frame.proofs.Items.{ok_is}
use Rattle.std.proofs.lemmas.List.Concat.{flat_map-cons}
use Rattle.byteorder.specs.Endian.{big_number}
use Rattle.mrt_frame.specs.declared.fault.Fault.{Fault}
use Rattle.bgp_update.specs.declared.path.SegmentKind.{SegmentKind}
use Rattle.bgp_update.specs.Paths.{PathSegment, segment_origin, last_of, origin_as_of}
use Rattle.bgp_update.specs.Segments.{SegmentField, segment_of, segment_bytes, path_bytes, numbers_in, IsPath, segment_field_at, segment_at}
use Rattle.bgp_update.specs.Packing.{spelled_path, IsSpelled}
use Rattle.bgp_update.proofs.SegmentLoops.{segment_field-takes, segment_of_field, segment_of_fault}
use Rattle.bgp_update.proofs.SegmentLaws.{segment_again}
use Rattle.bgp_update.proofs.Packings.{spelled-bytes, spelled_path-bytes}

abbrev pub segment_with : SegmentKind → List ℕ → PathSegment
segment_with kind numbers = record { kind = kind; numbers = numbers }

abbrev pub field_with : SegmentKind → ℕ → List ℕ → SegmentField
field_with kind count octets = record { kind = kind; count = count; octets = octets }

pub record IsNext (bytes : List ℕ) (field : SegmentField) (rest : List ℕ) : Type 0 where
  pub first : spelled_path bytes ≡ segment_of 4 field ∷ spelled_path rest
  pub spelled : IsSpelled rest
  pub room : field.count * 4 ≤ length field.octets

-- the segment that comes first
first_is : (bytes : List ℕ) (path : List PathSegment) (s : PathSegment) (rest : List ℕ) → IsPath 4 path → bytes ≡ path_bytes 4 path → segment_at 4 bytes ≡ Ok (s, rest) → 0 < length bytes
    → (path ≡ s ∷ spelled_path rest) × IsSpelled rest
first_is bytes [] s rest h e f pos = absurd (omega (arith, pos, ap length e))
first_is bytes (x ∷ xs) s rest h e f pos =
    let again : segment_at 4 bytes ≡ Ok (x, path_bytes 4 xs) = ap (segment_at 4) (e ∙ flat_map-cons (segment_bytes 4) x xs) ∙ segment_again 4 x (path_bytes 4 xs) h.0 in
    let same : (s, rest) ≡ (x, path_bytes 4 xs) = ok_is (s, rest) (x, path_bytes 4 xs) (sym f ∙ again) in
    let rest_is : rest ≡ path_bytes 4 xs = ap (λ (y : PathSegment × List ℕ). y.1) same in
    (λ i. ap (λ (y : PathSegment × List ℕ). y.0) (sym same) i ∷ (sym (spelled_path-bytes xs h.1) ∙ ap spelled_path (sym rest_is)) i, subst IsSpelled (sym rest_is) (spelled-bytes xs h.1))

pub field_is_next : (bytes : List ℕ) (field : SegmentField) (rest : List ℕ) → IsSpelled bytes → segment_field_at 4 bytes ≡ Ok (field, rest) → IsNext bytes field rest
field_is_next bytes field rest h e =
    let t = segment_field-takes 4 bytes (field, rest) e in
    let pos : 0 < length bytes = omega (arith, ap length t.parts) in
    let f = first_is bytes (spelled_path bytes) (segment_of 4 field) rest h.fits h.written (segment_of_field 4 bytes field rest e) pos in
    record { first = f.0; spelled = f.1; room = omega (arith, t.octets) }

-- bytes that spell a path have no fault
pub no_fault : (bytes : List ℕ) (fault : Fault) → IsSpelled bytes → 0 < length bytes → segment_field_at 4 bytes ≡ Err fault → ⊥
no_fault bytes fault h pos e = by_path (spelled_path bytes) h.fits h.written
  where
    err_ok : (r : Result (PathSegment × List ℕ) Fault) (x : PathSegment × List ℕ) → r ≡ Err fault → r ≡ Ok x → ⊥
    err_ok r x p q = cc

    by_path : (path : List PathSegment) → IsPath 4 path → bytes ≡ path_bytes 4 path → ⊥
    by_path [] f w = omega (arith, pos, ap length w)
    by_path (x ∷ xs) f w = err_ok (segment_at 4 bytes) (x, path_bytes 4 xs) (segment_of_fault 4 bytes fault e) (ap (segment_at 4) (w ∙ flat_map-cons (segment_bytes 4) x xs) ∙ segment_again 4 x (path_bytes 4 xs) f.0)

pub none_left : (bytes : List ℕ) → IsSpelled bytes → length bytes ≡ 0 → spelled_path bytes ≡ []
none_left bytes h e = by_path (spelled_path bytes) h.written
  where
    by_path : (path : List PathSegment) → bytes ≡ path_bytes 4 path → path ≡ []
    by_path [] w = refl
    by_path (x ∷ xs) w = absurd (omega (arith, e, ap length w))

-- a number of a segment, by its index
pub number_by_index : (count : ℕ) (octets : List ℕ) (i : ℕ) → i < count → get_or (numbers_in 4 count octets) i 0 ≡ big_number 4 (drop (4 * i) octets)
number_by_index zero octets i h = absurd (omega arith)
number_by_index (suc count) octets zero h = refl
number_by_index (suc count) octets (suc i) h =
    number_by_index count (drop 4 octets) i (omega arith) ∙ ap (big_number 4) (drop-drop (4 * i) 4 octets ∙ ap (λ (n : ℕ). drop n octets) (omega arith))

pub length_numbers_in : (len count : ℕ) (octets : List ℕ) → length (numbers_in len count octets) ≡ count
length_numbers_in len zero octets = refl
length_numbers_in len (suc count) octets = ap suc (length_numbers_in len count (drop len octets))

-- the origin when some segments are left, of which the last one before them had this origin
abbrev pub origin_after : Option ℕ → List PathSegment → Option ℕ
origin_after origin [] = origin
origin_after origin (s ∷ path) = origin_as_of (s ∷ path)

pub origin_goes_on : (origin : Option ℕ) (s : PathSegment) (path : List PathSegment) → origin_after (segment_origin (Some s)) path ≡ origin_after origin (s ∷ path)
origin_goes_on origin s [] = refl
origin_goes_on origin s (t ∷ path) =
    let e : length (s ∷ t ∷ path) - 1 ≡ suc (length (t ∷ path) - 1) = omega arith in ap (λ (n : ℕ). segment_origin (slice_get (s ∷ t ∷ path) n)) (sym e)

-- a number that is read at its index
pub number_read : (kind : SegmentKind) (count : ℕ) (octets : List ℕ) (s : PathSegment) (i x : ℕ) → segment_with kind (numbers_in 4 count octets) ≡ s → i < length s.numbers
    → x ≡ big_number 4 (take (length octets - 4 * i) (drop (4 * i) octets)) → x ≡ get_or s.numbers i 0
number_read kind count octets s i x is h e =
    let lt : i < count = omega (arith, h, ap (λ (t : PathSegment). length t.numbers) is, length_numbers_in 4 count octets) in
    e ∙ ap (big_number 4) (take_rest octets (4 * i)) ∙ sym (number_by_index count octets i lt) ∙ ap (λ (t : PathSegment). get_or t.numbers i 0) is

pub last_read : (xs : List ℕ) (n x : ℕ) → n ≡ length xs → 0 < n → x ≡ get_or xs (n - 1) 0 → Some x ≡ last_of xs
last_read xs n x e pos is = ap (λ (y : ℕ). Some y) is ∙ ap (λ (m : ℕ). Some (get_or xs (m - 1) 0)) e ∙ sym (slice_get-get_or xs (length xs - 1) 0 (omega (arith, e, pos)))
