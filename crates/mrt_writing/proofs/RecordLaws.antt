-- Records that are written are cut as themselves.
use Rattle.std.proofs.Common.{◌≡◌, ℕ, ◌+◌, ◌^◌, ◌≤◌, true, List, [], ◌∷◌, ◌++◌, length, take, drop, None, refl, sym, ap, ◌∙◌, arith, length-append}
use Rattle.std.specs.List.{AllByRecursion}
use Rattle.std.proofs.lemmas.Bool.{le-ltb, le-leb}
use Rattle.std.proofs.lemmas.List.{take_at, drop_at, drop-drop}
use Rattle.byteorder.specs.Endian.{big_bytes}
use Rattle.byteorder.specs.Numbers.{big_number-reads_back}
use Rattle.mrt_frame.specs.declared.cut.Cut.{Cut}
use Rattle.mrt_frame.specs.Cuts.{header_size, seconds_of, kind_of, subtype_of, body_size, record_size, is_within_limits, fault_at, whole_at, record_at, cuts, file_limit}
use Rattle.mrt_frame.proofs.CutLaws.{cuts-nil, cuts-record}
use Rattle.mrt_writing.specs.Records.{WrittenRecord, record_bytes, records_bytes, FitsRecord, written_size, cut_of, cuts_of_records}

-- the fields of a record at the front
pub record AreFields (r : WrittenRecord) (bytes rest : List ℕ) : Type 0 where
  pub seconds : seconds_of bytes ≡ r.seconds
  pub kind : kind_of bytes ≡ r.kind
  pub subtype : subtype_of bytes ≡ r.subtype
  pub size : body_size bytes ≡ length r.body
  pub body : drop header_size bytes ≡ r.body ++ rest
  pub length_is : length bytes ≡ header_size + (length r.body + length rest)

fields_are : (r : WrittenRecord) (rest : List ℕ) → FitsRecord r → AreFields r (record_bytes r ++ rest) rest
unfolding record_bytes
fields_are r rest fits =
    let tail : List ℕ = r.body ++ rest in
    let sized : List ℕ = big_bytes 4 (length r.body) ++ tail in
    let typed : List ℕ = big_bytes 2 r.subtype ++ sized in
    record {
      seconds = big_number-reads_back 4 r.seconds (big_bytes 2 r.kind ++ typed) fits.seconds;
      kind = big_number-reads_back 2 r.kind typed fits.kind;
      subtype = big_number-reads_back 2 r.subtype sized fits.subtype;
      size = big_number-reads_back 4 (length r.body) tail (omega (arith, fits.body));
      body = refl;
      length_is = omega (arith, length-append r.body rest);
    }

within : (offset size : ℕ) → size ≤ 16777216 → offset + (12 + size) ≤ 2 ^ 62 → is_within_limits offset size ≡ true
within offset size small place = rw (le-leb size 16777216 small, le-leb (offset + (12 + size)) (2 ^ 62) place) refl

pub cuts-written : (offset : ℕ) (r : WrittenRecord) (rest : List ℕ) → FitsRecord r → offset + written_size r ≤ file_limit → cuts offset (record_bytes r ++ rest) ≡ cut_of offset r ∷ cuts (offset + written_size r) rest
cuts-written offset r rest fits place =
    let bytes : List ℕ = record_bytes r ++ rest in
    let f = fields_are r rest fits in
    let limits : is_within_limits offset (body_size bytes) ≡ true = ap (is_within_limits offset) f.size ∙ within offset (length r.body) fits.body place in
    let faultless : fault_at offset bytes ≡ None =
    rw (le-ltb (length bytes) 12 (omega (arith, f.length_is)), limits, le-ltb (length bytes) (record_size bytes) (omega (arith, f.length_is, f.size))) refl in
    let body : take (body_size bytes) (drop header_size bytes) ≡ r.body = ap (take (body_size bytes)) f.body ∙ take_at r.body rest (body_size bytes) (sym f.size) in
    let front : record_at offset bytes ≡ cut_of offset r = λ i. whole_at offset (f.seconds i) (f.kind i) (f.subtype i) (body i) in
    let behind : drop (record_size bytes) bytes ≡ rest =
    sym (drop-drop (body_size bytes) header_size bytes) ∙ ap (drop (body_size bytes)) f.body ∙ drop_at r.body rest (body_size bytes) (sym f.size) in
    cuts-record offset bytes faultless ∙ λ i. front i ∷ cuts (offset + (header_size + f.size i)) (behind i)

pub records-cut : (offset : ℕ) (records : List WrittenRecord) → AllByRecursion FitsRecord records → offset + length (records_bytes records) ≤ file_limit → cuts offset (records_bytes records) ≡ cuts_of_records offset records
records-cut offset [] fit place = cuts-nil offset
records-cut offset (r ∷ records) fit place =
    let parts : length (record_bytes r ++ records_bytes records) ≡ written_size r + length (records_bytes records) = (fields_are r (records_bytes records) fit.0).length_is ∙ omega arith in
    cuts-written offset r (records_bytes records) fit.0 (omega (arith, place, parts))
    ∙ ap (λ (others : List Cut). cut_of offset r ∷ others) (records-cut (offset + written_size r) records fit.1 (omega (arith, place, parts)))
