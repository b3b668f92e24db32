-- The first cut, by the bytes that reads returned.
use Rattle.std.proofs.Common.{◌≡◌, ℕ, ◌<◌, ◌≤◌, Bool, true, false, List, [], ◌++◌, Some, None, length, refl, arith, append_assoc, length-append}
use Rattle.mrt_frame.specs.declared.cut.Cut.TheVariants.{Broken}
use Rattle.mrt_frame.specs.declared.fault.Fault.TheVariants.{ShortHeader, ShortBody, BodyTooLong}
use Rattle.mrt_frame.specs.declared.error.ReplayError.{ReplayError}
use Rattle.mrt_frame.specs.declared.error.ReplayError.TheVariants.{Read, Write, Memory, Records, Spent}
use Rattle.mrt_frame.specs.Cuts.{body_size, seconds_of, kind_of, subtype_of, is_within_limits, whole_at}
use Rattle.mrt_frame.specs.Given.{ReadsFirst, ReadsPartOf, StopsShort, StopsIn, IsFewer, IsBroken}
use Rattle.mrt_frame.proofs.FirstCut.{first-end, first-short_header, first-too_long_by, first-short_body_by, first-record_by, limits-body, fault_at-short_header, fault_at-part_of_body}

module _ {R : Type 0} (reads : R → List ℕ → Bool → R → Type 0)
    (more : (old mid new : R) (bytes others : List ℕ) (ended : Bool) → reads old bytes false mid → reads mid others ended new → reads old (bytes ++ others) ended new) where
  pub read-end : (offset : ℕ) (old new : R) → reads old [] true new → ReadsFirst reads offset old new None
  read-end offset old new given = record {
    bytes = [];
    ended = true;
    given = given;
    few = omega arith;
    last = λ _. refl;
    first = λ rest none. first-end offset (Some rest) (Some rest) refl (none refl);
  }

  pub read-short_header : (offset : ℕ) (old new : R) (bytes : List ℕ) → reads old bytes true new → 0 < length bytes → length bytes < 12 → ReadsFirst reads offset old new (Some (Broken offset ShortHeader))
  read-short_header offset old new bytes given some few = record {
    bytes = bytes;
    ended = true;
    given = given;
    few = omega (arith, few);
    last = λ _. refl;
    first = λ rest none. first-short_header offset (Some (bytes ++ rest)) (Some rest) bytes refl (none refl) some few;
  }

  pub read-too_long : (offset size : ℕ) (old new : R) (header : List ℕ) → reads old header false new → length header ≡ 12 → size ≡ body_size header → is_within_limits offset size ≡ false
      → ReadsFirst reads offset old new (Some (Broken offset BodyTooLong))
  read-too_long offset size old new header given long is past = record {
    bytes = header;
    ended = false;
    given = given;
    few = omega (arith, long);
    last = λ _. refl;
    first = λ rest _. first-too_long_by offset size (Some (header ++ rest)) (Some rest) header refl long is past;
  }

  pub read-short_body : (offset size : ℕ) (old mid new : R) (header body : List ℕ) → reads old header false mid → length header ≡ 12 → size ≡ body_size header
      → is_within_limits offset size ≡ true → reads mid body true new → length body < size → ReadsFirst reads offset old new (Some (Broken offset ShortBody))
  read-short_body offset size old mid new header body given long is within next few = record {
    bytes = header ++ body;
    ended = true;
    given = more old mid new header body true given next;
    few = omega (arith, length-append header body, long, few, limits-body offset size within);
    last = λ _. refl;
    first = λ rest none. first-short_body_by offset size (Some ((header ++ body) ++ rest)) (Some (body ++ rest)) (Some rest) header body (append_assoc header body rest) long is within refl (none refl) few;
  }

  pub read-record : (offset seconds kind subtype size : ℕ) (old mid new : R) (header body : List ℕ) → reads old header false mid → length header ≡ 12
      → seconds ≡ seconds_of header → kind ≡ kind_of header → subtype ≡ subtype_of header → size ≡ body_size header
      → is_within_limits offset size ≡ true → reads mid body false new → length body ≡ size → ReadsFirst reads offset old new (Some (whole_at offset seconds kind subtype body))
  read-record offset seconds kind subtype size old mid new header body given long e_1 e_2 e_3 is within next full = record {
    bytes = header ++ body;
    ended = false;
    given = more old mid new header body false given next;
    few = omega (arith, length-append header body, long, full, limits-body offset size within);
    last = λ e. absurd cc;
    first = λ rest _. first-record_by offset seconds kind subtype size (Some ((header ++ body) ++ rest)) (Some (body ++ rest)) (Some rest) header body (append_assoc header body rest) long e_1 e_2 e_3 is within refl full;
  }

  -- ---- what a read that failed took

  pub read-part_of_header : (offset size : ℕ) (old new : R) (file : ℕ) → size ≤ 12 → StopsShort reads size old new → ReadsPartOf reads offset old new (Read file)
  read-part_of_header offset size old new file small read = record {
    bytes = read.0;
    given = read.1;
    few = omega (arith, small, read.2);
    broken = (ShortHeader, fault_at-short_header offset read.0 (omega (arith, small, read.2)));
  }

  read-few : (size : ℕ) (bytes : List ℕ) (e : ReplayError) → IsFewer size bytes e → length bytes ≤ size
  read-few size bytes (Read file) few = omega (arith, few)
  read-few size bytes Write few = few
  read-few size bytes Memory few = few
  read-few size bytes Records few = few
  read-few size bytes Spent few = few

  read-broken : (offset size : ℕ) (header bytes : List ℕ) (e : ReplayError) → length header ≡ 12 → size ≡ body_size header → is_within_limits offset size ≡ true → IsFewer size bytes e → IsBroken offset (header ++ bytes) e
  read-broken offset size header bytes (Read file) long is within few = (ShortBody, fault_at-part_of_body offset size header bytes long is within few)
  read-broken offset size header bytes Write long is within few = tt
  read-broken offset size header bytes Memory long is within few = tt
  read-broken offset size header bytes Records long is within few = tt
  read-broken offset size header bytes Spent long is within few = tt

  pub read-part_of_body : (offset size : ℕ) (old mid new : R) (header : List ℕ) (e : ReplayError) → reads old header false mid → length header ≡ 12 → size ≡ body_size header → is_within_limits offset size ≡ true
      → StopsIn reads size mid new e → ReadsPartOf reads offset old new e
  read-part_of_body offset size old mid new header e given long is within read = record {
    bytes = header ++ read.0;
    given = more old mid new header read.0 false given read.1;
    few = omega (arith, length-append header read.0, long, read-few size read.0 e read.2, limits-body offset size within);
    broken = read-broken offset size header read.0 e long is within read.2;
  }
