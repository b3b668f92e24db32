-- MRT records as they are written (RFC 6396, section 2).
use Rattle.std.specs.Prelude.{ℕ, ◌+◌, ◌^◌, ◌<◌, ◌≤◌, List, [], ◌∷◌, ◌++◌, length}
use Rattle.std.specs.List.{flat_map}
use Rattle.byteorder.specs.Endian.{big_bytes}
use Rattle.mrt_frame.specs.Cuts.{header_size, body_limit, whole_at}
use Rattle.mrt_frame.specs.declared.cut.Cut.{Cut}

-- timestamp, type, subtype, and the message
pub record WrittenRecord : Type 0 where
  pub seconds : ℕ
  pub kind : ℕ
  pub subtype : ℕ
  pub body : List ℕ

-- timestamp 4, type 2, subtype 2, length of the message 4
abbrev pub record_head : ℕ → ℕ → ℕ → ℕ → List ℕ
record_head seconds kind subtype len =
    big_bytes 4 seconds ++ (big_bytes 2 kind ++ (big_bytes 2 subtype ++ big_bytes 4 len))

-- and then the message
unfoldable pub record_bytes : WrittenRecord → List ℕ
record_bytes r = record_head r.seconds r.kind r.subtype (length r.body) ++ r.body

abbrev pub records_bytes : List WrittenRecord → List ℕ
records_bytes records = flat_map record_bytes records

-- each field has its width, and the message is no longer than what is read
pub record FitsRecord (r : WrittenRecord) : Type 0 where
  pub seconds : r.seconds < 256 ^ 4
  pub kind : r.kind < 256 ^ 2
  pub subtype : r.subtype < 256 ^ 2
  pub body : length r.body ≤ body_limit

abbrev pub written_size : WrittenRecord → ℕ
written_size r = header_size + length r.body

-- the record as a cut
abbrev pub cut_of : ℕ → WrittenRecord → Cut
cut_of offset r = whole_at offset r.seconds r.kind r.subtype r.body

-- the records as cuts, the first of which stands at this offset
abbrev pub cuts_of_records : ℕ → List WrittenRecord → List Cut
cuts_of_records offset [] = []
cuts_of_records offset (r ∷ records) = cut_of offset r ∷ cuts_of_records (offset + written_size r) records
