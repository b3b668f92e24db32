-- The inverse of the Burrows-Wheeler transform. A column is the last one of a text's sorted rotations.
use Rattle.std.specs.Prelude.{ℕ, zero, suc, List, [], ◌∷◌, length, slice_index, ◌==◌}
use Rattle.std.specs.List.{filter, flat_map, range_with_len}

-- the places at which a value stands
abbrev pub places_of : List ℕ → ℕ → List ℕ
places_of column value = filter (λ place. slice_index column place == value) (range_with_len 0 (length column))

-- The places of a column, in the order of the bytes that stand there, and in their own order where these are equal.
-- The first column of the rotations has the bytes in this order, and a rotation's last byte is the first byte of the
-- one that begins a byte before it. So place k of this list is the row that begins a byte later than row k.
unfoldable pub row_after : List ℕ → List ℕ
row_after column = flat_map (places_of column) (range_with_len 0 256)

-- so many bytes from the first of this row on
unfoldable pub text_from : List ℕ → List ℕ → ℕ → ℕ → List ℕ
text_from column after row zero = []
text_from column after row (suc n) =
    slice_index column (slice_index after row) ∷ text_from column after (slice_index after row) n

-- the text whose rotations have this last column, and which is this row of them
abbrev pub text_of : List ℕ → ℕ → List ℕ
text_of column row = text_from column (row_after column) row (length column)
