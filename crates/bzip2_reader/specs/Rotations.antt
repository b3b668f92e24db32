-- The Burrows-Wheeler transform, which `text_of` inverts.
use Rattle.std.specs.Prelude.{◌≡◌, ◌<◌, ℕ, ◌-◌, List, [], ◌++◌, drop, length, map, slice_index, slice_index_or, take}
use Rattle.std.specs.Cmp.Lexicographic.{slice_cmp}
use Rattle.std.specs.List.{range_with_len}
use Rattle.std.specs.List.Sorted.{IsPermutation, IsSorted}
use Rattle.std.specs.Ordering.{nat_cmp}

-- a text from this byte on, and behind it the bytes before this one
abbrev pub rotation : List ℕ → ℕ → List ℕ
rotation text k = drop k text ++ take k text

-- the rotations of a text, one from each of its bytes on
abbrev pub rotations : List ℕ → List (List ℕ)
rotations text = map (rotation text) (range_with_len 0 (length text))

-- These rows are the rotations of a text, in the order of their bytes from the left. Some are equal where the text
-- repeats a shorter one, as abab does.
pub record AreSortedRotations (text : List ℕ) (rows : List (List ℕ)) : Type 0 where
  pub rotated : IsPermutation (rotations text) rows
  pub sorted : IsSorted (slice_cmp nat_cmp) rows

-- the last byte of a row
abbrev pub last_byte : List ℕ → ℕ
last_byte row = slice_index row (length row - 1)

-- The transform of a text is the last column of its sorted rotations, and the place of a row that is the text itself.
pub record IsTransform (text column : List ℕ) (row : ℕ) : Type 0 where
  pub rows : List (List ℕ)
  pub sorted : AreSortedRotations text rows
  pub last : column ≡ map last_byte rows
  pub inside : row < length rows
  pub itself : slice_index_or rows row [] ≡ text
