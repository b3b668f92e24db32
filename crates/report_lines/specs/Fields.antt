-- The fields of lines, and the numbers in them.
use Rattle.std.specs.Prelude.{ℕ, ◌/◌, ◌%◌, List, [], ◌∷◌, ◌++◌, map, Option, Some, None, codes, decimal}
use Rattle.std.specs.List.{join_with_byte}
use Rattle.ip_text.specs.Digits.{decimal_glyph, digits_in}

-- `-` where it is absent
abbrev pub field : {A : Type 0} → (A → List ℕ) → Option A → List ℕ
field text None = codes "-"
field text (Some x) = text x

-- seconds, a point and six digits of microseconds
abbrev pub time_text : ℕ → List ℕ
time_text time = decimal (time / 1000000) ++ 46 ∷ digits_in decimal_glyph 10 6 (time % 1000000)

abbrev pub numbers_text : ℕ → List ℕ → List ℕ
numbers_text separator numbers = join_with_byte separator (map decimal numbers)
