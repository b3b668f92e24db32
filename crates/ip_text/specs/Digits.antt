-- Digits, and the numbers that they write.
use Rattle.std.specs.Prelude.{ℕ, zero, suc, ◌+◌, ◌/◌, ◌%◌, ◌^◌, List, [], ◌∷◌, map, decimal}
use Rattle.std.specs.List.{join_with_byte}

-- the last count digits of n in the base, the highest first
abbrev pub digits_in : (ℕ → ℕ) → ℕ → ℕ → ℕ → List ℕ
digits_in glyph base zero n = []
digits_in glyph base (suc count) n = glyph (n / base ^ count % base) ∷ digits_in glyph base count n

abbrev pub decimal_glyph : ℕ → ℕ
decimal_glyph d = 48 + d

-- the groups of a number, each of size values, the highest first
abbrev pub groups_of : ℕ → ℕ → ℕ → List ℕ
groups_of size zero n = []
groups_of size (suc count) n = n / size ^ count % size ∷ groups_of size count n

-- dotted decimal
abbrev pub ipv4_text : ℕ → List ℕ
ipv4_text addr = join_with_byte 46 (map decimal (groups_of 256 4 addr))
