-- Values that can be told apart from what stands behind them in an object.
use Rattle.std.specs.Prelude.{◌≡◌, ℕ, ◌⊎◌, Bool, true, false, not, ◌||◌, ◌==◌, nat_lt, List, [], ◌∷◌, ◌++◌, if◌then◌else◌}
use Rattle.std.specs.List.{AllByRecursion, join_with_byte, list_all}
use Rattle.report_request.specs.declared.column.Key.{Key}
use Rattle.report_lines.specs.Cells.{Cell, members}

-- What stands before the first comma or closing brace that is in no text and in no list. The first argument tells
-- whether this is within a text, and the second whether within a list.
abbrev pub value_front : Bool → Bool → List ℕ → List ℕ
value_front quotes brackets [] = []
value_front true brackets (c ∷ rest) = c ∷ value_front (not (c == 34)) brackets rest
value_front false true (c ∷ rest) = c ∷ value_front (c == 34) (not (c == 93)) rest
value_front false false (c ∷ rest) =
    if c == 44 || c == 125 then [] else c ∷ value_front (c == 34) (c == 91) rest

-- it ends where it ends, whatever follows
abbrev pub IsValue : List ℕ → Type 0
IsValue value =
    (c : ℕ) (rest : List ℕ) → (c ≡ 44) ⊎ (c ≡ 125) → value_front false false (value ++ c ∷ rest) ≡ value

-- the line of an object
abbrev pub object_line : List (Key × List ℕ) → List ℕ
object_line fields = 123 ∷ join_with_byte 44 (members fields) ++ 125 ∷ 10 ∷ []

-- it has no character that would end it where it stands in quotes
abbrev pub HasNoQuote : List ℕ → Type 0
HasNoQuote text = list_all (λ c. not (c == 34)) text ≡ true

-- ---- texts

-- in quotes it stands as it is: it is no quote, no backslash and no control character (RFC 8259, section 7)
abbrev pub stands_in_quotes : ℕ → Bool
stands_in_quotes c = not (c == 34 || (c == 92 || nat_lt c 32))

abbrev pub NeedsNoEscape : List ℕ → Type 0
NeedsNoEscape text = list_all stands_in_quotes text ≡ true

-- nor does any field of these columns
abbrev pub NeedNoEscape : List Cell → Type 0
NeedNoEscape cells = AllByRecursion (λ c. NeedsNoEscape c.text) cells
