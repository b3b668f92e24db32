-- What a line has in each column, as text and as JSON (RFC 8259).
use Rattle.std.specs.Prelude.{ℕ, List, [], ◌∷◌, ◌++◌, map, Option, Some, None, codes, decimal}
use Rattle.std.specs.List.{flat_map, join_with_byte}
use Rattle.report_request.specs.declared.format.Format.{Format}
use Rattle.report_request.specs.declared.format.Format.TheVariants.{Text, Json}
use Rattle.report_request.specs.declared.column.Key.{Key}
use Rattle.report_request.specs.declared.column.Column.{Column}
use Rattle.report_request.specs.declared.column.Column.TheVariants as column
use Rattle.report_request.specs.Columns.{key_name, column_keys}
use Rattle.report_lines.specs.Fields.{field, time_text}

-- ---- values

-- a text in quotes; none of ours has a character that JSON escapes
abbrev pub quoted : List ℕ → List ℕ
quoted text = 34 ∷ text ++ 34 ∷ []

-- `null` where it is absent
abbrev pub or_null : {A : Type 0} → (A → List ℕ) → Option A → List ℕ
or_null text None = codes "null"
or_null text (Some x) = text x

-- values with a comma between them, in brackets
abbrev pub listed : List (List ℕ) → List ℕ
listed values = 91 ∷ join_with_byte 44 values ++ 93 ∷ []

-- a list of one or none
abbrev pub one_or_none : Option ℕ → List (List ℕ)
one_or_none None = []
one_or_none (Some n) = decimal n ∷ []

-- ---- members

-- a key in quotes, a colon and a value
abbrev pub member : Key → List ℕ → List ℕ
member key value = 34 ∷ key_name key ++ 34 ∷ 58 ∷ value

-- keys with their values
abbrev pub fields_of : List Key → List (List ℕ) → List (Key × List ℕ)
fields_of [] values = []
fields_of (key ∷ keys) [] = []
fields_of (key ∷ keys) (value ∷ values) = (key, value) ∷ fields_of keys values

abbrev pub members : List (Key × List ℕ) → List (List ℕ)
members fields = map (λ f. member f.0 f.1) fields

-- ---- cells

-- a column, its field of text, and the values of its members
pub record Cell : Type 0 where
  pub column : Column
  pub text : List ℕ
  pub values : List (List ℕ)

abbrev pub texts : List Cell → List (List ℕ)
texts cells = map (λ c. c.text) cells

abbrev pub fields : List Cell → List (Key × List ℕ)
fields cells = flat_map (λ c. fields_of (column_keys c.column) c.values) cells

abbrev pub all_members : List Cell → List (List ℕ)
all_members cells = members (fields cells)

-- a number, and a text, in a column of its own
abbrev pub number : Key → ℕ → Cell
number key n = record { column = column.Of key; text = decimal n; values = decimal n ∷ [] }

abbrev pub number_if_any : Key → Option ℕ → Cell
number_if_any key n = record { column = column.Of key; text = field decimal n; values = or_null decimal n ∷ [] }

abbrev pub time_if_any : Key → Option ℕ → Cell
time_if_any key t = record { column = column.Of key; text = field time_text t; values = or_null time_text t ∷ [] }

abbrev pub word : Key → List ℕ → Cell
word key text = record { column = column.Of key; text = text; values = quoted text ∷ [] }

-- ---- lines

-- a line of this text, or of these members
abbrev pub line_as : Format → List ℕ → List ℕ → List ℕ
line_as Text text object = text ++ 10 ∷ []
line_as Json text object = 123 ∷ object ++ 125 ∷ 10 ∷ []

-- fields with `|` between them, or an object of all members
abbrev pub line_by : Format → List Cell → List ℕ
line_by format cells =
    line_as format (join_with_byte 124 (texts cells)) (join_with_byte 44 (all_members cells))
