-- Prefixes in a text, one a line. What is said of them takes two values of their family, as what is said of one does.
use Rattle.std.specs.Prelude.{◌≡◌, ℕ, ◌+◌, ◌==◌, ◌||◌, Bool, true, false, not, List, [], ◌∷◌, ◌++◌, length, map, if◌then◌else◌}
use Rattle.std.specs.List.{AllZip, filter, slice_split}
use Rattle.peer_units.specs.Plain.{PrefixChoice}
use Rattle.command_line.specs.declared.list.ListError.{ListError}
use Rattle.command_line.specs.declared.list.ListError.TheVariants.{Line, Memory}
use Rattle.command_line.specs.Choices.{SpellsChoice, IsNoChoice}

-- the lines of a text: what stands before, between and behind its line feeds
abbrev pub lines_of : List ℕ → List (List ℕ)
lines_of text = slice_split (λ byte. byte == 10) text

-- a blank, a tab or a carriage return
abbrev pub is_blank : ℕ → Bool
is_blank byte = (byte == 32) || ((byte == 9) || (byte == 13))

-- a byte in front of a line without the blanks at its end
abbrev pub in_front : ℕ → List ℕ → List ℕ
in_front byte [] = if is_blank byte then [] else byte ∷ []
in_front byte (next ∷ line) = byte ∷ next ∷ line

-- a line without the blanks at its end
abbrev pub trimmed : List ℕ → List ℕ
trimmed [] = []
trimmed (byte ∷ line) = in_front byte (trimmed line)

-- nothing, or a comment
abbrev pub is_passed : List ℕ → Bool
is_passed [] = true
is_passed (byte ∷ line) = byte == 35

-- the lines that name prefixes, without the blanks at their ends
abbrev pub entries : List (List ℕ) → List (List ℕ)
entries lines = filter (λ line. not (is_passed line)) (map trimmed lines)

-- these are what the lines choose, in order
abbrev pub NameChoices : (List ℕ → ℕ → Type 0) → ℕ → List (List ℕ) → List PrefixChoice → Type 0
NameChoices Spells width lines choices = AllZip (SpellsChoice Spells width) (entries lines) choices

-- the line of this number, from 1, is the first one that chooses nothing though it isn't passed over
pub record IsFirstFault (Spells : List ℕ → ℕ → Type 0) (width : ℕ) (lines : List (List ℕ)) (number : ℕ) : Type 0 where
  pub before : List (List ℕ)
  pub line : List ℕ
  pub behind : List (List ℕ)
  pub whole : lines ≡ before ++ line ∷ behind
  pub counted : number ≡ length before + 1
  pub choices : List PrefixChoice
  pub named : NameChoices Spells width before choices
  pub read : is_passed (trimmed line) ≡ false
  pub none : IsNoChoice Spells width (trimmed line)

-- why a text chooses nothing: memory, or its first line that is none
abbrev pub IsListError : (List ℕ → ℕ → Type 0) → ℕ → List ℕ → ListError → Type 0
IsListError Spells width text (Line number) = IsFirstFault Spells width (lines_of text) number
IsListError Spells width text Memory = Unit {0}
