-- Names of files in a text.
use Rattle.std.specs.Prelude.{◌≡◌, ℕ, ◌+◌, ◌==◌, ◌&&◌, ◌||◌, Bool, true, false, List, [], ◌∷◌, ◌++◌, length, if◌then◌else◌}
use Rattle.std.specs.List.{list_any, slice_split}
use Rattle.std.specs.Str.{IsUtf8}
use Rattle.command_line.specs.declared.file_list.FileListError.{FileListError}
use Rattle.command_line.specs.declared.file_list.FileListError.TheVariants.{NotText, Memory}

-- the byte that ends each name: a NUL byte if there is one, else a line feed
abbrev pub end_of : List ℕ → ℕ
end_of text = if list_any (λ byte. byte == 0) text then 0 else 10

-- what stands before, between and behind the ends
abbrev pub pieces_of : ℕ → List ℕ → List (List ℕ)
pieces_of end text = slice_split (λ byte. byte == end) text

abbrev pub is_empty : List ℕ → Bool
is_empty [] = true
is_empty (byte ∷ name) = false

-- an empty line, or nothing behind the last end
abbrev pub is_passed : ℕ → Bool → List ℕ → Bool
is_passed end last piece = is_empty piece && (last || (end == 10))

-- those of these pieces that are names
abbrev pub names_of : ℕ → List (List ℕ) → List (List ℕ)
names_of end [] = []
names_of end (piece ∷ []) = if is_passed end true piece then [] else piece ∷ []
names_of end (piece ∷ next ∷ more) = if is_passed end false piece then names_of end (next ∷ more) else piece ∷ names_of end (next ∷ more)

-- the names in a text, in order
abbrev pub names_in : List ℕ → List (List ℕ)
names_in text = names_of (end_of text) (pieces_of (end_of text) text)

-- a name that can't be text
pub record IsNoText (pieces : List (List ℕ)) (number : ℕ) : Type 0 where
  pub before : List (List ℕ)
  pub name : List ℕ
  pub behind : List (List ℕ)
  pub whole : pieces ≡ before ++ name ∷ behind
  pub counted : number ≡ length before + 1
  pub none : IsUtf8 name → ⊥

-- why a name of this number is no text: memory, or its bytes
abbrev pub IsNameError : List ℕ → ℕ → FileListError → Type 0
IsNameError name number (NotText told) = (told ≡ number) × (IsUtf8 name → ⊥)
IsNameError name number Memory = Unit {0}

-- why a text names no files
abbrev pub IsFileListError : List ℕ → FileListError → Type 0
IsFileListError text (NotText number) = IsNoText (pieces_of (end_of text) text) number
IsFileListError text Memory = Unit {0}
