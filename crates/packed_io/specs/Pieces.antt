-- What is handed over of a packed file, and what is still to come of it.
use Rattle.std.specs.Prelude.{◌≡◌, ◌<◌, ⊤, ℕ, List, [], ◌∷◌, ◌++◌, Bool, true, Option, None, Some, drop, length}
use Rattle.std.specs.List.{flat_map}
use Rattle.std.specs.Option.{option_map}
use Rattle.std.specs.Io.KnownBytes.{Consumes, IsAtEnd}
use Rattle.rtrb.specs.Ring.{received}
use Rattle.packed_io.specs.Faults.{EndsTheData, ends_by}
use Rattle.packed_io.specs.Formats.{told_of}
use Rattle.packed_io.specs.declared.pieces.Ending.{Ending}
use Rattle.packed_io.specs.declared.pieces.Ending.TheVariants.{Ended, Failed}
use Rattle.packed_io.specs.declared.pieces.Piece.{Piece}
use Rattle.packed_io.specs.declared.pieces.Piece.TheVariants.{Start, Bytes, End}
use Rattle.packed_io.specs.declared.pieces.Pieces.{Pieces}

abbrev pub piece_bytes : {D : Type 0} → Piece D → List ℕ
piece_bytes (Bytes bytes) = bytes.items
piece_bytes other = []

-- what the first piece tells of the bytes that the file gives
abbrev pub told_by : {D : Type 0} → (D → Option (List ℕ)) → Piece D → Option (List ℕ)
told_by remaining (Start device) = told_of (remaining device)
told_by remaining other = None

-- the bytes that the file gives behind these pieces, where they are known
abbrev pub coming_behind : {D : Type 0} → (D → Option (List ℕ)) → List (Piece D) → Option (List ℕ)
coming_behind remaining [] = None
coming_behind remaining (first ∷ pieces) = option_map (λ bytes. drop (length (flat_map piece_bytes pieces)) bytes) (told_by remaining first)

-- a file of which these bytes are to come may end so
abbrev pub MayEnd : Option (List ℕ) → Ending → Type 0
MayEnd known (Ended fault) = IsAtEnd known × EndsTheData fault
MayEnd known (Failed fault error) = ⊤

-- the piece that stands behind these: the next of the file's known bytes, at least one, or its end
abbrev pub IsNext : {D : Type 0} → (D → Option (List ℕ)) → List (Piece D) → Piece D → Type 0
IsNext remaining before (Start device) = before ≡ []
IsNext remaining before (Bytes bytes) =
    Consumes (coming_behind remaining before) (coming_behind remaining (before ++ Bytes bytes ∷ [])) bytes.items × (0 < length bytes.items)
IsNext remaining before (End ending) = MayEnd (coming_behind remaining before) ending

-- what a file gives that was to give these known bytes, and then those
abbrev pub IsGiven : {D : Type 0} → Option (List ℕ) → Option (List ℕ) → Piece D → Type 0
IsGiven old new (Start device) = ⊥
IsGiven old new (Bytes bytes) = Consumes old new bytes.items × (0 < length bytes.items)
IsGiven old new (End ending) = MayEnd old ending

-- what is still to be handed over
abbrev pub pieces_remaining : {D : Type 0} → (D → Option (List ℕ)) → Pieces D → Option (List ℕ)
pieces_remaining remaining pieces = coming_behind remaining (received pieces.receiver)

-- whether the fault with which the data ended, if it did, ends it
abbrev pub is_told_ending : Option Ending → Bool
is_told_ending (Some (Ended fault)) = ends_by fault
is_told_ending other = true
