-- What the reader of a file that others may unpack has still to give.
use Rattle.std.specs.Prelude.{◌≡◌, ◌<◌, ⊤, ℕ, List, [], Option, None, Some, drop, length}
use Rattle.std.specs.Io.KnownBytes.{prepend_known}
use Rattle.packed_io.specs.Pieces.{pieces_remaining}
use Rattle.packed_io.specs.declared.packed_reader.PackedReader.{PackedReader}
use Rattle.packed_io.specs.declared.pieces.Ending.{Ending}
use Rattle.packed_io.specs.declared.pieces.Ending.TheVariants.{Ended, Failed}

-- what wasn't given yet of the piece that was read last
abbrev pub not_given : {D P : Type 0} → PackedReader D P → List ℕ
not_given r = drop r.given r.bytes.items

-- of a file that ended nothing is left
abbrev pub unless_ended : Option Ending → Option (List ℕ) → Option (List ℕ)
unless_ended (Some (Ended fault)) known = Some []
unless_ended other known = known

-- the bytes that it will give, where they are known
abbrev pub reader_remaining : {D P : Type 0} → (D → Option (List ℕ)) → PackedReader D P → Option (List ℕ)
reader_remaining remaining r = unless_ended r.ending (prepend_known (not_given r) (pieces_remaining remaining r.pieces))

-- it has given all that it was handed, and waits for more
abbrev pub WaitsForMore : {D P : Type 0} → PackedReader D P → Type 0
WaitsForMore r = (not_given r ≡ []) × (r.ending ≡ None)

-- there is a byte to give, or the end or a failure was told
abbrev pub GoesOn : Option Ending → List ℕ → Type 0
GoesOn None bytes = 0 < length bytes
GoesOn (Some ending) bytes = ⊤

abbrev pub HasMore : {D P : Type 0} → PackedReader D P → Type 0
HasMore r = GoesOn r.ending (not_given r)

-- the file was read to its end
abbrev pub IsAtItsEnd : Option Ending → Type 0
IsAtItsEnd (Some (Ended fault)) = ⊤
IsAtItsEnd other = ⊥

abbrev pub HasEnded : {D P : Type 0} → PackedReader D P → Type 0
HasEnded r = IsAtItsEnd r.ending
