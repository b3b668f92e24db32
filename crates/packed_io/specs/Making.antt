-- What unpacks a file keeps of it.
use Rattle.std.specs.Prelude.{◌≡◌, ◌<◌, length, List, [], ◌∷◌, ◌++◌, ℕ, Option, None, Some, IfSome}
use Rattle.std.specs.Io.KnownBytes.{Keeps}
use Rattle.rtrb.specs.Ring.{sent}
use Rattle.std.specs.declared.alloc.Global.{Global}
use Rattle.rtrb.specs.declared.producer.Producer.{Producer}
use Rattle.packed_io.specs.Pieces.{IsNext, coming_behind}
use Rattle.packed_io.specs.Reading.{unpacked_remaining}
use Rattle.packed_io.specs.declared.pieces.InOrder.{InOrder}
use Rattle.packed_io.specs.declared.pieces.Piece.{Piece}
use Rattle.packed_io.specs.declared.pieces.Piece.TheVariants.{Start, Bytes, End}
use Rattle.packed_io.specs.declared.unpacked.Unpacked.{Unpacked}

-- the pieces that were handed over, and the one that is kept
abbrev pub with_kept : {D : Type 0} → List (Piece D) → Option (Piece D) → List (Piece D)
with_kept pieces None = pieces
with_kept pieces (Some kept) = pieces ++ kept ∷ []

-- what unpacks a file is left by a piece, but not by its end
abbrev pub IsLeftBy : {D : Type 0} → Piece D → Option (Unpacked D) → Option (Unpacked D) → Type 0
IsLeftBy (End ending) old new = new ≡ None
IsLeftBy other old new = new ≡ old

-- the first piece was handed over, the one that is kept may be, and what unpacks the file gives what comes behind it
abbrev pub IsMaking : {D : Type 0} → (D → Option (List ℕ)) → Option (Unpacked D) → Option (Piece D) → Producer (Piece D) Global InOrder → Type 0
IsMaking remaining contents kept sender =
    (0 < length (sent sender))
    × IfSome kept (IsNext remaining (sent sender))
    × IfSome contents (λ u. Keeps (coming_behind remaining (with_kept (sent sender) kept)) (unpacked_remaining remaining u))
