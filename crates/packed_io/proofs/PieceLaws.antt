-- What is handed over of a file is what it gives.
use Rattle.std.proofs.Common.{Bool, true, ◌≡◌, ◌+◌, ◌<◌, ℕ, List, [], ◌∷◌, ◌++◌, append-nil, Option, None, Some, false, refl, sym, ap, ◌∙◌, length, length-append, drop, subst, arith}
use Rattle.std.specs.List.{flat_map}
use Rattle.std.specs.Option.{option_map}
use Rattle.std.specs.Prelude.{⊤, IfSome, is_some}
use Rattle.std.specs.Io.KnownBytes.{Consumes, IsAtEnd, Keeps, prepend_known}
use Rattle.std.proofs.lemmas.List.{drop-drop}
use Rattle.std.proofs.lemmas.Grind.{flat_map-append}
use Rattle.std.proofs.Math.Seq.{drop-append_seam}
use Rattle.std.specs.Global.{Vec}
use Rattle.packed_io.specs.Ahead.{unless_ended}
use Rattle.packed_io.specs.Making.{IsLeftBy, with_kept}
use Rattle.packed_io.specs.Pieces.{IsGiven, IsNext, MayEnd, coming_behind, piece_bytes, told_by}
use Rattle.packed_io.specs.Reading.{unpacked_remaining}
use Rattle.packed_io.specs.declared.pieces.Ending.{Ending}
use Rattle.packed_io.specs.declared.pieces.Ending.TheVariants.{Ended, Failed}
use Rattle.packed_io.specs.declared.pieces.Piece.{Piece}
use Rattle.packed_io.specs.declared.pieces.Piece.TheVariants.{Start, Bytes, End}
use Rattle.packed_io.specs.declared.unpacked.Unpacked.{Unpacked}

whole : (known : Option (List ℕ)) → option_map (λ bytes. drop 0 bytes) known ≡ known
whole None = refl
whole (Some bytes) = refl

behind_more : (m n : ℕ) (known : Option (List ℕ)) → option_map (λ bytes. drop (m + n) bytes) known ≡ option_map (λ bytes. drop n bytes) (option_map (λ bytes. drop m bytes) known)
behind_more m n None = refl
behind_more m n (Some bytes) = ap Some (sym (drop-drop n m bytes))

-- behind one piece more its bytes are no longer to come
pub coming_behind_more : {D : Type 0} (remaining : D → Option (List ℕ)) (before : List (Piece D)) (piece : Piece D) → 0 < length before → coming_behind remaining (before ++ piece ∷ []) ≡ option_map (λ bytes. drop (length (piece_bytes piece)) bytes) (coming_behind remaining before)
coming_behind_more remaining [] piece some = absurd (omega (arith, some))
coming_behind_more remaining (first ∷ pieces) piece some =
    let bytes : flat_map piece_bytes (pieces ++ piece ∷ []) ≡ flat_map piece_bytes pieces ++ piece_bytes piece =
    flat_map-append piece_bytes pieces (piece ∷ []) ∙ ap (λ xs. flat_map piece_bytes pieces ++ xs) (append-nil (piece_bytes piece)) in
    let size : length (flat_map piece_bytes (pieces ++ piece ∷ [])) ≡ length (flat_map piece_bytes pieces) + length (piece_bytes piece) =
    ap length bytes ∙ length-append (flat_map piece_bytes pieces) (piece_bytes piece) in
    ap (λ n. option_map (λ bytes. drop n bytes) (told_by remaining first)) size ∙ behind_more (length (flat_map piece_bytes pieces)) (length (piece_bytes piece)) (told_by remaining first)

consumed : (known old new : Option (List ℕ)) (bytes : List ℕ) → Keeps known old → Consumes old new bytes → Consumes known (option_map (λ xs. drop (length bytes) xs) known) bytes
consumed None old new bytes keeps given = tt
consumed (Some xs) None new bytes keeps given = elim keeps [ ]
consumed (Some xs) (Some ys) None bytes keeps given = elim given [ ]
consumed (Some xs) (Some ys) (Some zs) bytes keeps given =
    let is : xs ≡ bytes ++ zs = sym keeps ∙ given in
    is ∙ ap (λ rest. bytes ++ rest) (sym (ap (λ l. drop (length bytes) l) is ∙ drop-append_seam bytes zs))

left : (known old new : Option (List ℕ)) (bytes : List ℕ) → Keeps known old → Consumes old new bytes → Keeps (option_map (λ xs. drop (length bytes) xs) known) new
left None old new bytes keeps given = tt
left (Some xs) None new bytes keeps given = elim keeps [ ]
left (Some xs) (Some ys) None bytes keeps given = elim given [ ]
left (Some xs) (Some ys) (Some zs) bytes keeps given = sym (ap (λ l. drop (length bytes) l) (sym keeps ∙ given) ∙ drop-append_seam bytes zs)

at_end : (known old : Option (List ℕ)) → Keeps known old → IsAtEnd old → IsAtEnd known
at_end None old keeps end = tt
at_end (Some xs) None keeps end = elim keeps [ ]
at_end (Some xs) (Some ys) keeps end = sym keeps ∙ end

may_end : (known old : Option (List ℕ)) (ending : Ending) → Keeps known old → MayEnd old ending → MayEnd known ending
may_end known old (Ended fault) keeps end = (at_end known old keeps end.0, end.1)
may_end known old (Failed fault error) keeps end = tt

-- what the file gives, if it gives what comes behind these pieces, is the next one
pub given_next : {D : Type 0} (remaining : D → Option (List ℕ)) (before : List (Piece D)) (old new : Option (List ℕ)) (piece : Piece D) → 0 < length before → Keeps (coming_behind remaining before) old → IsGiven old new piece → IsNext remaining before piece
given_next remaining before old new (Start device) some keeps given = absurd given
given_next remaining before old new (Bytes bytes) some keeps given =
    (subst (λ known. Consumes (coming_behind remaining before) known bytes.items) (sym (coming_behind_more remaining before (Bytes bytes) some)) (consumed (coming_behind remaining before) old new bytes.items keeps given.0), given.1)
given_next remaining before old new (End ending) some keeps given = may_end (coming_behind remaining before) old ending keeps given

-- and then it gives what comes behind that one
pub given_left : {D : Type 0} (remaining : D → Option (List ℕ)) (before : List (Piece D)) (old new : Option (List ℕ)) (bytes : Vec ℕ) → 0 < length before → Keeps (coming_behind remaining before) old → IsGiven {D = D} old new (Bytes bytes) → Keeps (coming_behind remaining (before ++ Bytes bytes ∷ [])) new
given_left remaining before old new bytes some keeps given =
    subst (λ known. Keeps known new) (sym (coming_behind_more remaining before (Bytes bytes) some)) (left (coming_behind remaining before) old new bytes.items keeps given.0)

abbrev Yes : Bool → Type 0
Yes true = ⊤
Yes false = ⊥

-- what unpacks a file and gave a piece where none was kept may keep it
pub made : {D : Type 0} (remaining : D → Option (List ℕ)) (pieces : List (Piece D)) (kept : Option (Piece D)) (old new : Unpacked D) (contents : Option (Unpacked D)) (piece : Piece D) → 0 < length pieces → is_some kept ≡ false
    → Keeps (coming_behind remaining (with_kept pieces kept)) (unpacked_remaining remaining old) → IsGiven (unpacked_remaining remaining old) (unpacked_remaining remaining new) piece → IsLeftBy piece (Some new) contents
    → IsNext remaining pieces piece × IfSome contents (λ u. Keeps (coming_behind remaining (pieces ++ piece ∷ [])) (unpacked_remaining remaining u))
made remaining pieces (Some kept) old new contents piece some none keeps given gone = absurd (subst Yes none tt)
made remaining pieces None old new contents (Start device) some none keeps given gone = absurd given
made remaining pieces None old new contents (Bytes bytes) some none keeps given gone = (
  given_next remaining pieces (unpacked_remaining remaining old) (unpacked_remaining remaining new) (Bytes bytes) some keeps given,
  subst (λ c. IfSome c (λ u. Keeps (coming_behind remaining (pieces ++ Bytes bytes ∷ [])) (unpacked_remaining remaining u))) (sym gone)
      (given_left remaining pieces (unpacked_remaining remaining old) (unpacked_remaining remaining new) bytes some keeps given),
)
made remaining pieces None old new contents (End ending) some none keeps given gone = (
  given_next remaining pieces (unpacked_remaining remaining old) (unpacked_remaining remaining new) (End ending) some keeps given,
  subst (λ c. IfSome c (λ u. Keeps (coming_behind remaining (pieces ++ End ending ∷ [])) (unpacked_remaining remaining u))) (sym gone) tt,
)

-- where the end was taken nothing is left
at_its_end : (known : Option (List ℕ)) → IsAtEnd known → Keeps (prepend_known [] known) (Some [])
at_its_end None end = tt
at_its_end (Some xs) end = sym end

same : (known : Option (List ℕ)) → Keeps (prepend_known [] known) (prepend_known [] known)
same None = tt
same (Some xs) = refl

-- behind an end as much is to come as before it
behind_end : {D : Type 0} (remaining : D → Option (List ℕ)) (before : List (Piece D)) (ending : Ending) → Keeps (prepend_known [] (coming_behind remaining before)) (prepend_known [] (coming_behind remaining (before ++ End ending ∷ [])))
behind_end remaining [] ending = tt
behind_end remaining (first ∷ pieces) ending =
    subst (λ known. Keeps (prepend_known [] (coming_behind remaining (first ∷ pieces))) (prepend_known [] known)) (sym (coming_behind_more remaining (first ∷ pieces) (End ending) (omega arith) ∙ whole (coming_behind remaining (first ∷ pieces))))
    (same (coming_behind remaining (first ∷ pieces)))

-- what is to be given stays as it was where the end was taken
pub end_taken : {D : Type 0} (remaining : D → Option (List ℕ)) (before after : List (Piece D)) (ending : Ending) (given : List ℕ) → MayEnd (coming_behind remaining before) ending → after ≡ before ++ End ending ∷ [] → given ≡ []
    → Keeps (prepend_known [] (coming_behind remaining before)) (unless_ended (Some ending) (prepend_known given (coming_behind remaining after)))
end_taken remaining before after (Ended fault) given may is none = at_its_end (coming_behind remaining before) may.0
end_taken remaining before after (Failed fault error) given may is none =
    subst (λ (pieces : List (Piece _)). Keeps (prepend_known [] (coming_behind remaining before)) (prepend_known given (coming_behind remaining pieces))) (sym is)
    (subst (λ (bytes : List ℕ). Keeps (prepend_known [] (coming_behind remaining before)) (prepend_known bytes (coming_behind remaining (before ++ End (Failed fault error) ∷ [])))) (sym none)
    (behind_end remaining before (Failed fault error)))

-- a reader that waits for more has to give what is to come
pub waits : (ending : Option Ending) (given : List ℕ) (known : Option (List ℕ)) → given ≡ [] → ending ≡ None → unless_ended ending (prepend_known given known) ≡ prepend_known [] known
waits ending given known none e = ap (λ x. unless_ended x (prepend_known given known)) e ∙ ap (λ bytes. prepend_known bytes known) none
