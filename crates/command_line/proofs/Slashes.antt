-- The first slash in the text of a prefix.
use Rattle.std.proofs.Common.{◌≡◌, ℕ, zero, suc, ◌+◌, ◌<◌, Bool, false, eqb, List, [], ◌∷◌, ◌++◌, length, get_or, take, drop, Some, refl, sym, ap, ◌∙◌, arith}
use Rattle.std.specs.List.{position}
use Rattle.std.proofs.lemmas.Bool.{ne_eqb, eqb-true}
use Rattle.std.proofs.lemmas.List.{take-append-drop}
use Rattle.std.proofs.lemmas.List.Quantifiers.{position-Some}
use Rattle.std.proofs.Math.Seq.{take-append_seam, drop-append-add, drop-cons}
use Rattle.command_line.specs.Choices.{IsPlain}
use Rattle.command_line.proofs.Points.{first_behind}

abbrev pub is_slash : ℕ → Bool
is_slash byte = eqb byte 47

none_at : (xs : List ℕ) → IsPlain xs → (k : ℕ) → k < length xs → is_slash (get_or xs k 0) ≡ false
none_at [] plain k h = absurd (omega arith)
none_at (x ∷ xs) plain zero h = ne_eqb x 47 plain.0.2
none_at (x ∷ xs) plain (suc k) h = none_at xs plain.1 k (omega arith)

-- no slash stands in a plain text
pub no_slash : (text : List ℕ) (p : ℕ) → IsPlain text → position is_slash text ≡ Some p → ⊥
no_slash text p plain e =
    let at = position-Some is_slash text p 0 e in
    let none = none_at text plain p at.0 in
    let some = at.1 in
    cc

-- the first slash is the one behind a plain text
pub slash_behind : (text front rest : List ℕ) → IsPlain front → text ≡ front ++ 47 ∷ rest → position is_slash text ≡ Some (length front)
slash_behind text front rest plain e = ap (position is_slash) e ∙ first_behind is_slash 47 front rest refl (none_at front plain)

same_place : (text front rest : List ℕ) (p : ℕ) → IsPlain front → text ≡ front ++ 47 ∷ rest → position is_slash text ≡ Some p → p ≡ length front
same_place text front rest p plain e found = let at = slash_behind text front rest plain e in cc

pub front_of_slash : (text front rest : List ℕ) (p : ℕ) → IsPlain front → text ≡ front ++ 47 ∷ rest → position is_slash text ≡ Some p → take p text ≡ front
front_of_slash text front rest p plain e found =
    ap (λ k. take k text) (same_place text front rest p plain e found) ∙ ap (take (length front)) e ∙ take-append_seam front (47 ∷ rest)

pub rest_of_slash : (text front rest : List ℕ) (p : ℕ) → IsPlain front → text ≡ front ++ 47 ∷ rest → position is_slash text ≡ Some p → drop (p + 1) text ≡ rest
rest_of_slash text front rest p plain e found =
    ap (λ k. drop (k + 1) text) (same_place text front rest p plain e found) ∙ ap (drop (length front + 1)) e ∙ drop-append-add front (47 ∷ rest) 1

pub cut_at_slash : (text : List ℕ) (p : ℕ) → position is_slash text ≡ Some p → text ≡ take p text ++ 47 ∷ drop (p + 1) text
cut_at_slash text p e =
    let at = position-Some is_slash text p 0 e in
    let byte : get_or text p 0 ≡ 47 = eqb-true (get_or text p 0) 47 at.1 in
    sym (take-append-drop p text) ∙ ap (λ l. take p text ++ l) (drop-cons text p 0 at.0 ∙ ap (λ b. b ∷ drop (suc p) text) byte ∙ ap (λ k. 47 ∷ drop k text) {x = suc p} {y = p + 1} (omega arith))
