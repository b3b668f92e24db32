-- The parts of a text that a byte ends.
use Rattle.std.proofs.Common.{◌≡◌, ℕ, suc, ◌+◌, ◌<◌, Bool, false, eqb, List, [], ◌∷◌, ◌++◌, length, get_or, take, drop, Some, None, refl, sym, ap, subst, ◌∙◌, arith, inl, inr}
use Rattle.std.specs.List.{All, position, position_or_len, slice_split}
use Rattle.std.proofs.lemmas.Bool.{cases_lt, eqb-true, lt-ltb}
use Rattle.std.proofs.lemmas.Bool.Decides.{nat_tests}
use Rattle.std.proofs.lemmas.List.{get_or-take, get_or_default, length-take, take-append-drop}
use Rattle.std.proofs.lemmas.List.Quantifiers.{position-Some}
use Rattle.std.proofs.lemmas.List.Splits.{slice_split_at, slice_split_none}
use Rattle.std.proofs.lemmas.List.Sums.{fails_before_first}
use Rattle.std.proofs.Math.Seq.{drop-cons}

module _ (end : ℕ) where
  abbrev pub is_end : ℕ → Bool
  is_end byte = eqb byte end

  before_end : (text : List ℕ) (p : ℕ) → p < length text → ((k : ℕ) → k < p → is_end (get_or text k 0) ≡ false) → All (λ b. is_end b ≡ false) (take p text)
  before_end text p inside none k d lt =
      let low : k < p = omega (arith, lt, length-take p text, inside) in
      subst (λ b. is_end b ≡ false) (sym (get_or-take p text k d low ∙ get_or_default text k d 0 (omega (arith, low, inside)))) (none k low)

  pub piece_before : (text : List ℕ) (p : ℕ) → position is_end text ≡ Some p → slice_split is_end text ≡ take p text ∷ slice_split is_end (drop (p + 1) text)
  piece_before text p found =
      let at = position-Some is_end text p 0 found in
      let byte : get_or text p 0 ≡ end = eqb-true (get_or text p 0) end at.1 in
      let whole : text ≡ take p text ++ end ∷ drop (p + 1) text = sym (take-append-drop p text) ∙ ap (λ (l : List ℕ). take p text ++ l) (drop-cons text p 0 at.0 ∙ ap (λ b. b ∷ drop (suc p) text) byte ∙ ap (λ k. end ∷ drop k text) {x = suc p} {y = p + 1} (omega arith)) in
      ap (slice_split is_end) whole ∙ slice_split_at is_end (take p text) end (drop (p + 1) text) (before_end text p at.0 at.2) (grind (arith, nat_tests))

  pub piece_alone : (text : List ℕ) → position is_end text ≡ None → slice_split is_end text ≡ text ∷ []
  piece_alone text none = slice_split_none is_end text (λ k d lt. elim (cases_lt (position_or_len is_end text) (length text)) [
    | inl inside ↦ let some : position is_end text ≡ Some (position_or_len is_end text) = rw (lt-ltb (position_or_len is_end text) (length text) inside) refl in cc
    | inr after ↦ fails_before_first is_end text k d (omega (arith, lt, after))
  ])
