-- The names in a text, one after the other.
use Rattle.std.proofs.Common.{◌≡◌, ℕ, ◌+◌, ◌≤◌, ◌<◌, ◌==◌, true, false, cond, List, [], ◌∷◌, ◌++◌, length, refl, sym, ap, ◌∙◌, arith, append_assoc}
use Rattle.std.specs.Str.{IsUtf8}
use Rattle.std.proofs.lemmas.List.{append-nil, length-append}
use Rattle.std.proofs.lemmas.List.Splits.{length-slice_split}
use Rattle.command_line.specs.FileLists.{IsNoText, is_passed, names_of, pieces_of}

-- what was read before the name of this number, and what is left
pub record IsRead (end : ℕ) (text rest : List ℕ) (number : ℕ) (names : List (List ℕ)) : Type 0 where
  pub before : List (List ℕ)
  pub whole : pieces_of end text ≡ before ++ pieces_of end rest
  pub counted : number ≡ length before + 1
  pub named : names_of end (pieces_of end text) ≡ names ++ names_of end (pieces_of end rest)
  pub short : number + length rest ≤ length text + 1

pub nothing_read : (end : ℕ) (text : List ℕ) → IsRead end text text 1 []
nothing_read end text = record { before = []; whole = refl; counted = omega arith; named = refl; short = omega arith }

-- a text has a piece at least
pub some_piece : (end : ℕ) (text : List ℕ) → 0 < length (pieces_of end text)
some_piece end text = omega (arith, length-slice_split (λ byte. byte == end) text)

names_more : (end : ℕ) (piece : List ℕ) (pieces : List (List ℕ)) → 0 < length pieces → names_of end (piece ∷ pieces) ≡ cond (is_passed end false piece) (names_of end pieces) (piece ∷ names_of end pieces)
names_more end piece [] some = absurd (omega arith)
names_more end piece (next ∷ more) some = refl

module _ (end : ℕ) (text rest : List ℕ) (number : ℕ) (names : List (List ℕ)) (so_far : IsRead end text rest number names) (name : List ℕ) where
  pub pass_over : (left : List ℕ) → pieces_of end rest ≡ name ∷ pieces_of end left → length left < length rest → is_passed end false name ≡ true → IsRead end text left (number + 1) names
  pass_over left first shorter passed = record {
    before = so_far.before ++ name ∷ [];
    whole = so_far.whole ∙ ap (λ (l : List (List ℕ)). so_far.before ++ l) first ∙ sym (append_assoc so_far.before (name ∷ []) (pieces_of end left));
    counted = omega (arith, so_far.counted, length-append so_far.before (name ∷ []));
    named = so_far.named ∙ ap (λ (l : List (List ℕ)). names ++ l) (ap (names_of end) first ∙ names_more end name (pieces_of end left) (some_piece end left) ∙ ap (λ b. cond b (names_of end (pieces_of end left)) (name ∷ names_of end (pieces_of end left))) passed);
    short = omega (arith, so_far.short, shorter);
  }

  pub read_on : (left : List ℕ) → pieces_of end rest ≡ name ∷ pieces_of end left → length left < length rest → is_passed end false name ≡ false → IsRead end text left (number + 1) (names ++ name ∷ [])
  read_on left first shorter is_name = record {
    before = so_far.before ++ name ∷ [];
    whole = so_far.whole ∙ ap (λ (l : List (List ℕ)). so_far.before ++ l) first ∙ sym (append_assoc so_far.before (name ∷ []) (pieces_of end left));
    counted = omega (arith, so_far.counted, length-append so_far.before (name ∷ []));
    named = so_far.named ∙ ap (λ (l : List (List ℕ)). names ++ l) (ap (names_of end) first ∙ names_more end name (pieces_of end left) (some_piece end left) ∙ ap (λ b. cond b (names_of end (pieces_of end left)) (name ∷ names_of end (pieces_of end left))) is_name) ∙ sym (append_assoc names (name ∷ []) (names_of end (pieces_of end left)));
    short = omega (arith, so_far.short, shorter);
  }
