-- The lines of a text, and what they choose.
use Rattle.std.proofs.Common.{◌≡◌, ℕ, ◌+◌, ◌≤◌, ◌<◌, Bool, true, false, cond, not, eqb, List, [], ◌∷◌, ◌++◌, length, map, take, drop, Some, None, refl, sym, ap, subst, ◌∙◌, arith, append_assoc}
use Rattle.std.specs.List.{AllZip, filter, position}
use Rattle.std.proofs.lemmas.List.{append-nil, length-append, map-append}
use Rattle.std.proofs.lemmas.List.Elements.{filter-append}
use Rattle.peer_units.specs.Plain.{PrefixChoice}
use Rattle.command_line.specs.Choices.{SpellsChoice, IsNoChoice}
use Rattle.command_line.proofs.Pieces.{piece_before, piece_alone}
use Rattle.command_line.specs.Lists.{lines_of, is_blank, in_front, trimmed, is_passed, entries, NameChoices, IsFirstFault}

-- ---- blanks at the end

pub trimmed_blank : (line : List ℕ) (byte : ℕ) → is_blank byte ≡ true → trimmed (line ++ byte ∷ []) ≡ trimmed line
trimmed_blank [] byte blank = ap (λ b. cond b [] (byte ∷ [])) blank
trimmed_blank (first ∷ line) byte blank = ap (in_front first) (trimmed_blank line byte blank)

kept_behind : (first : ℕ) (line : List ℕ) (byte : ℕ) → in_front first (line ++ byte ∷ []) ≡ first ∷ (line ++ byte ∷ [])
kept_behind first [] byte = refl
kept_behind first (next ∷ line) byte = refl

pub trimmed_kept : (line : List ℕ) (byte : ℕ) → is_blank byte ≡ false → trimmed (line ++ byte ∷ []) ≡ line ++ byte ∷ []
trimmed_kept [] byte other = ap (λ b. cond b [] (byte ∷ [])) other
trimmed_kept (first ∷ line) byte other = ap (in_front first) (trimmed_kept line byte other) ∙ kept_behind first line byte

-- ---- the first line

abbrev pub is_feed : ℕ → Bool
is_feed byte = eqb byte 10

pub line_before : (text : List ℕ) (p : ℕ) → position is_feed text ≡ Some p → lines_of text ≡ take p text ∷ lines_of (drop (p + 1) text)
line_before text p found = piece_before 10 text p found

pub line_alone : (text : List ℕ) → position is_feed text ≡ None → lines_of text ≡ text ∷ []
line_alone text none = piece_alone 10 text none

-- ---- what lines choose

entries-more : (before : List (List ℕ)) (line : List ℕ) → entries (before ++ line ∷ []) ≡ entries before ++ cond (not (is_passed (trimmed line))) (trimmed line ∷ []) []
entries-more before line = ap (filter (λ l. not (is_passed l))) (map-append trimmed before (line ∷ [])) ∙ filter-append (λ l. not (is_passed l)) (map trimmed before) (trimmed line ∷ [])

module _ (Spells : List ℕ → ℕ → Type 0) (width : ℕ) where
  pub passed_over : (before : List (List ℕ)) (line : List ℕ) (choices : List PrefixChoice) → is_passed (trimmed line) ≡ true → NameChoices Spells width before choices → NameChoices Spells width (before ++ line ∷ []) choices
  passed_over before line choices passed named =
      subst (λ (l : List (List ℕ)). AllZip (SpellsChoice Spells width) l choices) (sym (entries-more before line ∙ ap (λ b. entries before ++ cond (not b) (trimmed line ∷ []) []) passed ∙ append-nil (entries before))) named

  zip_more : (lines : List (List ℕ)) (choices : List PrefixChoice) (line : List ℕ) (choice : PrefixChoice) → AllZip (SpellsChoice Spells width) lines choices → SpellsChoice Spells width line choice → AllZip (SpellsChoice Spells width) (lines ++ line ∷ []) (choices ++ choice ∷ [])
  zip_more [] [] line choice all one = (one, tt)
  zip_more [] (c ∷ choices) line choice all one = absurd all
  zip_more (l ∷ lines) [] line choice all one = absurd all
  zip_more (l ∷ lines) (c ∷ choices) line choice all one = (all.0, zip_more lines choices line choice all.1 one)

  pub one_named : (before : List (List ℕ)) (line : List ℕ) (choices : List PrefixChoice) (choice : PrefixChoice) → is_passed (trimmed line) ≡ false → SpellsChoice Spells width (trimmed line) choice → NameChoices Spells width before choices → NameChoices Spells width (before ++ line ∷ []) (choices ++ choice ∷ [])
  one_named before line choices choice other spelled named =
      subst (λ (l : List (List ℕ)). AllZip (SpellsChoice Spells width) l (choices ++ choice ∷ [])) (sym (entries-more before line ∙ ap (λ b. entries before ++ cond (not b) (trimmed line ∷ []) []) other)) (zip_more (entries before) choices (trimmed line) choice named spelled)

-- ---- line after line

-- what was read before the line of this number, and what is left
pub record IsRead (Spells : List ℕ → ℕ → Type 0) (width : ℕ) (text rest : List ℕ) (number : ℕ) (choices : List PrefixChoice) : Type 0 where
  pub before : List (List ℕ)
  pub whole : lines_of text ≡ before ++ lines_of rest
  pub counted : number ≡ length before + 1
  pub named : NameChoices Spells width before choices
  pub short : number + length rest ≤ length text + 1

pub nothing_read : (Spells : List ℕ → ℕ → Type 0) (width : ℕ) (text : List ℕ) → IsRead Spells width text text 1 []
nothing_read Spells width text = record { before = []; whole = refl; counted = omega arith; named = tt; short = omega arith }

module _ (Spells : List ℕ → ℕ → Type 0) (width : ℕ) (text rest : List ℕ) (number : ℕ) (choices : List PrefixChoice) (so_far : IsRead Spells width text rest number choices) (line : List ℕ) where
  pub read_on : (left : List ℕ) (more : List PrefixChoice) → lines_of rest ≡ line ∷ lines_of left → length left < length rest → ((before : List (List ℕ)) → NameChoices Spells width before choices → NameChoices Spells width (before ++ line ∷ []) more) → IsRead Spells width text left (number + 1) more
  read_on left more first shorter taken = record {
    before = so_far.before ++ line ∷ [];
    whole = so_far.whole ∙ ap (λ (l : List (List ℕ)). so_far.before ++ l) first ∙ sym (append_assoc so_far.before (line ∷ []) (lines_of left));
    counted = omega (arith, so_far.counted, length-append so_far.before (line ∷ []));
    named = taken so_far.before so_far.named;
    short = omega (arith, so_far.short, shorter);
  }

  pub read_all : (more : List PrefixChoice) → lines_of rest ≡ line ∷ [] → ((before : List (List ℕ)) → NameChoices Spells width before choices → NameChoices Spells width (before ++ line ∷ []) more) → NameChoices Spells width (lines_of text) more
  read_all more last taken = subst (λ (l : List (List ℕ)). NameChoices Spells width l more) (sym (so_far.whole ∙ ap (λ (l : List (List ℕ)). so_far.before ++ l) last)) (taken so_far.before so_far.named)
