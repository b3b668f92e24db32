-- Runs written out, one byte of the text after the other.
use Rattle.std.proofs.Common.{◌≡◌, ◌≢◌, ℕ, zero, suc, ◌+◌, ◌-◌, ◌<◌, ◌≤◌, List, [], ◌∷◌, ◌++◌, Bool, true, false, length, take, drop, replicate, slice_index, refl, sym, ap, ◌∙◌, arith, length-append, append_assoc, length-take-le, take-append-drop, subst}
use Rattle.std.specs.Prelude.{◌==◌, if◌then◌else◌}
use Rattle.std.proofs.Math.Seq.{drop-append_seam, drop-cons, take-append_seam, take-append-add, take-suc}
use Rattle.std.proofs.lemmas.List.{get_or-drop, length-replicate, take-append-le}
use borrow.Rule.Slice.PartMut.{put_mid, post_of}
use Rattle.bzip2_reader.specs.declared.runs.Runs.{Runs}
use Rattle.bzip2_reader.specs.Runs.{IsSettled, IsWithin, count_written, left, written, written_from}

-- ---- a text

not_four : (n : ℕ) → n < 4 → (n == 4) ≡ false
not_four (suc (suc (suc (suc n)))) h = absurd (omega arith)
not_four n h = refl

drop_one : (text : List ℕ) (at : ℕ) → at < length text → drop at text ≡ slice_index text at ∷ drop (at + 1) text
drop_one text at more = let next : suc at ≡ at + 1 = omega arith in drop-cons text at 0 more ∙ ap (λ n. slice_index text at ∷ drop n text) next

-- a byte that is no count
one_more : (text : List ℕ) (at last same : ℕ) → at < length text → same < 4
    → written_from last same (drop at text) ≡ slice_index text at ∷ written_from (slice_index text at) (if slice_index text at == last then same + 1 else 1) (drop (at + 1) text)
unfolding written_from
one_more text at last same more few =
    let b = slice_index text at in
    let rest = drop (at + 1) text in
    ap (written_from last same) (drop_one text at more)
    ∙ ap (λ (c : Bool). if c then replicate b last ++ written_from last 0 rest else b ∷ written_from b (if b == last then same + 1 else 1) rest) (not_four same few)

-- a count
pub count_there : (text : List ℕ) (at last same : ℕ) → at < length text → same ≡ 4
    → written_from last same (drop at text) ≡ replicate (slice_index text at) last ++ written_from last 0 (drop (at + 1) text)
unfolding written_from
count_there text at last same more four = ap (λ n. written_from last n (drop at text)) four ∙ ap (written_from last 4) (drop_one text at more)

-- nothing behind the last byte
none_there : (text : List ℕ) (at last same : ℕ) → length text ≤ at → written_from last same (drop at text) ≡ []
unfolding written_from
none_there [] zero last same end = refl
none_there [] (suc at) last same end = refl
none_there (b ∷ text) zero last same end = absurd (omega arith)
none_there (b ∷ text) (suc at) last same end = none_there text at last same (omega (arith, end))

-- the front of a list and one more
front_more : (xs : List ℕ) (n : ℕ) → n < length xs → take (n + 1) xs ≡ take n xs ++ slice_index xs n ∷ []
front_more xs n h = let next : n + 1 ≡ suc n = omega arith in ap (λ k. take k xs) next ∙ take-suc xs n 0 h

behind : (text : List ℕ) (from n : ℕ) → slice_index (drop from text) n ≡ slice_index text (from + n)
behind text from n = get_or-drop from text n 0

pub length_behind : (text : List ℕ) (from : ℕ) → from ≤ length text → length (drop from text) + from ≡ length text
length_behind text zero h = omega arith
length_behind [] (suc from) h = absurd (omega (arith, h))
length_behind (b ∷ text) (suc from) h = let rest = length_behind text from (omega (arith, h)) in omega (arith, rest)

-- a stretch and one byte more
pub stretch_more : (text : List ℕ) (before same_before from end last same same_now : ℕ) → from ≤ end → end < length text → same < 4
    → same_now ≡ (if slice_index text end == last then same + 1 else 1)
    → written_from before same_before (drop from text) ≡ take (end - from) (drop from text) ++ written_from last same (drop end text)
    → written_from before same_before (drop from text) ≡ take (end + 1 - from) (drop from text) ++ written_from (slice_index text end) same_now (drop (end + 1) text)
stretch_more text before same_before from end last same same_now in_order more few now so_far =
    let b = slice_index text end in
    let rest = drop from text in
    let after = drop (end + 1) text in
    let n = end - from in
    let size = length_behind text from (omega (arith, in_order, more)) in
    let inside : n < length rest = omega (arith, size, in_order, more) in
    let place : from + n ≡ end = omega (arith, in_order) in
    let next : end + 1 - from ≡ n + 1 = omega (arith, in_order) in
    let byte : slice_index rest n ≡ b = behind text from n ∙ ap (slice_index text) place in
    let front : take (end + 1 - from) rest ≡ take n rest ++ b ∷ [] = ap (λ k. take k rest) next ∙ front_more rest n inside ∙ ap (λ x. take n rest ++ x ∷ []) byte in
    so_far ∙ ap (λ l. take n rest ++ l) (one_more text end last same more few ∙ ap (λ k. b ∷ written_from b k after) (sym now))
    ∙ sym (append_assoc (take n rest) (b ∷ []) (written_from b same_now after)) ∙ ap (λ l. l ++ written_from b same_now after) (sym front)

-- no more equal ones than before a count
pub few_more : (same same_now byte last : ℕ) → same < 4 → same_now ≡ (if byte == last then same + 1 else 1) → same_now ≤ 4
few_more same same_now byte last few now =
    elim (byte == last) as (λ b. same_now ≡ (if b then same + 1 else 1) → same_now ≤ 4) [ true ↦ λ e. omega (arith, e) | false ↦ λ e. omega (arith, e) ] now

-- ---- a buffer

-- what was written to the front of a buffer
pub front_is : (n : ℕ) (xs ys : List ℕ) → length xs ≡ n → take n (xs ++ ys) ≡ xs
front_is n xs ys size = ap (λ k. take k (xs ++ ys)) (sym size) ∙ take-append_seam xs ys

-- the front of a buffer, and what was written behind it
pub front_put : (a k n : ℕ) (xs ys : List ℕ) → a ≤ length xs → n ≤ length ys → take (a + n) (put_mid a k xs ys) ≡ take a xs ++ take n ys
front_put a k n xs ys within fits =
    let after = post_of a k xs in
    ap (λ m. take (m + n) (take a xs ++ (ys ++ after))) (sym (length-take-le a xs within))
    ∙ take-append-add (take a xs) (ys ++ after) n ∙ ap (λ l. take a xs ++ l) (take-append-le n ys after fits)

-- ---- how far a text was written out

pub none_left : (text : List ℕ) (runs : Runs) → runs.owed ≡ 0 → length text ≤ runs.at → left text runs ≡ []
none_left text runs none end =
    ap (λ n. replicate n runs.last ++ written_from runs.last runs.same (drop runs.at text)) none ∙ none_there text runs.at runs.last runs.same end

pub within_first : (text : List ℕ) (runs : Runs) → left text runs ≡ written text → IsWithin text runs
within_first text runs all =
    let size : 0 ≡ length (written text) - length (left text runs) = (let same = ap length all in omega (arith, same)) in
    all ∙ ap (λ n. drop n (written text)) size

-- one more piece
module _ (text piece : List ℕ) (old new : Runs) (was : IsWithin text old) (gave : left text old ≡ piece ++ left text new) where
  abbrev whole : List ℕ
  whole = written text

  abbrev before : ℕ
  before = count_written text old

  split : drop before whole ≡ piece ++ left text new
  split = sym was ∙ gave

  pub within_more : IsWithin text new
  within_more =
      let front = take before whole ++ piece in
      let whole_is : whole ≡ front ++ left text new = sym (take-append-drop before whole) ∙ ap (λ l. take before whole ++ l) split ∙ sym (append_assoc (take before whole) piece (left text new)) in
      let size = ap length whole_is ∙ length-append front (left text new) in
      sym (ap (λ n. drop n whole) {y = length front} (omega (arith, size)) ∙ ap (drop (length front)) whole_is ∙ drop-append_seam front (left text new))

-- ---- some is left

not_none : (n : ℕ) (xs : List ℕ) → 0 < n → length xs ≡ n → xs ≢ []
not_none n xs some size e = omega (arith, some, size, ap length e)

pub some_owed : (text : List ℕ) (runs : Runs) → 0 < runs.owed → left text runs ≢ []
some_owed text runs some e =
    let size = ap length e in
    omega (arith, some, size, length-append (replicate runs.owed runs.last) (written_from runs.last runs.same (drop runs.at text)), length-replicate runs.owed runs.last)

pub some_there : (text : List ℕ) (runs : Runs) → IsSettled text runs → runs.owed ≡ 0 → runs.at < length text → left text runs ≢ []
some_there text runs settled none more e =
    let few : runs.same < 4 = by runs.same settled.0 settled.1 in
    let now : replicate 0 runs.last ++ written_from runs.last runs.same (drop runs.at text) ≡ [] = subst (λ (n : ℕ). replicate n runs.last ++ written_from runs.last runs.same (drop runs.at text) ≡ []) none e in
    apart _ _ (sym (one_more text runs.at runs.last runs.same more few) ∙ now)
  where
    by : (n : ℕ) → n ≤ 4 → (n ≡ 4 → length text ≤ runs.at) → n < 4
    by n h g = grind arith

    apart : (x : ℕ) (xs : List ℕ) → x ∷ xs ≡ [] → ⊥
    apart x xs e = cc
