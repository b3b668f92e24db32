-- Octets before a point.
use Rattle.std.proofs.Common.{◌≡◌, ℕ, zero, suc, ◌+◌, ◌-◌, ◌≤◌, ◌<◌, Bool, false, true, eqb, List, [], ◌∷◌, ◌++◌, length, get_or, take, drop, Some, refl, sym, ap, subst, ◌∙◌, arith, length-append, length-drop}
use Rattle.std.specs.List.{AllByRecursion, position, position_or_len}
use Rattle.std.specs.Fmt.{decimal}
use Rattle.std.proofs.lemmas.Bool.{ne_eqb, eqb-true}
use Rattle.std.proofs.lemmas.List.{take-append-drop}
use Rattle.std.proofs.lemmas.List.Sums.{position_or_len_is}
use Rattle.std.proofs.lemmas.List.Quantifiers.{position-Some}
use Rattle.std.proofs.Math.ListN.{get_or-append}
use Rattle.std.proofs.Math.Seq.{get_or-append_seam, take-append_seam, drop-append-add, drop-cons, take-length}
use Rattle.command_line.specs.Addresses.{IsOctet, StartsWithOctet}
use Rattle.command_line.proofs.Octets.{one, two, three, form_of}

abbrev pub is_point : ℕ → Bool
is_point byte = eqb byte 46

pub above_point : (text : List ℕ) → AllByRecursion (λ d. 48 ≤ d) text → (k : ℕ) → k < length text → is_point (get_or text k 0) ≡ false
above_point [] all k h = absurd (omega arith)
above_point (x ∷ xs) all zero h = ne_eqb x 46 (λ e. omega (arith, all.0))
above_point (x ∷ xs) all (suc k) h = above_point xs all.1 k (omega arith)

pub digits_above : (text : List ℕ) (n : ℕ) → IsOctet text n → AllByRecursion (λ d. 48 ≤ d) text
digits_above text n o = elim (form_of text n o) [
  | one small e ↦ subst (AllByRecursion (λ d. 48 ≤ d)) (sym e) (omega arith, tt)
  | two lo hi e ↦ subst (AllByRecursion (λ d. 48 ≤ d)) (sym e) (omega arith, (omega arith, tt))
  | three lo hi e ↦ subst (AllByRecursion (λ d. 48 ≤ d)) (sym e) (omega arith, (omega arith, (omega arith, tt)))
]

pub octet_itself : (n : ℕ) → n < 256 → IsOctet (decimal n) n
octet_itself n h = record { below = h; written = refl }

-- what passes a test first is what stands behind bytes that don't
pub first_behind : (test : ℕ → Bool) (mark : ℕ) (front rest : List ℕ) → test mark ≡ true → ((k : ℕ) → k < length front → test (get_or front k 0) ≡ false) → position test (front ++ mark ∷ rest) ≡ Some (length front)
first_behind test mark front rest passes none =
    let long = length-append front (mark ∷ rest) in
    let at : position_or_len test (front ++ mark ∷ rest) ≡ length front = position_or_len_is test (front ++ mark ∷ rest) (length front) 0 (omega (arith, long))
    (λ k h. ap test (get_or-append front (mark ∷ rest) 0 k h) ∙ none k h)
    (λ h. ap test (get_or-append_seam front mark rest 0) ∙ passes) in
    grind (arith, at, long)

-- the first point stands behind the octet
pub point_behind : (text : List ℕ) (n : ℕ) (rest : List ℕ) → StartsWithOctet text n rest → position is_point text ≡ Some (length (decimal n))
point_behind text n rest s =
    ap (position is_point) s.written ∙ first_behind is_point 46 (decimal n) rest refl (above_point (decimal n) (digits_above (decimal n) n (octet_itself n s.below)))

same_place : (text : List ℕ) (n : ℕ) (rest : List ℕ) (p : ℕ) → StartsWithOctet text n rest → position is_point text ≡ Some p → p ≡ length (decimal n)
same_place text n rest p s e = let at = point_behind text n rest s in cc

pub front_of : (text : List ℕ) (n : ℕ) (rest : List ℕ) (p : ℕ) → StartsWithOctet text n rest → position is_point text ≡ Some p → IsOctet (take p text) n
front_of text n rest p s e = record { below = s.below; written = ap (λ k. take k text) (same_place text n rest p s e) ∙ ap (take (length (decimal n))) s.written ∙ take-append_seam (decimal n) (46 ∷ rest) }

pub rest_of : (text : List ℕ) (n : ℕ) (rest : List ℕ) (p : ℕ) → StartsWithOctet text n rest → position is_point text ≡ Some p → rest ≡ drop (p + 1) text
rest_of text n rest p s e = sym (ap (λ k. drop (k + 1) text) (same_place text n rest p s e) ∙ ap (drop (length (decimal n) + 1)) s.written ∙ drop-append-add (decimal n) (46 ∷ rest) 1)

pub cut_at : (text : List ℕ) (n p : ℕ) → position is_point text ≡ Some p → IsOctet (take p text) n → StartsWithOctet text n (drop (p + 1) text)
cut_at text n p e o =
    let at = position-Some is_point text p 0 e in
    let byte : get_or text p 0 ≡ 46 = eqb-true (get_or text p 0) 46 at.1 in
    record {
      below = o.below;
      written = sym (take-append-drop p text) ∙ ap (λ l. take p text ++ l) (drop-cons text p 0 at.0 ∙ ap (λ b. b ∷ drop (suc p) text) byte ∙ ap (λ k. 46 ∷ drop k text) {x = suc p} {y = p + 1} (omega arith)) ∙ ap (λ l. l ++ 46 ∷ drop (p + 1) text) o.written;
    }

pub to_the_end : (i : ℕ) (text : List ℕ) → take (length text - i) (drop i text) ≡ drop i text
to_the_end i text = ap (λ k. take k (drop i text)) (sym (length-drop i text)) ∙ take-length (drop i text)
