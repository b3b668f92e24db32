-- Pieces of text in a block.
use Rattle.std.proofs.Common.{◌≡◌, ℕ, ◌+◌, ◌≤◌, List, ◌++◌, refl, sym, ap, ◌∙◌, subst, append_assoc, arith, length, take, take-take, length-take-le}
use Rattle.std.proofs.lemmas.Slice.{take-put_mid}
use Rattle.std.proofs.Math.Seq.{take-append-add}
use borrow.Rule.Slice.PartMut.{put_mid}
use Rattle.ip_text.specs.Formats.{Formats}

pub Formats_trans : {a b c : List ℕ} {i j k m n : ℕ} {p q : List ℕ} → Formats a i b j m p → Formats b j c k n q → Formats a i c k (m + n) (p ++ q)
Formats_trans {a = a} {i = i} {p = p} {q = q} f g = record {
  text = g.text ∙ ap (λ l. l ++ q) f.text ∙ append_assoc (take i a) p q;
  room = omega (arith, f.room, g.room);
  within = g.within;
  same = g.same ∙ f.same;
}

-- the same piece, written another way
pub Formats_as : {a b : List ℕ} {i j m : ℕ} {p q : List ℕ} → p ≡ q → Formats a i b j m p → Formats a i b j m q
Formats_as {a = a} {b = b} {i = i} {j = j} {m = m} e f = subst (Formats a i b j m) e f

-- a higher bound
pub Formats_within : {a b : List ℕ} {i j m n : ℕ} {p : List ℕ} → m ≤ n → Formats a i b j m p → Formats a i b j n p
Formats_within le f = record {
  text = f.text;
  room = omega (arith, le, f.room);
  within = f.within;
  same = f.same;
}

-- the front of a block that was copied whole
pub take-front_put : (a k n : ℕ) (xs ys : List ℕ) → a ≤ length xs → n ≤ length ys → take (a + n) (put_mid a k xs ys) ≡ take a xs ++ take n ys
take-front_put a k n xs ys within fits =
    sym (take-take (a + n) (a + length ys) (put_mid a k xs ys) (omega arith)) ∙ ap (take (a + n)) (take-put_mid a k xs ys (a + length ys) refl within)
    ∙ ap (λ m. take (m + n) (take a xs ++ ys)) (sym (length-take-le a xs within)) ∙ take-append-add (take a xs) ys n
