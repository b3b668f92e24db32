-- Walks that are joined.
use Rattle.std.proofs.Common.{◌≡◌, ◌<◌, ◌≤◌, ◌+◌, ◌-◌, ◌/◌, ◌%◌, ◌++◌, ◌⊎◌, inl, inr, ℕ, zero, suc, List, [], ◌∷◌, length, length-append, length-drop, length-take-le, drop, take, get_or, refl, sym, ◌∙◌, ap, arith, subst}
use Rattle.std.proofs.Math.ListN.{get_or-append}
use Rattle.std.proofs.lemmas.List.{get_or-append-add, get_or-drop, get_or-take}
use borrow.Rule.Slice.PartMut.{put_mid}
use Rattle.bzip2_reader.specs.declared.walks.Front.{Front}
use Rattle.bzip2_reader.specs.declared.walks.Lane.{Lane}
use Rattle.bzip2_reader.specs.declared.walks.Segment.{Segment}
use Rattle.bzip2_reader.specs.Links.{Walked, place_after}
use Rattle.bzip2_reader.specs.Walks.{IsFront, IsLane, IsSegment}

-- the place after some steps, and then others
pub after_more : (links : List ℕ) (first m k : ℕ) → place_after links first (m + k) ≡ place_after links (place_after links first m) k
after_more links first m zero = let e : m + 0 ≡ m = omega arith in ap (place_after links first) e
after_more links first m (suc k) = let e : m + suc k ≡ suc (m + k) = omega arith in ap (place_after links first) e ∙ ap (λ n. get_or links n 0 / 256) (after_more links first m k)

-- a segment stays one while others' bytes come behind its own
pub segment_stays : (links bytes more : List ℕ) (segment : Segment) → IsSegment links bytes segment → IsSegment links (bytes ++ more) segment
segment_stays links bytes more s is = record {
  fits = omega (arith, is.fits, length-append bytes more);
  walk = λ k less.
      get_or-drop s.from (bytes ++ more) k 0 ∙ get_or-append bytes more 0 (s.from + k) (omega (arith, is.fits, less)) ∙ sym (get_or-drop s.from bytes k 0) ∙ is.walk k less;
  row = is.row;
}

-- what a lane walked is a segment, once its bytes stand behind the others
pub segment_kept : (links bytes more : List ℕ) (lane : Lane) → IsLane links lane → more ≡ take lane.size lane.bytes.items →
    IsSegment links (bytes ++ more) (record { first = lane.first; from = length bytes; size = lane.size; next = lane.row })
segment_kept links bytes more lane is e = record {
  fits = omega (arith, length-append bytes more, ap length e, length_take lane.size lane.bytes.items is.fits);
  walk = λ k less.
      get_or-drop (length bytes) (bytes ++ more) k 0 ∙ get_or-append-add bytes more k 0 ∙ ap (λ l. get_or l k 0) e ∙ get_or-take lane.size lane.bytes.items k 0 less ∙ is.walk k less;
  row = is.row;
}
  where
    length_take : (n : ℕ) (xs : List ℕ) → n ≤ length xs → length (take n xs) ≡ n
    length_take zero xs h = refl
    length_take (suc n) [] h = absurd (omega (arith, h))
    length_take (suc n) (x ∷ xs) h = ap suc (length_take n xs (omega (arith, h)))

-- a walk, and behind it that of the segment that begins at its end
pub walk_joined : (links : List ℕ) (first done size row : ℕ) (old new piece : List ℕ) → Walked links first done old → row ≡ place_after links first done → Walked links row size piece →
    ((k : ℕ) → k < done → get_or new k 0 ≡ get_or old k 0) → ((k : ℕ) → k < size → get_or new (done + k) 0 ≡ get_or piece k 0) → Walked links first (done + size) new
walk_joined links first done size row old new piece before at walk left right k less = go (either done k)
  where
    either : (a b : ℕ) → (b < a) ⊎ (a ≤ b)
    either a b = grind arith

    go : (k < done) ⊎ (done ≤ k) → get_or new k 0 ≡ get_or links (place_after links first k) 0 % 256
    go (inl h) = left k h ∙ before k h
    go (inr h) =
        let e : done + (k - done) ≡ k = omega (arith, h) in
        let inside : k - done < size = omega (arith, h, less) in
        ap (λ n. get_or new n 0) (sym e) ∙ right (k - done) inside ∙ walk (k - done) inside
        ∙ ap (λ n. get_or links n 0 % 256) (ap (λ f. place_after links f (k - done)) at ∙ sym (after_more links first done (k - done)) ∙ ap (place_after links first) e)

put_before : (a k : ℕ) (xs ys : List ℕ) (i : ℕ) → a ≤ length xs → i < a → get_or (put_mid a k xs ys) i 0 ≡ get_or xs i 0
put_before a k xs ys i fits h =
    get_or-append (take a xs) (ys ++ drop k (drop a xs)) 0 i (omega (arith, h, length-take-le a xs fits)) ∙ get_or-take a xs i 0 h

put_inside : (a k : ℕ) (xs ys : List ℕ) (i : ℕ) → a ≤ length xs → i < length ys → get_or (put_mid a k xs ys) (a + i) 0 ≡ get_or ys i 0
put_inside a k xs ys i fits h =
    let front = length-take-le a xs fits in
    ap (λ n. get_or (put_mid a k xs ys) (n + i) 0) (sym front) ∙ get_or-append-add (take a xs) (ys ++ drop k (drop a xs)) i 0 ∙ get_or-append ys (drop k (drop a xs)) 0 i h

-- a text with a segment more
pub segment_written : (links : List ℕ) (first : ℕ) (text bytes lent part : List ℕ) (at : Front) (s : Segment) (k n : ℕ) → IsFront links first text at → IsSegment links bytes s → s.first ≡ at.row →
    lent ≡ bytes → n ≡ s.size → part ≡ take n (drop s.from lent) → IsFront links first (put_mid at.done k text part) (record { done = at.done + s.size; row = s.next })
segment_written links first text bytes lent part at s k n front is same value size from =
    let behind : s.size ≤ length (drop s.from bytes) = omega (arith, is.fits, length-drop s.from bytes) in
    let long : length part ≡ s.size = ap length from ∙ ap (λ m. length (take m (drop s.from lent))) size ∙ ap (λ l. length (take s.size (drop s.from l))) value ∙ length-take-le s.size (drop s.from bytes) behind in
    record {
      fits = omega (arith, length-append (take at.done text) (part ++ drop k (drop at.done text)), length-append part (drop k (drop at.done text)), length-take-le at.done text front.fits, long);
      walk = walk_joined links first at.done s.size at.row text (put_mid at.done k text part) (drop s.from bytes) front.walk front.row
          (subst (λ (r : ℕ). Walked links r s.size (drop s.from bytes)) same is.walk)
          (λ i h. put_before at.done k text part i front.fits h)
          (λ i h. put_inside at.done k text part i front.fits (omega (arith, h, long))
          ∙ ap (λ l. get_or l i 0) (from ∙ ap (λ m. take m (drop s.from lent)) size ∙ ap (λ l. take s.size (drop s.from l)) value) ∙ get_or-take s.size (drop s.from bytes) i 0 h);
      row = is.row ∙ ap (λ f. place_after links f s.size) (same ∙ front.row) ∙ sym (after_more links first at.done s.size);
    }
