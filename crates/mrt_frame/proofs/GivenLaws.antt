-- What reads returned joins, and what known bytes it was.
use lib.Seq.{take-add}
use Rattle.std.proofs.Common.{slice_range, take-take, drop, ◌-◌, ap, ◌∙◌, ◌≡◌, ℕ, ◌+◌, ◌<◌, ◌≤◌, Bool, true, false, List, [], ◌++◌, length, take, sym, subst, arith, append-nil, le_refl, length-take-le, take_all}
use Rattle.mrt_frame.proofs.Buffers.{put_mid-front}
use Rattle.mrt_frame.specs.Given.{StopsShort, TakesFront}
use borrow.Rule.Slice.PartMut.{put_mid}
use Rattle.std.proofs.lemmas.Slice.{take-put_mid_below}

module _ {R : Type 0} (reads : R → List ℕ → Bool → R → Type 0)
    (more : (old mid new : R) (bytes others : List ℕ) (ended : Bool) → reads old bytes false mid → reads mid others ended new → reads old (bytes ++ others) ended new) where
  -- the filled part and then the read
  pub reads-put_mid : (a k n : ℕ) (old mid new : R) (xs ys : List ℕ) → a ≤ length xs → n ≤ length ys
      → reads old (take a xs) false mid → reads mid (take n ys) false new → reads old (take (a + n) (put_mid a k xs ys)) false new
  reads-put_mid a k n old mid new xs ys within fits first second =
      subst (λ l. reads old l false new) (put_mid-front a k n xs ys within fits) (more old mid new (take a xs) (take n ys) false first second)

  -- the end behind what was read
  pub reads-end : (old mid new : R) (bytes : List ℕ) → reads old bytes false mid → reads mid [] true new → reads old bytes true new
  reads-end old mid new bytes first second = subst (λ l. reads old l true new) (append-nil bytes) (more old mid new bytes [] true first second)

  -- a failure behind what was read
  pub reads-stop : (old mid new : R) (bytes : List ℕ) → reads old bytes false mid → reads mid [] false new → reads old bytes false new
  reads-stop old mid new bytes first second = subst (λ l. reads old l false new) (append-nil bytes) (more old mid new bytes [] false first second)

  -- the end behind the filled part
  pub reads-short : (a k : ℕ) (old mid new : R) (xs ys : List ℕ) → a ≤ length xs → reads old (take a xs) false mid → reads mid [] true new → reads old (take a (put_mid a k xs ys)) true new
  reads-short a k old mid new xs ys within first second =
      subst (λ l. reads old l true new) (sym (take-put_mid_below _ _ _ _ _ (le_refl _) within)) (reads-end old mid new (take a xs) first second)

  -- a failure behind the filled part
  pub reads-stopped : (a most : ℕ) (old mid new : R) (xs : List ℕ) → a ≤ length xs → a < most → reads old (take a xs) false mid → reads mid [] false new → StopsShort reads most old new
  reads-stopped a most old mid new xs within few first second = (take a xs, reads-stop old mid new (take a xs) first second, omega (arith, length-take-le a xs within))

pub reads-full : {R : Type 0} (reads : R → List ℕ → Bool → R → Type 0) (n : ℕ) (old new : R) (buf : List ℕ) → reads old (take n buf) false new → length buf ≤ n → reads old buf false new
reads-full reads n old new buf gave full = subst (λ l. reads old l false new) (take_all n buf full) gave

pub reads-nothing : {R : Type 0} (reads : R → List ℕ → Bool → R → Type 0) (n : ℕ) (old new : R) (buf : List ℕ) → reads old (take n buf) true new → n ≡ 0 → reads old [] true new
reads-nothing reads n old new buf gave none = subst (λ m. reads old (take m buf) true new) none gave

-- what was written and then the front of some of the rest is the longer front
pub writes-front : {W : Type 0} (writes : W → List ℕ → W → Type 0) (join : (old mid new : W) (bytes more : List ℕ) → writes old bytes mid → writes mid more new → writes old (bytes ++ more) new)
    (at n end : ℕ) (old mid new : W) (bytes : List ℕ) → n ≤ end - at → writes old (take at bytes) mid → writes mid (take n (slice_range bytes at end)) new → writes old (take (at + n) bytes) new
writes-front writes join at n end old mid new bytes few first second =
    let joined : take at bytes ++ take n (slice_range bytes at end) ≡ take (at + n) bytes = ap (λ l. take at bytes ++ l) (take-take n (end - at) (drop at bytes) few) ∙ sym (take-add at n bytes) in
    subst (λ l. writes old l new) joined (join old mid new (take at bytes) (take n (slice_range bytes at end)) first second)

-- nothing more was written behind a front
pub writes-stopped : {W : Type 0} (writes : W → List ℕ → W → Type 0) (join : (old mid new : W) (bytes more : List ℕ) → writes old bytes mid → writes mid more new → writes old (bytes ++ more) new)
    (at : ℕ) (old mid new : W) (bytes : List ℕ) → at ≤ length bytes → writes old (take at bytes) mid → writes mid [] new → TakesFront writes old new bytes
writes-stopped writes join at old mid new bytes within first second =
    (at, within, subst (λ l. writes old l new) (append-nil (take at bytes)) (join old mid new (take at bytes) [] first second))
