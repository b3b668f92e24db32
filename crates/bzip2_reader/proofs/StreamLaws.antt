-- A step through the streams of a device.
use Rattle.std.proofs.Common.{◌≡◌, ◌≢◌, ◌≤◌, ◌*◌, ℕ, Option, Some, None, Err, List, [], drop, length, sym, ◌∙◌, ap, arith, subst}
use Rattle.bzip2_reader.specs.declared.fault.Cause.{Cause}
use Rattle.bzip2_reader.specs.declared.fault.Cause.TheVariants.{EarlyEnd}
use Rattle.bzip2_reader.specs.declared.fault.Damage.{Damage}
use Rattle.bzip2_reader.specs.declared.phase.Phase.{Phase}
use Rattle.bzip2_reader.specs.declared.phase.Phase.TheVariants.{Ended, Open}
use Rattle.bzip2_reader.specs.declared.streams.Streams.{Streams}
use Rattle.bzip2_reader.specs.declared.window.Rest.TheVariants.{None as NoMore}
use Rattle.bzip2_reader.specs.Coming.{Comes, EndsBy, GoesOn, IsWrong, Stops, coming, still}
use Rattle.bzip2_reader.specs.Fields.{bits_of}
use Rattle.bzip2_reader.specs.Files.{Between, IsMore, Place, Unpacked, part_at}
use Rattle.bzip2_reader.specs.Left.{left_of}
use Rattle.bzip2_reader.specs.StreamViews.{coming_of, place_of}
use Rattle.bzip2_reader.specs.Stretches.{known_whole}
use Rattle.bzip2_reader.specs.Windows.{window_bytes}
use Rattle.bzip2_reader.proofs.StepLaws.{comes_then, part_none, part_short, part_taken, part_wrong, wrong_stops}

-- over a device, of which this is known to be left
module _ (D : Type 0) (left : D → Option (List ℕ)) where
  abbrev comes_of : Streams D → Option Unpacked
  comes_of s = coming_of (left s.device) s

  -- what comes behind a block that was given
  abbrev comes_behind : Streams D → Option Unpacked
  comes_behind s = coming [] (place_of s.stage) s.at (known_whole s.window.block.items s.window.filled s.window.rest (left s.device))

  abbrev bits_here : Streams D → List ℕ
  bits_here s = bits_of (window_bytes s.window)

  fits : (s : Streams D) → s.window.filled ≤ length s.window.block.items
  fits s = omega (arith, s.window.within, s.window.block.ok.0)

  pub behind_of : (s : Streams D) → left_of s.block ≡ [] → comes_of s ≡ comes_behind s
  behind_of s given = ap (λ l. coming l (place_of s.stage) s.at (known_whole s.window.block.items s.window.filled s.window.rest (left s.device))) given

  pub same_behind : (s t : Streams D) → t.device ≡ s.device → t.window ≡ s.window → t.at ≡ s.at → t.stage ≡ s.stage → left_of t.block ≡ [] → comes_of t ≡ comes_behind s
  same_behind s t device window at stage given =
      behind_of t given
      ∙ ap (λ d. coming [] (place_of t.stage) t.at (known_whole t.window.block.items t.window.filled t.window.rest (left d))) device
      ∙ ap (λ w. coming [] (place_of t.stage) t.at (known_whole w.block.items w.filled w.rest (left s.device))) window
      ∙ ap (λ n. coming [] (place_of t.stage) n (known_whole s.window.block.items s.window.filled s.window.rest (left s.device))) at
      ∙ ap (λ g. coming [] (place_of g) s.at (known_whole s.window.block.items s.window.filled s.window.rest (left s.device))) stage

  -- a part was taken
  pub stepped : (a : Option Unpacked) (s t : Streams D) → Comes [] a (comes_of s) → left_of s.block ≡ [] → t.device ≡ s.device → t.window ≡ s.window →
      GoesOn (bits_here s) (place_of s.stage) s.at (place_of t.stage) t.at (left_of t.block) → Comes [] a (comes_of t)
  stepped a s t before given device window on =
      let inside : t.at ≤ 8 * s.window.filled = subst (λ w. t.at ≤ 8 * w.filled) window t.within in
      let taken = part_taken s.window.block.items s.window.filled s.window.rest (left s.device) (place_of s.stage) (place_of t.stage) s.at t.at (left_of t.block) (fits s) s.within inside on in
      let now : comes_of t ≡ coming (left_of t.block) (place_of t.stage) t.at (known_whole s.window.block.items s.window.filled s.window.rest (left s.device)) =
      ap (λ d. coming (left_of t.block) (place_of t.stage) t.at (known_whole t.window.block.items t.window.filled t.window.rest (left d))) device
      ∙ ap (λ w. coming (left_of t.block) (place_of t.stage) t.at (known_whole w.block.items w.filled w.rest (left s.device))) window in
      comes_then a (comes_behind s) (comes_of t) (subst (Comes [] a) (behind_of s given) before) (subst (Comes [] (comes_behind s)) (sym now) taken)

  -- nothing was taken
  pub stayed : (a : Option Unpacked) (s t : Streams D) → Comes [] a (comes_of s) → left_of s.block ≡ [] → t.device ≡ s.device → t.window ≡ s.window → t.at ≡ s.at → t.stage ≡ s.stage → left_of t.block ≡ [] →
      Comes [] a (comes_of t)
  stayed a s t before given device window at stage given2 = subst (Comes [] a) (behind_of s given ∙ sym (same_behind s t device window at stage given2)) before

  -- something is wrong with the next part
  pub wrong_here : (cause : Cause) (s t : Streams D) → cause ≢ EarlyEnd → t.device ≡ s.device → t.window ≡ s.window → t.at ≡ s.at → t.stage ≡ s.stage → left_of t.block ≡ [] →
      IsWrong cause (part_at (place_of s.stage) (drop s.at (bits_here s))) → Stops cause t.window.rest (comes_of t)
  wrong_here cause s t other device window at stage given wrong =
      wrong_stops cause t.window.rest (comes_of t) (place_of s.stage) (drop s.at (bits_here s)) other wrong
      (λ e. subst (EndsBy (Some cause)) (sym (same_behind s t device window at stage given))
      (part_wrong s.window.block.items s.window.filled s.window.rest (left s.device) (place_of s.stage) s.at cause (fits s) s.within other e))

  -- the bits end too early
  pub short_here : (s t : Streams D) → s.window.rest ≡ NoMore → IsMore (place_of s.stage) (drop s.at (bits_here s)) → t.device ≡ s.device → t.window ≡ s.window → t.at ≡ s.at → t.stage ≡ s.stage → left_of t.block ≡ [] →
      part_at (place_of s.stage) (drop s.at (bits_here s)) ≡ Err EarlyEnd → EndsBy (Some EarlyEnd) (comes_of t)
  short_here s t none more device window at stage given e =
      subst (EndsBy (Some EarlyEnd)) (sym (same_behind s t device window at stage given))
      (part_short s.window.block.items s.window.filled s.window.rest (left s.device) (place_of s.stage) s.at EarlyEnd none more e)

  -- nothing is left
  pub none_here : (s : Streams D) → left_of s.block ≡ [] → s.window.rest ≡ NoMore → place_of s.stage ≡ Between → drop s.at (bits_here s) ≡ [] → EndsBy None (comes_of s)
  none_here s given none between end =
      subst (EndsBy None) (sym (behind_of s given)) (part_none s.window.block.items s.window.filled s.window.rest (left s.device) (place_of s.stage) s.at none between end)

-- ---- the end of a reader

none_given : (phase : Phase) (damage : Option Damage) (old now bytes : List ℕ) (place : Place) (at : ℕ) (known : Option (List ℕ)) → phase ≡ Ended → damage ≡ None → bytes ≡ [] → EndsBy None (coming old place at known) →
    Comes bytes (coming old place at known) (still phase damage (coming now place at known))
none_given phase damage old now bytes place at None ended none empty ends = tt
none_given phase damage old now bytes place at (Some xs) ended none empty ends =
    subst (λ (p : Phase). Comes bytes (coming old place at (Some xs)) (still p damage (coming now place at (Some xs)))) (sym ended)
    (subst (λ (d : Option Damage). Comes bytes (coming old place at (Some xs)) (still Ended d (coming now place at (Some xs)))) (sym none)
    (subst (λ (l : List ℕ). Comes l (coming old place at (Some xs)) (still Ended None (coming now place at (Some xs)))) (sym empty) ends))

pub gave_none : (phase phase2 : Phase) (damage damage2 : Option Damage) (old now bytes : List ℕ) (place : Place) (at : ℕ) (known : Option (List ℕ)) → phase ≡ Open → phase2 ≡ Ended → damage2 ≡ None → bytes ≡ [] →
    EndsBy None (coming old place at known) → Comes bytes (still phase damage (coming old place at known)) (still phase2 damage2 (coming now place at known))
gave_none phase phase2 damage damage2 old now bytes place at known opened ended none empty ends =
    subst (λ (p : Phase). Comes bytes (still p damage (coming old place at known)) (still phase2 damage2 (coming now place at known))) (sym opened) (none_given phase2 damage2 old now bytes place at known ended none empty ends)
