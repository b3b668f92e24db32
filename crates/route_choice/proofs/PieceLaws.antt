-- What is known while positions are taken by the steps of a mask up to its next `*`.
use Rattle.std.proofs.Common.{subst, inl, inr, ◌≡◌, ℕ, ◌+◌, ◌<◌, ◌≤◌, Bool, true, false, List, [], ◌∷◌, length, drop, get_or, refl, sym, ap, ◌∙◌, arith, add-one, drop-cons}
use Rattle.std.specs.Prelude.{◌&&◌, ◌⊎◌}
use Rattle.std.proofs.lemmas.Bool.{and_parts, or_cases, or_left, or_right, false_from_ne_true}
use Rattle.route_choice.specs.declared.path_mask.PathStep.{PathStep}
use Rattle.route_choice.specs.declared.path_mask.PathStep.TheVariants.{Within, AnyOne, AnyNumber}
use Rattle.route_choice.specs.Masks.{first_and_rest, some_rest, mask_matches}
use Rattle.route_choice.specs.declared.matching.PieceEnd.{PieceEnd}
use Rattle.route_choice.specs.declared.matching.PieceEnd.TheVariants.{Short, Other}
use Rattle.route_choice.specs.Pieces.{takes, ReachesStar, EndsPiece}
use Rattle.route_choice.proofs.MaskLaws.{passes_here}

pub same_test : (a b : Bool) → (a ≡ true → b ≡ true) → (b ≡ true → a ≡ true) → a ≡ b
same_test true true f g = refl
same_test true false f g = sym (f refl)
same_test false true f g = g refl
same_test false false f g = refl

-- what is left behind a first position, where that and more was to be taken
pub behind_first : (passes : List ℕ → Bool) (test : List (List ℕ) → Bool) (p : List ℕ) (ps : List (List ℕ)) → some_rest (first_and_rest passes test) (p ∷ ps) ≡ true → some_rest test ps ≡ true
behind_first passes test p [] h =
    elim (or_cases (passes p && test []) false h) [
      | inl e ↦ (and_parts (passes p) (test []) e).1
      | inr e ↦ absurd cc
    ]
behind_first passes test p (q ∷ ps) h =
    elim (or_cases (passes p && test (q ∷ ps)) (some_rest (first_and_rest passes test) (q ∷ ps)) h) [
      | inl e ↦ or_left (test (q ∷ ps)) (some_rest test ps) (and_parts (passes p) (test (q ∷ ps)) e).1
      | inr e ↦ or_right (test (q ∷ ps)) (some_rest test ps) (behind_first passes test q ps e)
    ]

pub rest_of_rest : (test : List (List ℕ) → Bool) (ps : List (List ℕ)) → some_rest (some_rest test) ps ≡ true → some_rest test ps ≡ true
rest_of_rest test [] h = h
rest_of_rest test (p ∷ ps) h =
    elim (or_cases (some_rest test (p ∷ ps)) (some_rest (some_rest test) ps) h) [
      | inl e ↦ e
      | inr e ↦ or_right (test (p ∷ ps)) (some_rest test ps) (rest_of_rest test ps e)
    ]

-- a step that is one position
pub step_is : (step : PathStep) (mask : List PathStep) → (step ≡ AnyNumber → ⊥) → mask_matches (step ∷ mask) ≡ first_and_rest (takes step) (mask_matches mask)
step_is (Within first last) mask h = refl
step_is AnyOne mask h = refl
step_is AnyNumber mask h = absurd (h refl)

-- the first i steps took the positions up to here
pub record IsUnderWay (mask : List PathStep) (before after : List (List ℕ)) (i : ℕ) : Type 0 where
  pub here : mask_matches mask before ≡ mask_matches (drop i mask) after
  pub later : some_rest (mask_matches mask) before ≡ true → some_rest (mask_matches (drop i mask)) after ≡ true
  pub shorter : length after ≤ length before

split_at : (mask : List PathStep) (i : ℕ) (step : PathStep) → i < length mask → step ≡ get_or mask i step → drop i mask ≡ step ∷ drop (i + 1) mask
split_at mask i step lt is = drop-cons mask i step lt ∙ (λ j. sym is j ∷ drop (sym (add-one i) j) mask)

pub star_reached : (mask : List PathStep) (before after : List (List ℕ)) (i : ℕ) (step : PathStep) → IsUnderWay mask before after i → i < length mask → step ≡ get_or mask i step → step ≡ AnyNumber → ReachesStar mask before after (i + 1)
star_reached mask before after i step u lt is star =
    let split : drop i mask ≡ AnyNumber ∷ drop (i + 1) mask = split_at mask i step lt is ∙ ap (λ (s : PathStep). s ∷ drop (i + 1) mask) star in
    let behind = mask_matches (drop (i + 1) mask) in
    let here : mask_matches mask before ≡ some_rest behind after = u.here ∙ ap (λ (m : List PathStep). mask_matches m after) split in
    record {
      here = here;
      later = same_test (some_rest (mask_matches mask) before) (some_rest behind after)
          (λ h. rest_of_rest behind after (sym (ap (λ (m : List PathStep). some_rest (mask_matches m) after) split) ∙ u.later h))
          (λ h. passes_here (mask_matches mask) before (here ∙ h));
      some = omega arith;
      within = omega arith;
      shorter = u.shorter;
    }

steps_from : (mask : List PathStep) (i : ℕ) (step : PathStep) → i < length mask → step ≡ get_or mask i step → (step ≡ AnyNumber → ⊥) → mask_matches (drop i mask) ≡ first_and_rest (takes step) (mask_matches (drop (i + 1) mask))
steps_from mask i step lt is one = ap mask_matches (split_at mask i step lt is) ∙ step_is step (drop (i + 1) mask) one

pub one_taken : (mask : List PathStep) (before after : List (List ℕ)) (i : ℕ) (step : PathStep) (p : List ℕ) → IsUnderWay mask before (p ∷ after) i → i < length mask → step ≡ get_or mask i step → (step ≡ AnyNumber → ⊥) → takes step p ≡ true → IsUnderWay mask before after (i + 1)
one_taken mask before after i step p u lt is one taken =
    let from = steps_from mask i step lt is one in
    let behind = mask_matches (drop (i + 1) mask) in
    record {
      here = u.here ∙ ap (λ (f : List (List ℕ) → Bool). f (p ∷ after)) from ∙ ap (λ (b : Bool). b && behind after) taken;
      later = λ h. behind_first (takes step) behind p after (sym (ap (λ (f : List (List ℕ) → Bool). some_rest f (p ∷ after)) from) ∙ u.later h);
      shorter = omega (arith, u.shorter);
    }

-- what matches at no rest doesn't match here
matches_nowhere : (mask : List PathStep) (ps : List (List ℕ)) → some_rest (mask_matches mask) ps ≡ false → mask_matches mask ps ≡ false
matches_nowhere mask ps h =
    false_from_ne_true (mask_matches mask ps)
    (λ e. let no : true ≡ false = sym (passes_here (mask_matches mask) ps e) ∙ h in absurd cc)

pub not_matched : (mask : List PathStep) (before after : List (List ℕ)) (e : PieceEnd) → EndsPiece mask before after e → (e ≡ Short) ⊎ (e ≡ Other) → mask_matches mask before ≡ false
not_matched mask before after e h (inl is) = matches_nowhere mask before (subst (EndsPiece mask before after) is h)
not_matched mask before after e h (inr is) = subst (EndsPiece mask before after) is h
