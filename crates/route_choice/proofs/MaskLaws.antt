-- A mask matches by its steps exactly what the computed test says.
use Rattle.std.proofs.Common.{inl, inr, ◌≡◌, ℕ, ◌≤◌, Bool, true, List, [], ◌∷◌, ◌++◌, refl, ap, ◌∙◌}
use Rattle.std.specs.List.{Any, list_any, list_all}
use Rattle.std.proofs.lemmas.Bool.{and_parts, and_from, or_cases, or_left, or_right, leb-true, le-leb}
use Rattle.std.proofs.lemmas.List.Folds.{Any-from_list_any, list_any-from_Any}
use Rattle.route_choice.specs.declared.path_mask.PathStep.{PathStep}
use Rattle.route_choice.specs.declared.path_mask.PathStep.TheVariants.{Within, AnyOne, AnyNumber}
use Rattle.route_choice.specs.Masks.{StepMatches, within, one, any, MaskMatches, none, more, is_within, some_rest, step_then, mask_matches, is_any_number}

-- ---- some rest

pub passes_here : (test : List (List ℕ) → Bool) (ps : List (List ℕ)) → test ps ≡ true → some_rest test ps ≡ true
passes_here test [] h = h
passes_here test (p ∷ ps) h = or_left (test (p ∷ ps)) (some_rest test ps) h

pub record HasRest (test : List (List ℕ) → Bool) (ps : List (List ℕ)) : Type 0 where
  pub front : List (List ℕ)
  pub rest : List (List ℕ)
  pub parts : ps ≡ front ++ rest
  pub passes : test rest ≡ true

pub rest_found : (test : List (List ℕ) → Bool) (ps : List (List ℕ)) → some_rest test ps ≡ true → HasRest test ps
rest_found test [] h = record { front = []; rest = []; parts = refl; passes = h }
rest_found test (p ∷ ps) h =
    elim (or_cases (test (p ∷ ps)) (some_rest test ps) h) [
      | inl e ↦ record { front = []; rest = p ∷ ps; parts = refl; passes = e }
      | inr e ↦
          let r = rest_found test ps e in
          record { front = p ∷ r.front; rest = r.rest; parts = ap (λ (t : List (List ℕ)). p ∷ t) r.parts; passes = r.passes }
    ]

pub rest_passes : (test : List (List ℕ) → Bool) (front rest : List (List ℕ)) → test rest ≡ true → some_rest test (front ++ rest) ≡ true
rest_passes test [] rest e = passes_here test rest e
rest_passes test (p ∷ front) rest e = or_right (test (p ∷ front ++ rest)) (some_rest test (front ++ rest)) (rest_passes test front rest e)

-- ---- steps

range_passes : (first last : ℕ) (p : List ℕ) → Any (λ n. (first ≤ n) × (n ≤ last)) p → list_any (is_within first last) p ≡ true
range_passes first last p h =
    list_any-from_Any (is_within first last) p
    (h.0, h.1, h.2, h.3, and_from _ _ (le-leb first h.1 h.4.0) (le-leb h.1 last h.4.1))

range_found : (first last : ℕ) (p : List ℕ) → list_any (is_within first last) p ≡ true → Any (λ n. (first ≤ n) × (n ≤ last)) p
range_found first last p h =
    let a = Any-from_list_any (is_within first last) p h in
    let both = and_parts _ _ a.4 in
    (a.0, a.1, a.2, a.3, (leb-true first a.1 both.0, leb-true a.1 last both.1))

step_passes : {step : PathStep} {piece : List (List ℕ)} (test : List (List ℕ) → Bool) (rest : List (List ℕ)) → StepMatches step piece → test rest ≡ true → step_then step test (piece ++ rest) ≡ true
step_passes test rest (within {first = first} {last = last} {position = p} h) e = and_from (list_any (is_within first last) p) (test rest) (range_passes first last p h) e
step_passes test rest one e = e
step_passes test rest (any {piece = piece}) e = rest_passes test piece rest e

-- ---- masks

pub by_steps : (mask : List PathStep) (ps : List (List ℕ)) → mask_matches mask ps ≡ true → MaskMatches mask ps
by_steps [] [] h = none
by_steps [] (p ∷ ps) h = absurd cc
by_steps (Within first last ∷ mask) [] h = absurd cc
by_steps (Within first last ∷ mask) (p ∷ ps) h =
    let both = and_parts (list_any (is_within first last) p) (mask_matches mask ps) h in
    more (p ∷ []) ps refl (within (range_found first last p both.0)) (by_steps mask ps both.1)
by_steps (AnyOne ∷ mask) [] h = absurd cc
by_steps (AnyOne ∷ mask) (p ∷ ps) h = more (p ∷ []) ps refl one (by_steps mask ps h)
by_steps (AnyNumber ∷ mask) ps h =
    let r = rest_found (mask_matches mask) ps h in more r.front r.rest r.parts any (by_steps mask r.rest r.passes)

pub from_steps : {mask : List PathStep} {ps : List (List ℕ)} → MaskMatches mask ps → mask_matches mask ps ≡ true
from_steps none = refl
from_steps (more {step = step} {mask = mask} {whole = whole} piece rest parts matched behind) =
    ap (step_then step (mask_matches mask)) parts ∙ step_passes (mask_matches mask) rest matched (from_steps behind)

pub matches_no_position : (mask : List PathStep) → mask_matches mask [] ≡ list_all is_any_number mask
matches_no_position [] = refl
matches_no_position (Within first last ∷ mask) = refl
matches_no_position (AnyOne ∷ mask) = refl
matches_no_position (AnyNumber ∷ mask) = matches_no_position mask
