-- The bits of a mask.
use Rattle.std.proofs.Common.{◌≡◌, ℕ, ◌+◌, ◌*◌, ◌/◌, ◌%◌, ◌<◌, eqb, cond, nat_le, if◌then◌else◌, List, [], ◌∷◌, map, refl, ap, ◌∙◌, inl, inr, eq-eqb, ne_eqb, arith}
use Rattle.std.proofs.lemmas.Bool.{cases_eq}
use Rattle.std.proofs.Math.Nat.{div-one}
use Rattle.ip_text.specs.Digits.{groups_of}
use Rattle.std.specs.Net.Text.{zero_run, longest_zero_run}
use Rattle.ip_text.specs.ZeroRuns.{bit}

same_test : (g : ℕ) → eqb (bit g) 0 ≡ eqb g 0
same_test g = elim (cases_eq g 0) [ inl is ↦ rw (eq-eqb g 0 is) refl | inr other ↦ rw (ne_eqb g 0 other) refl ]

same_zeros : (groups : List ℕ) → zero_run (map bit groups) ≡ zero_run groups
same_zeros [] = refl
same_zeros (g ∷ groups) = ap (λ t. cond t (1 + zero_run (map bit groups)) 0) (same_test g) ∙ ap (λ n. cond (eqb g 0) (1 + n) 0) (same_zeros groups)

pub same_run_of_bits : (groups : List ℕ) → longest_zero_run (map bit groups) ≡ longest_zero_run groups
same_run_of_bits [] = refl
same_run_of_bits (g ∷ groups) =
    ap (λ n. if nat_le (longest_zero_run (map bit groups)).1 n then (0, n) else ((longest_zero_run (map bit groups)).0 + 1, (longest_zero_run (map bit groups)).1)) (same_zeros (g ∷ groups))
    ∙ ap (λ (later : ℕ × ℕ). if nat_le later.1 (zero_run (g ∷ groups)) then (0, zero_run (g ∷ groups)) else (later.0 + 1, later.1)) (same_run_of_bits groups)

bit_small : (g : ℕ) → bit g < 2
bit_small g = elim (cases_eq g 0) [ inl is ↦ rw (eq-eqb g 0 is) (omega arith) | inr other ↦ rw (ne_eqb g 0 other) (omega arith) ]

eight_bits : (a b c d e f g h : ℕ) → a < 2 → b < 2 → c < 2 → d < 2 → e < 2 → f < 2 → g < 2 → h < 2
    → groups_of 2 8 (a * 128 + b * 64 + c * 32 + d * 16 + e * 8 + f * 4 + g * 2 + h) ≡ a ∷ b ∷ c ∷ d ∷ e ∷ f ∷ g ∷ h ∷ []
eight_bits a b c d e f g h ha hb hc hd he hf hg hh =
    let n = a * 128 + b * 64 + c * 32 + d * 16 + e * 8 + f * 4 + g * 2 + h in
    let one : n / 128 % 2 ≡ a = omega arith in
    let two : n / 64 % 2 ≡ b = omega arith in
    let three : n / 32 % 2 ≡ c = omega arith in
    let four : n / 16 % 2 ≡ d = omega arith in
    let five : n / 8 % 2 ≡ e = omega arith in
    let six : n / 4 % 2 ≡ f = omega arith in
    let seven : n / 2 % 2 ≡ g = omega arith in
    let last : n / 1 % 2 ≡ h = rw (div-one n) (omega arith) in
    λ i. one i ∷ two i ∷ three i ∷ four i ∷ five i ∷ six i ∷ seven i ∷ last i ∷ []

pub run_of_mask : (a b c d e f g h : ℕ)
    → longest_zero_run (groups_of 2 8 (bit a * 128 + bit b * 64 + bit c * 32 + bit d * 16 + bit e * 8 + bit f * 4 + bit g * 2 + bit h)) ≡ longest_zero_run (a ∷ b ∷ c ∷ d ∷ e ∷ f ∷ g ∷ h ∷ [])
run_of_mask a b c d e f g h =
    ap longest_zero_run (eight_bits (bit a) (bit b) (bit c) (bit d) (bit e) (bit f) (bit g) (bit h) (bit_small a) (bit_small b) (bit_small c) (bit_small d) (bit_small e) (bit_small f) (bit_small g) (bit_small h))
    ∙ same_run_of_bits (a ∷ b ∷ c ∷ d ∷ e ∷ f ∷ g ∷ h ∷ [])
