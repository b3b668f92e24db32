-- Groups in hexadecimal.
use Rattle.std.proofs.Common.{◌≡◌, ℕ, suc, ◌/◌, ◌%◌, ◌≤◌, ◌<◌, false, List, [], ◌∷◌, ◌++◌, length, inl, inr, ap, ◌∙◌, lit≤, cond, eq-eqb, ne_eqb, arith}
use Rattle.std.proofs.lemmas.Bool.{cases_lt}
use Rattle.std.proofs.lemmas.Fmt.{digits_is_IsNumeral, hex_one_digit, hex_two_digits}
use Rattle.std.specs.Fmt.{digits, digits_onto, digit_glyph}
use Rattle.ip_text.specs.Ipv6Texts.{hexadecimal}
use Rattle.ip_text.specs.Spellings.{IsGroupText}

abbrev glyph : ℕ → ℕ
glyph d = digit_glyph false d

onto_last : (k n : ℕ) (acc : List ℕ) → n < 16 → digits_onto (suc k) 16 false n acc ≡ glyph n ∷ acc
onto_last k n acc h =
    let same : n % 16 ≡ n = omega arith in
    ap (λ t. cond t (glyph (n % 16) ∷ acc) (digits_onto k 16 false (n / 16) (glyph (n % 16) ∷ acc))) (eq-eqb (n / 16) 0 (omega arith)) ∙ ap (λ d. glyph d ∷ acc) same

onto_next : (k n : ℕ) (acc : List ℕ) → 16 ≤ n → digits_onto (suc k) 16 false n acc ≡ digits_onto k 16 false (n / 16) (glyph (n % 16) ∷ acc)
onto_next k n acc h = ap (λ t. cond t (glyph (n % 16) ∷ acc) (digits_onto k 16 false (n / 16) (glyph (n % 16) ∷ acc))) (ne_eqb (n / 16) 0 (λ e. omega arith))

three_digits : (n : ℕ) → 256 ≤ n → n < 4096 → hexadecimal n ≡ glyph (n / 256) ∷ glyph (n / 16 % 16) ∷ glyph (n % 16) ∷ []
unfolding digits
three_digits n lo hi =
    let same : n / 16 / 16 ≡ n / 256 = omega arith in
    onto_next 63 n [] (omega arith) ∙ onto_next 62 (n / 16) (glyph (n % 16) ∷ []) (omega arith)
    ∙ onto_last 61 (n / 16 / 16) (glyph (n / 16 % 16) ∷ glyph (n % 16) ∷ []) (omega arith)
    ∙ ap (λ d. glyph d ∷ glyph (n / 16 % 16) ∷ glyph (n % 16) ∷ []) same

four_digits : (n : ℕ) → 4096 ≤ n → n < 65536 → hexadecimal n ≡ glyph (n / 4096) ∷ glyph (n / 16 / 16 % 16) ∷ glyph (n / 16 % 16) ∷ glyph (n % 16) ∷ []
unfolding digits
four_digits n lo hi =
    let same : n / 16 / 16 / 16 ≡ n / 4096 = omega arith in
    onto_next 63 n [] (omega arith) ∙ onto_next 62 (n / 16) (glyph (n % 16) ∷ []) (omega arith)
    ∙ onto_next 61 (n / 16 / 16) (glyph (n / 16 % 16) ∷ glyph (n % 16) ∷ []) (omega arith)
    ∙ onto_last 60 (n / 16 / 16 / 16) (glyph (n / 16 / 16 % 16) ∷ glyph (n / 16 % 16) ∷ glyph (n % 16) ∷ []) (omega arith)
    ∙ ap (λ d. glyph d ∷ glyph (n / 16 / 16 % 16) ∷ glyph (n / 16 % 16) ∷ glyph (n % 16) ∷ []) same

-- the low byte's two digits behind the high byte
pub hexadecimal_halves : (n : ℕ) → 256 ≤ n → n < 65536 → hexadecimal n ≡ hexadecimal (n / 256) ++ glyph (n % 256 / 16) ∷ glyph (n % 256 % 16) ∷ []
hexadecimal_halves n lo hi =
    let c : n / 16 % 16 ≡ n % 256 / 16 = omega arith in
    let d : n % 16 ≡ n % 256 % 16 = omega arith in
    elim (cases_lt n 4096) [
      | inl three ↦ rw (three_digits n lo three, hex_one_digit false (n / 256) (omega arith), c, d)
      | inr four ↦
          let a : n / 4096 ≡ n / 256 / 16 = omega arith in
          let b : n / 16 / 16 % 16 ≡ n / 256 % 16 = omega arith in
          rw (four_digits n four hi, hex_two_digits false (n / 256) (omega arith) (omega arith), a, b, c, d)
    ]

few_digits : (n : ℕ) → n < 65536 → length (hexadecimal n) ≤ 4
few_digits n hi =
    elim (cases_lt n 16) [
      | inl one ↦ rw (hex_one_digit false n one) (lit≤ tt)
      | inr past ↦ elim (cases_lt n 256) [
        | inl two ↦ rw (hex_two_digits false n past two) (lit≤ tt)
        | inr far ↦ elim (cases_lt n 4096) [
          | inl three ↦ rw (three_digits n far three) (lit≤ tt)
          | inr four ↦ rw (four_digits n four hi) (lit≤ tt)
        ]
      ]
    ]

pub IsGroupText-hexadecimal : (n : ℕ) → n < 65536 → IsGroupText (hexadecimal n) n
IsGroupText-hexadecimal n hi =
    let read = digits_is_IsNumeral 16 false (lit≤ tt) (lit≤ tt) n (omega arith) in
    record { digits = read.0; few = few_digits n hi; value = read.1 }
