-- The text of a number of few digits.
use Rattle.std.proofs.Common.{◌≡◌, ℕ, ◌+◌, ◌/◌, ◌%◌, ◌≤◌, ◌<◌, [], ◌∷◌, ◌++◌, ap, ◌∙◌, append_assoc, drop, arith}
use Rattle.std.proofs.lemmas.Fmt.{decimal_digit, decimal_step}
use Rattle.std.specs.Fmt.{decimal}
use Rattle.std.proofs.Math.Nat.{div-one}
use Rattle.ip_text.specs.Digits.{decimal_glyph, digits_in}

-- the text of a number of one, two or three digits is the last of its three digits
pub decimal_ones : (n : ℕ) → n < 10 → decimal n ≡ drop 2 (digits_in decimal_glyph 10 3 n)
decimal_ones n h =
    let e : n ≡ n / 1 % 10 = rw (div-one n) (omega arith) in
    decimal_digit n h ∙ ap (λ d. (48 + d) ∷ []) e

pub decimal_tens : (n : ℕ) → 10 ≤ n → n < 100 → decimal n ≡ drop 1 (digits_in decimal_glyph 10 3 n)
decimal_tens n lo hi =
    let d : n / 10 ≡ n / 10 % 10 = omega arith in
    let e : n % 10 ≡ n / 1 % 10 = rw (div-one n) (omega arith) in
    decimal_step n lo (omega arith) ∙ ap (λ l. l ++ (48 + n % 10) ∷ []) (decimal_digit (n / 10) (omega arith))
    ∙ ap (λ m. (48 + m) ∷ (48 + n % 10) ∷ []) d ∙ ap (λ m. (48 + n / 10 % 10) ∷ (48 + m) ∷ []) e

pub decimal_hundreds : (n : ℕ) → 100 ≤ n → n < 1000 → decimal n ≡ digits_in decimal_glyph 10 3 n
decimal_hundreds n lo hi =
    let b : n / 10 / 10 ≡ n / 100 = omega arith in
    let e : n % 10 ≡ n / 1 % 10 = rw (div-one n) (omega arith) in
    decimal_step n (omega arith) (omega arith) ∙ ap (λ l. l ++ (48 + n % 10) ∷ []) (decimal_tens (n / 10) (omega arith) (omega arith))
    ∙ ap (λ m. (48 + m % 10) ∷ (48 + n / 10 / 1 % 10) ∷ (48 + n % 10) ∷ []) b
    ∙ ap (λ m. (48 + n / 100 % 10) ∷ (48 + m % 10) ∷ (48 + n % 10) ∷ []) (div-one (n / 10))
    ∙ ap (λ m. (48 + n / 100 % 10) ∷ (48 + n / 10 % 10) ∷ (48 + m) ∷ []) e

-- the last three digits behind the others
pub decimal_thousands : (n : ℕ) → 1000 ≤ n → n < 4294967296 → decimal n ≡ decimal (n / 1000) ++ digits_in decimal_glyph 10 3 (n % 1000)
decimal_thousands n lo hi =
    let a : n / 10 / 10 / 10 ≡ n / 1000 = omega arith in
    let b : n / 10 / 10 % 10 ≡ n % 1000 / 100 % 10 = omega arith in
    let d : n / 10 % 10 ≡ n % 1000 / 10 % 10 = omega arith in
    let e : n % 10 ≡ n % 1000 / 1 % 10 = rw (div-one (n % 1000)) (omega arith) in
    rw (decimal_step n (omega arith) (omega arith), decimal_step (n / 10) (omega arith) (omega arith), decimal_step (n / 10 / 10) (omega arith) (omega arith), append_assoc, append_assoc, a, b, d, e)

-- the last six digits behind the others
pub decimal_millions : (n : ℕ) → 1000000 ≤ n → n < 4294967296 → decimal n ≡ decimal (n / 1000000) ++ (digits_in decimal_glyph 10 3 (n / 1000 % 1000) ++ digits_in decimal_glyph 10 3 (n % 1000))
decimal_millions n lo hi =
    let a : n / 1000 / 1000 ≡ n / 1000000 = omega arith in
    let front : decimal (n / 1000) ≡ decimal (n / 1000000) ++ digits_in decimal_glyph 10 3 (n / 1000 % 1000) = decimal_thousands (n / 1000) (omega arith) (omega arith) ∙ ap (λ m. decimal m ++ digits_in decimal_glyph 10 3 (n / 1000 % 1000)) a in
    decimal_thousands n (omega arith) hi ∙ ap (λ l. l ++ digits_in decimal_glyph 10 3 (n % 1000)) front ∙ append_assoc (decimal (n / 1000000)) (digits_in decimal_glyph 10 3 (n / 1000 % 1000)) (digits_in decimal_glyph 10 3 (n % 1000))

-- six digits are three and three
pub digits_six : (n : ℕ) → digits_in decimal_glyph 10 6 n ≡ digits_in decimal_glyph 10 3 (n / 1000) ++ digits_in decimal_glyph 10 3 (n % 1000)
digits_six n =
    let a : n / 1000 / 100 ≡ n / 100000 = omega arith in
    let b : n / 1000 / 10 ≡ n / 10000 = omega arith in
    let d : n % 1000 / 100 % 10 ≡ n / 100 % 10 = omega arith in
    let e : n % 1000 / 10 % 10 ≡ n / 10 % 10 = omega arith in
    let f : n % 1000 / 1 % 10 ≡ n / 1 % 10 = rw (div-one (n % 1000), div-one n) (omega arith) in
    rw (div-one (n / 1000), a, b, d, e, f)
