-- The decimal text of a number below 256.
use Rattle.std.proofs.Common.{◌≡◌, ℕ, ◌+◌, ◌*◌, ◌/◌, ◌%◌, ◌≤◌, ◌<◌, List, [], ◌∷◌, ◌++◌, length, inl, inr, sym, ap, ◌∙◌, arith}
use Rattle.std.proofs.lemmas.Bool.{cases_lt}
use Rattle.std.proofs.lemmas.Fmt.{decimal_digit, decimal_step}
use Rattle.std.specs.Fmt.{decimal}
use Rattle.command_line.specs.Addresses.{IsOctet}

pub decimal_tens : (n : ℕ) → 10 ≤ n → n < 100 → decimal n ≡ (48 + n / 10) ∷ (48 + n % 10) ∷ []
decimal_tens n lo hi = decimal_step n lo (omega arith) ∙ ap (λ l. l ++ (48 + n % 10) ∷ []) (decimal_digit (n / 10) (omega arith))

pub decimal_hundreds : (n : ℕ) → 100 ≤ n → n < 1000 → decimal n ≡ (48 + n / 100) ∷ (48 + n / 10 % 10) ∷ (48 + n % 10) ∷ []
decimal_hundreds n lo hi =
    decimal_step n (omega arith) (omega arith) ∙ ap (λ l. l ++ (48 + n % 10) ∷ []) (decimal_tens (n / 10) (omega arith) (omega arith) ∙ ap (λ d. (48 + d) ∷ (48 + n / 10 % 10) ∷ []) (omega arith))

-- the three forms of an octet's text
pub data OctetForm (text : List ℕ) (n : ℕ) : Type 0 where
  one : n < 10 → text ≡ (48 + n) ∷ [] → OctetForm text n
  two : 10 ≤ n → n < 100 → text ≡ (48 + n / 10) ∷ (48 + n % 10) ∷ [] → OctetForm text n
  three : 100 ≤ n → n < 256 → text ≡ (48 + n / 100) ∷ (48 + n / 10 % 10) ∷ (48 + n % 10) ∷ [] → OctetForm text n

pub form_of : (text : List ℕ) (n : ℕ) → IsOctet text n → OctetForm text n
form_of text n o =
    let below : n < 256 = o.below in
    elim (cases_lt n 10) [
      | inl small ↦ one small (o.written ∙ decimal_digit n small)
      | inr past ↦ elim (cases_lt n 100) [
        | inl small ↦ two past small (o.written ∙ decimal_tens n past small)
        | inr far ↦ three far below (o.written ∙ decimal_hundreds n far (omega arith))
      ]
    ]

-- ---- texts of one, two and three bytes

pub one_digit : (x n : ℕ) → IsOctet (x ∷ []) n → (x ≡ 48 + n) × (n < 10)
one_digit x n o = elim (form_of (x ∷ []) n o) [ one small e ↦ (cc, small) | two lo hi e ↦ absurd (cc) | three lo hi e ↦ absurd (cc) ]

pub two_digits : (x y n : ℕ) → IsOctet (x ∷ y ∷ []) n → (x ≡ 48 + n / 10) × (y ≡ 48 + n % 10) × (10 ≤ n) × (n < 100)
two_digits x y n o = elim (form_of (x ∷ y ∷ []) n o) [ one small e ↦ absurd (cc) | two lo hi e ↦ (cc, cc, lo, hi) | three lo hi e ↦ absurd (cc) ]

pub three_digits : (x y z n : ℕ) → IsOctet (x ∷ y ∷ z ∷ []) n → (x ≡ 48 + n / 100) × (y ≡ 48 + n / 10 % 10) × (z ≡ 48 + n % 10) × (100 ≤ n) × (n < 256)
three_digits x y z n o = elim (form_of (x ∷ y ∷ z ∷ []) n o) [ one small e ↦ absurd (cc) | two lo hi e ↦ absurd (cc) | three lo hi e ↦ (cc, cc, cc, lo, hi) ]

pub few_digits : (text : List ℕ) (n : ℕ) → IsOctet text n → (0 < length text) × (length text ≤ 3)
few_digits text n o = elim (form_of text n o) [
  | one small e ↦ (omega (arith, ap length e), omega (arith, ap length e))
  | two lo hi e ↦ (omega (arith, ap length e), omega (arith, ap length e))
  | three lo hi e ↦ (omega (arith, ap length e), omega (arith, ap length e))
]

-- ---- the numbers that the digits are of

pub is_one : (x n : ℕ) → x ≡ 48 + n → n < 10 → IsOctet (x ∷ []) n
is_one x n e h = record { below = omega arith; written = ap (λ d. d ∷ []) e ∙ sym (decimal_digit n h) }

pub is_two : (x y a b n : ℕ) → x ≡ 48 + a → y ≡ 48 + b → 1 ≤ a → a < 10 → b < 10 → n ≡ a * 10 + b → IsOctet (x ∷ y ∷ []) n
is_two x y a b n ex ey lo ha hb en =
    let tens : 48 + n / 10 ≡ x = omega arith in
    let ones : 48 + n % 10 ≡ y = omega arith in
    record { below = omega arith; written = sym (decimal_tens n (omega arith) (omega arith) ∙ ap (λ d. d ∷ (48 + n % 10) ∷ []) tens ∙ ap (λ d. x ∷ d ∷ []) ones) }

pub is_three : (x y z a b c n : ℕ) → x ≡ 48 + a → y ≡ 48 + b → z ≡ 48 + c → 1 ≤ a → a < 10 → b < 10 → c < 10 → n ≡ a * 100 + b * 10 + c → n < 256 → IsOctet (x ∷ y ∷ z ∷ []) n
is_three x y z a b c n ex ey ez lo ha hb hc en below =
    let hundreds : 48 + n / 100 ≡ x = omega arith in
    let tens : 48 + n / 10 % 10 ≡ y = omega arith in
    let ones : 48 + n % 10 ≡ z = omega arith in
    record { below = below; written = sym (decimal_hundreds n (omega arith) (omega arith) ∙ ap (λ d. d ∷ (48 + n / 10 % 10) ∷ (48 + n % 10) ∷ []) hundreds ∙ ap (λ d. x ∷ d ∷ (48 + n % 10) ∷ []) tens ∙ ap (λ d. x ∷ y ∷ d ∷ []) ones) }
