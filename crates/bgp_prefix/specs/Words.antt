-- A number in four words of 32 bits, the most significant first.
use Rattle.std.specs.Prelude.{◌≡◌, ℕ, ◌+◌, ◌*◌, ◌/◌, ◌%◌, ◌^◌, ◌<◌}
use Rattle.std.proofs.Common.{arith}

abbrev pub of_words : ℕ → ℕ → ℕ → ℕ → ℕ
of_words a b c d = a * 2 ^ 96 + b * 2 ^ 64 + c * 2 ^ 32 + d

pub first_of : (a b c d : ℕ) → b < 2 ^ 32 → c < 2 ^ 32 → d < 2 ^ 32 → of_words a b c d / 2 ^ 96 ≡ a
first_of a b c d second third fourth = omega (arith, second, third, fourth)

pub second_of : (a b c d : ℕ) → b < 2 ^ 32 → c < 2 ^ 32 → d < 2 ^ 32 → of_words a b c d / 2 ^ 64 % 2 ^ 32 ≡ b
second_of a b c d second third fourth = omega (arith, second, third, fourth)

pub third_of : (a b c d : ℕ) → b < 2 ^ 32 → c < 2 ^ 32 → d < 2 ^ 32 → of_words a b c d / 2 ^ 32 % 2 ^ 32 ≡ c
third_of a b c d second third fourth = omega (arith, second, third, fourth)

pub fourth_of : (a b c d : ℕ) → b < 2 ^ 32 → c < 2 ^ 32 → d < 2 ^ 32 → of_words a b c d % 2 ^ 32 ≡ d
fourth_of a b c d second third fourth = omega (arith, second, third, fourth)
