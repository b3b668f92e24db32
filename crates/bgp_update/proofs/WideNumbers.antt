-- The number of 16 bytes of which the leading ones are written, four by four.
use Rattle.std.proofs.Common.{◌≡◌, ℕ, ◌+◌, ◌*◌, ◌^◌, ◌≤◌, List, [], ◌∷◌, length, take, drop, arith}
use Rattle.byteorder.specs.Endian.{big_number}

pub of_four : (xs : List ℕ) → length xs ≤ 4 → big_number 4 xs * 2 ^ 96 ≡ big_number 16 xs
of_four (a ∷ b ∷ c ∷ d ∷ e ∷ xs) few = absurd (omega (arith, few))
of_four xs few = omega arith

behind_four : (a b c d : ℕ) (xs : List ℕ) → length xs ≤ 4 → big_number 4 (a ∷ b ∷ c ∷ d ∷ []) * 2 ^ 96 + big_number 4 xs * 2 ^ 64 ≡ big_number 16 (a ∷ b ∷ c ∷ d ∷ xs)
behind_four a b c d (e ∷ f ∷ g ∷ h ∷ i ∷ xs) few = absurd (omega (arith, few))
behind_four a b c d xs few = omega arith

pub of_eight : (xs : List ℕ) → 4 ≤ length xs → length xs ≤ 8 → big_number 4 (take 4 xs) * 2 ^ 96 + big_number 4 (drop 4 xs) * 2 ^ 64 ≡ big_number 16 xs
of_eight (a ∷ b ∷ c ∷ d ∷ xs) many few = behind_four a b c d xs (omega (arith, few))
of_eight xs many few = absurd (omega (arith, many))
