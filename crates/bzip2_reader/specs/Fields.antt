-- Reading the fields of a block, each from the bits that are left.
use Rattle.std.specs.Prelude.{◌≡◌, ℕ, zero, suc, ◌+◌, ◌*◌, ◌/◌, ◌%◌, ◌^◌, Bool, true, false, List, [], ◌∷◌, Result, Ok, Err}
use Rattle.std.specs.List.{flat_map}
use Rattle.bzip2_reader.specs.declared.fault.BlockFault.{BlockFault}
use Rattle.bzip2_reader.specs.declared.fault.BlockFault.TheVariants.{ShortBlock}

-- the bits of a byte, and those of bytes, the most significant of each first
abbrev pub byte_bits : ℕ → List ℕ
byte_bits b = b / 2 ^ 7 % 2 ∷ b / 2 ^ 6 % 2 ∷ b / 2 ^ 5 % 2 ∷ b / 2 ^ 4 % 2 ∷ b / 2 ^ 3 % 2 ∷ b / 2 ^ 2 % 2 ∷ b / 2 % 2 ∷ b % 2 ∷ []

unfoldable pub bits_of : List ℕ → List ℕ
bits_of bytes = flat_map byte_bits bytes

-- what is read, and the bits after it; or what is wrong first
abbrev pub Reading : Type 0 → Type 0
Reading A = Result (A × List ℕ) BlockFault

infixl 10 ◌>>=◌
abbrev pub ◌>>=◌ : {A B E : Type 0} → Result A E → (A → Result B E) → Result B E
(Ok x) >>= f = f x
(Err e) >>= f = Err e

-- what must hold, and what is wrong where it doesn't
abbrev pub demand : {E : Type 0} → Bool → E → Result (Unit {0}) E
demand true wrong = Ok tt
demand false wrong = Err wrong

-- n more digits of a number that has this value so far
unfoldable pub number_from : ℕ → ℕ → List ℕ → Reading ℕ
number_from value zero bits = Ok (value, bits)
number_from value (suc n) [] = Err ShortBlock
number_from value (suc n) (bit ∷ bits) = number_from (value * 2 + bit) n bits

-- a number of n bits, the first of them the most significant
abbrev pub number : ℕ → List ℕ → Reading ℕ
number n bits = number_from 0 n bits

-- What a function returned, seen by view, is what reading gives, and these bits are left.
abbrev pub Gives : {X Y : Type 0} → (X → Y) → (X → List ℕ) → Result X BlockFault → Reading Y → Type 0
Gives view rest (Ok x) read = read ≡ Ok (view x, rest x)
Gives view rest (Err fault) read = read ≡ Err fault

-- What a function returned, seen by view, is what reading gives, and these bits are left; after a fault none matter.
abbrev pub Takes : {X Y : Type 0} → (X → Y) → Result X BlockFault → List ℕ → Reading Y → Type 0
Takes view (Ok x) left read = read ≡ Ok (view x, left)
Takes view (Err fault) left read = read ≡ Err fault
