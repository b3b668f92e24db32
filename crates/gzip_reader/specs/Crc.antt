-- CRC-32, bit by bit.
use Rattle.std.specs.Prelude.{◌≡◌, ℕ, ◌+◌, ◌*◌, ◌/◌, ◌%◌, ◌<◌, List, [], ◌∷◌, zero, suc, bit_xor, slice_index}

-- the register one bit later: where the bit that leaves it is set, the polynomial is added
unfoldable pub crc_bit : ℕ → ℕ
crc_bit c = bit_xor (c / 2) (c % 2 * 0xEDB88320)

-- the register this many bits later
unfoldable pub crc_bits : ℕ → ℕ → ℕ
crc_bits zero c = c
crc_bits (suc n) c = crc_bits n (crc_bit c)

-- the register after these bytes, the lowest bit of each first
unfoldable pub crc : ℕ → List ℕ → ℕ
crc c [] = c
crc c (b ∷ bs) = crc (crc_bits 8 (bit_xor c b)) bs

-- the first n entries of the tables: entry 256 * j + b is what a byte b adds when j more bytes have followed it
abbrev pub IsTable : ℕ → List ℕ → Type 0
IsTable n t = (k : ℕ) → k < n → slice_index t k ≡ crc_bits (8 * (k / 256) + 8) (k % 256)

-- the CRC-32 that a register stands for (RFC 1952, section 8): its complement
abbrev pub crc_value : ℕ → ℕ
crc_value register = bit_xor register 0xFFFFFFFF
