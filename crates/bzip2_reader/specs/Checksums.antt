-- The CRC-32 of bzip2, bit by bit: the most significant bit of each byte first.
use Rattle.std.specs.Prelude.{◌≡◌, ℕ, ◌+◌, ◌-◌, ◌*◌, ◌/◌, ◌%◌, ◌^◌, ◌<◌, List, [], ◌∷◌, zero, suc, bit_xor, slice_index}

-- the register one bit later: where the bit that leaves it is set, the polynomial is added
unfoldable pub crc_bit : ℕ → ℕ
crc_bit c = bit_xor (c * 2 % 2 ^ 32) (c / 2 ^ 31 % 2 * 0x04C11DB7)

-- the register this many bits later
unfoldable pub crc_bits : ℕ → ℕ → ℕ
crc_bits zero c = c
crc_bits (suc n) c = crc_bits n (crc_bit c)

-- the register after these bytes
unfoldable pub crc : ℕ → List ℕ → ℕ
crc c [] = c
crc c (b ∷ bs) = crc (crc_bits 8 (bit_xor c (b * 2 ^ 24))) bs

-- the checksum of a block's bytes: the register begins with ones, and is inverted at the end
abbrev pub checksum_of : List ℕ → ℕ
checksum_of bs = 2 ^ 32 - 1 - crc (2 ^ 32 - 1) bs

-- the first n entries of the tables: entry 256 * j + b is what a byte b adds when j more bytes have followed it
abbrev pub IsTable : ℕ → List ℕ → Type 0
IsTable n t = (k : ℕ) → k < n → slice_index t k ≡ crc_bits (8 * (k / 256) + 8) (k % 256 * 2 ^ 24)
