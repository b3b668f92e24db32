-- The first bytes of a bzip2 file.
use Rattle.std.specs.Prelude.{Bool, ◌&&◌, ◌||◌, ℕ, List, [], ◌∷◌, length, take, drop, slice_index, nat_eq, nat_le}
use Rattle.std.specs.List.{starts_with}

-- the 48 bits that begin a block, and those that end a stream
abbrev pub block_magic : List ℕ
block_magic = 0x31 ∷ 0x41 ∷ 0x59 ∷ 0x26 ∷ 0x53 ∷ 0x59 ∷ []

abbrev pub end_magic : List ℕ
end_magic = 0x17 ∷ 0x72 ∷ 0x45 ∷ 0x38 ∷ 0x50 ∷ 0x90 ∷ []

-- the four bytes that begin a stream: "BZh" and a digit from 1 to 9
abbrev pub is_head : List ℕ → Bool
is_head head = starts_with nat_eq head (0x42 ∷ 0x5A ∷ 0x68 ∷ []) && nat_le 0x31 (slice_index head 3) && nat_le (slice_index head 3) 0x39

-- a stream begins, and in it a block, or its end if it is empty
abbrev pub is_bzip2 : List ℕ → Bool
is_bzip2 bytes = nat_le 4 (length bytes) && is_head (take 4 bytes) && (starts_with nat_eq (drop 4 bytes) block_magic || starts_with nat_eq (drop 4 bytes) end_magic)
