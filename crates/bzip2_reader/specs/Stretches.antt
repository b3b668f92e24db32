-- A stretch of a device's bytes, and what comes behind it.
use Rattle.std.specs.Prelude.{Bool, true, false, ℕ, List, [], ◌++◌, Option, drop, take}
use Rattle.std.specs.Option.{option_map}
use Rattle.bzip2_reader.specs.declared.window.Rest.{Rest}
use Rattle.bzip2_reader.specs.Fields.{bits_of}
use Rattle.bzip2_reader.specs.declared.window.Rest.TheVariants.{More, None as NoMore, Failed}

-- the bytes behind the stretch, where the device has these left: a device that failed still has them
abbrev pub behind : Rest → List ℕ → List ℕ
behind More left = left
behind Failed left = left
behind NoMore left = []

-- all bytes from the stretch's first one on, which are the first ones of a block of memory
abbrev pub whole : List ℕ → ℕ → Rest → List ℕ → List ℕ
whole block filled rest left = take filled block ++ behind rest left

-- the same, where it is known what the device has left
abbrev pub known_whole : List ℕ → ℕ → Rest → Option (List ℕ) → Option (List ℕ)
known_whole block filled rest left = option_map (whole block filled rest) left

-- without so many of the first ones
abbrev pub known_behind : ℕ → Option (List ℕ) → Option (List ℕ)
known_behind used known = option_map (drop used) known

-- the bits from this one on
abbrev pub known_bits : ℕ → Option (List ℕ) → Option (List ℕ)
known_bits at known = option_map (λ bytes. drop at (bits_of bytes)) known

-- no bytes can be read behind the stretch
abbrev pub is_last : Rest → Bool
is_last More = false
is_last NoMore = true
is_last Failed = true

-- the device failed
abbrev pub has_failed : Rest → Bool
has_failed More = false
has_failed NoMore = false
has_failed Failed = true
