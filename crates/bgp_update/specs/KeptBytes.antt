-- The attributes that a route keeps, as bytes: the type code of each, the length of its value in two bytes, and the value.
use Rattle.std.specs.Prelude.{◌≡◌, ℕ, ◌^◌, ◌<◌, List, [], ◌∷◌, ◌++◌, length, Ok}
use Rattle.std.specs.List.{flat_map, AllByRecursion}
use Rattle.std.specs.Result.{result_unwrap_or}
use Rattle.byteorder.specs.Endian.{big_bytes}
use Rattle.mrt_frame.specs.declared.fault.Fault.TheVariants.{ShortAttribute}
use Rattle.mrt_frame.specs.Fields.{Reading, ◌>>=◌, byte_at, number_at, bytes_at, items_in}
use Rattle.bgp_update.specs.KeptAttributes.{KeptValue}

-- as long as a value of an attribute can be (RFC 4271, 4.3)
abbrev pub IsShort : List ℕ → Type 0
IsShort value = length value < 256 ^ 2

abbrev pub FitsKept : KeptValue → Type 0
FitsKept k = IsShort k.value

abbrev pub kept_item_bytes : KeptValue → List ℕ
kept_item_bytes k = k.code ∷ big_bytes 2 (length k.value) ++ k.value

abbrev pub kept_bytes : List KeptValue → List ℕ
kept_bytes ks = flat_map kept_item_bytes ks

unfoldable pub kept_item_at : List ℕ → Reading KeptValue
kept_item_at bytes = do
  code ← byte_at ShortAttribute bytes
  len ← number_at ShortAttribute 2 code.1
  value ← bytes_at ShortAttribute len.0 len.1
  Ok (record { code = code.0; value = value.0 }, value.1)

-- the values that bytes spell; none where they spell no such values
unfoldable pub spelled_values : List ℕ → List KeptValue
spelled_values bytes = result_unwrap_or (items_in kept_item_at ShortAttribute bytes) []

-- the bytes of the values that they spell, whose number has four bytes
pub record AreKeptBytes (bytes : List ℕ) : Type 0 where
  pub fits : AllByRecursion FitsKept (spelled_values bytes)
  pub written : bytes ≡ kept_bytes (spelled_values bytes)
  pub few : length bytes < 256 ^ 4
