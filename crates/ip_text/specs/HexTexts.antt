-- Bytes in hexadecimal.
use Rattle.std.specs.Prelude.{◌≡◌, ℕ, ◌/◌, ◌%◌, ◌≤◌, false, [], ◌∷◌, take}
use Rattle.std.specs.Fmt.{digit_glyph}
use Rattle.ip_text.specs.Ipv6Texts.{hexadecimal}
use Rattle.ip_text.specs.declared.hexadecimal.HexText.{HexText}

-- the front of the block is the byte in hexadecimal, and these are its two digits
pub record IsHexText (byte : ℕ) (text : HexText) : Type 0 where
  pub shortest : take text.len text.bytes ≡ hexadecimal byte
  pub padded : text.digits ≡ digit_glyph false (byte / 16) ∷ digit_glyph false (byte % 16) ∷ []
  pub few : text.len ≤ 2
