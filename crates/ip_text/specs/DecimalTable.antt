-- Small numbers in text.
use Rattle.std.specs.Prelude.{◌≡◌, ℕ, ◌≤◌, take, decimal}
use Rattle.ip_text.specs.Digits.{decimal_glyph, digits_in}
use Rattle.ip_text.specs.declared.short.ShortText.{ShortText}

-- the front of the block is the number in decimal, of at most three digits, and these are its digits with zeros before
-- it
pub record IsShortText (number : ℕ) (text : ShortText) : Type 0 where
  pub shortest : take text.len text.bytes ≡ decimal number
  pub padded : text.digits ≡ digits_in decimal_glyph 10 3 number
  pub few : text.len ≤ 3
