-- Rules in sixteen bits: the number of the set of attributes in the low byte, 256 where AS numbers in entries have two
-- bytes, and 512 or 1024 where damage is handled, of internal or of external peers.
use Rattle.std.specs.Prelude.{◌≡◌, ℕ, ◌+◌, ◌/◌, ◌%◌, ◌<◌, zero, suc}
use Rattle.std.proofs.Common.{arith, refl}
use Rattle.bgp_update.specs.declared.kept_attribute.AttributeSet.{AttributeSet}
use Rattle.bgp_update.specs.declared.width.Width.{Width}
use Rattle.bgp_update.specs.declared.width.Width.TheVariants.{Two, Four}
use Rattle.bgp_update.specs.declared.error_rule.ErrorRule.{ErrorRule}
use Rattle.bgp_update.specs.declared.error_rule.ErrorRule.TheVariants.{Skip, Internal, External}

abbrev pub set_in : ℕ → AttributeSet
set_in bits = record { bits = bits % 256 }

abbrev pub width_of_bit : ℕ → Width
width_of_bit zero = Four
width_of_bit (suc n) = Two

abbrev pub width_in : ℕ → Width
width_in bits = width_of_bit (bits / 256 % 2)

abbrev pub width_bits : Width → ℕ
width_bits Four = 0
width_bits Two = 256

abbrev pub errors_of_number : ℕ → ErrorRule
errors_of_number zero = Skip
errors_of_number (suc zero) = Internal
errors_of_number (suc (suc n)) = External

abbrev pub errors_in : ℕ → ErrorRule
errors_in bits = errors_of_number (bits / 512)

abbrev pub errors_bits : ErrorRule → ℕ
errors_bits Skip = 0
errors_bits Internal = 512
errors_bits External = 1024

pub bits_back : (bits : ℕ) → bits < 1536 → bits % 256 + width_bits (width_in bits) + errors_bits (errors_in bits) ≡ bits
bits_back bits few = by_parts (bits / 256 % 2) (bits / 512) refl refl where
  by_parts : (w e : ℕ) → bits / 256 % 2 ≡ w → bits / 512 ≡ e → bits % 256 + width_bits (width_of_bit w) + errors_bits (errors_of_number e) ≡ bits
  by_parts zero zero w e = omega (arith, w, e)
  by_parts (suc n) zero w e = omega (arith, w, e, few)
  by_parts zero (suc zero) w e = omega (arith, w, e)
  by_parts (suc n) (suc zero) w e = omega (arith, w, e, few)
  by_parts zero (suc (suc m)) w e = omega (arith, w, e, few)
  by_parts (suc n) (suc (suc m)) w e = omega (arith, w, e, few)
