-- The texts of the addresses of each family.
use Rattle.std.proofs.Common.{◌≡◌, ℕ, ◌*◌, ◌^◌, ap, refl}
use Rattle.std.proofs.lemmas.Nat.{shl-shr}
use Rattle.bgp_update.specs.Families.{ipv4, ipv6}
use Rattle.ip_text.specs.declared.address_form.AddressForm.{AddressForm}
use Rattle.ip_text.specs.Digits.{ipv4_text}
use Rattle.ip_text.specs.Ipv6Texts.{ipv6_text}
use Rattle.ip_text.specs.AddressTexts.{address_text}

pub ipv4_address : (form : AddressForm) (addr : ℕ) → address_text ipv4 form (addr * 2 ^ 96) ≡ ipv4_text addr
unfolding address_text
ipv4_address form addr = ap ipv4_text (shl-shr addr 96)

pub ipv6_address : (form : AddressForm) (addr : ℕ) → address_text ipv6 form addr ≡ ipv6_text form addr
unfolding address_text
ipv6_address form addr = refl
