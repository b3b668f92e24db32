-- The text of an address of a family.
use Rattle.std.specs.Prelude.{ℕ, ◌/◌, ◌^◌, List, ◌==◌, if◌then◌else◌}
use Rattle.bgp_update.specs.Families.{FamilyOf}
use Rattle.ip_text.specs.declared.address_form.AddressForm.{AddressForm}
use Rattle.ip_text.specs.Digits.{ipv4_text}
use Rattle.ip_text.specs.Ipv6Texts.{ipv6_text}

-- in dotted decimal the first 32 of the 128 bits, if the family has no more; else all of them, in a form
unfoldable pub address_text : FamilyOf → AddressForm → ℕ → List ℕ
address_text family form addr = if family.width == 32 then ipv4_text (addr / 2 ^ 96) else ipv6_text form addr
