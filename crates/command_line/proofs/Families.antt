-- Texts that are refused as addresses of a family.
use Rattle.std.proofs.Common.{ℕ, ◌*◌, ◌^◌, List, refl}
use Rattle.command_line.specs.declared.address_family.AddressFamily.{AddressFamily}
use Rattle.command_line.specs.declared.address_family.AddressFamily.TheVariants.{Ipv4, Ipv6}
use Rattle.command_line.specs.Families.{SpellsIn, IsNoAddressIn}

-- no bits are spelled, so the text is no address of the family
pub no_address : (family : AddressFamily) (text : List ℕ) → ((bits : ℕ) → SpellsIn family text bits → ⊥) → IsNoAddressIn family text
no_address Ipv4 text none = λ number a. none (number * 2 ^ 96) (record { number = number; spelled = a; placed = refl })
no_address Ipv6 text none = none
