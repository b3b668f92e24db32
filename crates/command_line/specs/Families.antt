-- Texts of addresses by family.
use Rattle.std.specs.Prelude.{ℕ, List}
use Rattle.ip_text.specs.Spellings.{IsIpv6Text, IsNoIpv6Text}
use Rattle.command_line.specs.declared.address_family.AddressFamily.{AddressFamily}
use Rattle.command_line.specs.declared.address_family.AddressFamily.TheVariants.{Ipv4, Ipv6}
use Rattle.command_line.specs.Addresses.{IsNoAddress}
use Rattle.command_line.specs.Choices.{SpellsBits}

-- which text spells an address of which bits
abbrev pub SpellsIn : AddressFamily → List ℕ → ℕ → Type 0
SpellsIn Ipv4 text bits = SpellsBits text bits
SpellsIn Ipv6 text bits = IsIpv6Text text bits

-- the text is that of no address
abbrev pub IsNoAddressIn : AddressFamily → List ℕ → Type 0
IsNoAddressIn Ipv4 text = IsNoAddress text
IsNoAddressIn Ipv6 text = IsNoIpv6Text text
