-- Prefixes and how far they reach, in words. What is said of a family of addresses takes two values of it: which text
-- spells an address of which bits, as the first of 128, and how many bits an address has.
use Rattle.std.specs.Prelude.{◌≡◌, ◌≢◌, ℕ, ◌*◌, ◌^◌, ◌≤◌, List, [], ◌∷◌, ◌++◌}
use Rattle.std.specs.List.{AllByRecursion}
use Rattle.std.specs.Fmt.{decimal}
use Rattle.bgp_prefix.specs.Prefixes.{IpPrefix, IsIpPrefix}
use Rattle.peer_units.specs.declared.choice.Reach.{Reach}
use Rattle.peer_units.specs.declared.choice.Reach.TheVariants.{Exact, Inside, Around}
use Rattle.peer_units.specs.Plain.{PrefixChoice}
use Rattle.ip_text.specs.Ipv6Texts.{short_ipv6_text}
use Rattle.command_line.specs.Addresses.{IsAddress}

-- the text is an IPv4 address, and these are its bits, as the first of 128
pub record SpellsBits (text : List ℕ) (bits : ℕ) : Type 0 where
  pub number : ℕ
  pub spelled : IsAddress text number
  pub placed : bits ≡ number * 2 ^ 96

-- no slash, plus or minus stands in the text
abbrev pub IsPlain : List ℕ → Type 0
IsPlain text = AllByRecursion (λ byte. (byte ≢ 43) × (byte ≢ 45) × (byte ≢ 47)) text

-- a prefix of a family whose addresses have so many bits
abbrev pub IsPrefixWithin : ℕ → IpPrefix → Type 0
IsPrefixWithin width prefix = IsIpPrefix prefix × (prefix.len ≤ width)

-- the text is an address, a slash and a length in decimal, and no bit is past the length; or an address alone, which
-- has all its bits
pub data SpellsPrefix (Spells : List ℕ → ℕ → Type 0) (width : ℕ) (text : List ℕ) (prefix : IpPrefix) : Type 0 where
  with_length : (front : List ℕ) → text ≡ front ++ 47 ∷ decimal prefix.len → Spells front prefix.addr → IsPrefixWithin width prefix → SpellsPrefix Spells width text prefix
  alone : Spells text prefix.addr → prefix.len ≡ width → SpellsPrefix Spells width text prefix

-- the text of an IPv6 prefix, its address in the short form
abbrev pub short_prefix_text : IpPrefix → List ℕ
short_prefix_text prefix = short_ipv6_text prefix.addr ++ 47 ∷ decimal prefix.len

-- what stands behind a prefix: nothing, + for its more specifics too, - for its less specifics too
abbrev pub mark_of : Reach → List ℕ
mark_of Exact = []
mark_of Inside = 43 ∷ []
mark_of Around = 45 ∷ []

-- the last byte, if there is one, is neither a plus nor a minus
abbrev pub EndsInNoMark : List ℕ → Type 0
EndsInNoMark text = (front : List ℕ) (last : ℕ) → text ≡ front ++ last ∷ [] → (last ≢ 43) × (last ≢ 45)

-- the text is a prefix and a mark, and this is how far the mark says that it reaches
pub record SpellsReach (Spells : List ℕ → ℕ → Type 0) (width : ℕ) (text : List ℕ) (prefix : IpPrefix) (reach : Reach) : Type 0 where
  pub front : List ℕ
  pub written : text ≡ front ++ mark_of reach
  pub spelled : SpellsPrefix Spells width front prefix

-- the text is a prefix and a mark, and this is what they choose
abbrev pub SpellsChoice : (List ℕ → ℕ → Type 0) → ℕ → List ℕ → PrefixChoice → Type 0
SpellsChoice Spells width text choice = SpellsReach Spells width text choice.prefix choice.reach

-- the text chooses nothing
abbrev pub IsNoChoice : (List ℕ → ℕ → Type 0) → ℕ → List ℕ → Type 0
IsNoChoice Spells width text = (choice : PrefixChoice) → SpellsChoice Spells width text choice → ⊥
