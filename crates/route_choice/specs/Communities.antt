-- Patterns of communities (RFC 1997; RFC 4360; RFC 5668; RFC 8092), and which routes have one that a pattern matches.
use Rattle.std.specs.Prelude.{ℕ, zero, suc, ◌/◌, ◌≤◌, Bool, true, false, ◌&&◌, ◌==◌, List, [], ◌∷◌, length, take, drop, slice_index, nat_le, Option, Some, None, if◌then◌else◌}
use Rattle.std.specs.List.{list_any}
use Rattle.byteorder.specs.Endian.{big_number}
use Rattle.bgp_update.specs.declared.kept_attribute.KeptAttribute.{KeptAttribute}
use Rattle.bgp_update.specs.declared.kept_attribute.KeptAttribute.TheVariants.{Communities, ExtendedCommunities, LargeCommunities}
use Rattle.bgp_update.specs.KeptAttributes.{KeptValue, kept_code, kept_form, kept_index, value_kept}
use Rattle.route_choice.specs.declared.community.PatternPart.{PatternPart}
use Rattle.route_choice.specs.declared.community.PatternPart.TheVariants.{AnyValue, Number}
use Rattle.route_choice.specs.declared.community.Administrator.{Administrator}
use Rattle.route_choice.specs.declared.community.Administrator.TheVariants.{AnyAdministrator, Asn, Address}
use Rattle.route_choice.specs.declared.community.Role.{Role}
use Rattle.route_choice.specs.declared.community.Role.TheVariants.{RouteTarget, RouteOrigin}
use Rattle.route_choice.specs.declared.community.CommunityPattern.{CommunityPattern}
use Rattle.route_choice.specs.declared.community.CommunityPattern.TheVariants.{Standard, Large, Extended, Exactly}

-- ---- members of a value

-- the first ones of so many members, each of so many bytes
abbrev pub members_in : ℕ → ℕ → List ℕ → List (List ℕ)
members_in zero size value = []
members_in (suc count) size value = take size value ∷ members_in count size (drop size value)

abbrev pub members : KeptAttribute → List ℕ → List (List ℕ)
members a value = members_in (length value / (kept_form a).size) (kept_form a).size value

-- ---- parts of a pattern

-- `*`, or this number
abbrev pub part_is : PatternPart → ℕ → Bool
part_is AnyValue n = true
part_is (Number m) n = n == m

-- an AS number as administrator, which no address stands for
abbrev pub asn_is : Administrator → ℕ → Bool
asn_is AnyAdministrator n = true
asn_is (Asn m) n = n == m
asn_is (Address a) n = false

-- an IPv4 address as administrator, which no number stands for
abbrev pub address_is : Administrator → ℕ → Bool
address_is AnyAdministrator n = true
address_is (Asn m) n = false
address_is (Address a) n = n == a

-- `rt` and `ro` (RFC 4360, 4 and 5)
abbrev pub role_subtype : Role → ℕ
role_subtype RouteTarget = 2
role_subtype RouteOrigin = 3

-- Administrator and number of an extended community by its type: a two-octet AS and four bytes (RFC 4360, 3.1), an IPv4
-- address and two bytes (3.2), a four-octet AS and two bytes (RFC 5668, 2). No other type has them.
abbrev pub administers : Administrator → PatternPart → List ℕ → Bool
administers administrator number m =
    if slice_index m 0 == 0
    then asn_is administrator (big_number 2 (drop 2 m)) && part_is number (big_number 4 (drop 4 m)) else
    (if slice_index m 0 == 1
    then address_is administrator (big_number 4 (drop 2 m)) && part_is number (big_number 2 (drop 6 m)) else
    (if slice_index m 0 == 2
    then asn_is administrator (big_number 4 (drop 2 m)) && part_is number (big_number 2 (drop 6 m)) else
    false))

-- ---- patterns

-- the attribute whose members a pattern is about
abbrev pub asks : CommunityPattern → KeptAttribute
asks (Standard a b) = Communities
asks (Large a b c) = LargeCommunities
asks (Extended role administrator number) = ExtendedCommunities
asks (Exactly n) = ExtendedCommunities

abbrev pub matches_member : CommunityPattern → List ℕ → Bool
matches_member (Standard a b) m = part_is a (big_number 2 m) && part_is b (big_number 2 (drop 2 m))
matches_member (Large a b c) m =
    part_is a (big_number 4 m) && (part_is b (big_number 4 (drop 4 m)) && part_is c (big_number 4 (drop 8 m)))
matches_member (Extended role administrator number) m =
    slice_index m 1 == role_subtype role && administers administrator number m
matches_member (Exactly n) m = big_number 8 m == n

-- a member of the value matches; an attribute that isn't there has none
abbrev pub matches_value : CommunityPattern → Option (List ℕ) → Bool
matches_value pattern None = false
matches_value pattern (Some value) = list_any (matches_member pattern) (members (asks pattern) value)

abbrev pub has_community : List KeptValue → CommunityPattern → Bool
has_community kept pattern = matches_value pattern (value_kept (kept_code (asks pattern)) kept)

-- the pattern is about members of this attribute
abbrev pub asks_for : KeptAttribute → CommunityPattern → Bool
asks_for a pattern = kept_index (asks pattern) == kept_index a

-- ---- parts that fit

-- `*`, or a number of at most this
abbrev pub IsPartWithin : ℕ → PatternPart → Type 0
IsPartWithin most AnyValue = Unit {0}
IsPartWithin most (Number n) = n ≤ most

-- the greatest number that an extended community with this administrator has: two bytes behind four, four behind two
abbrev pub most_behind : Administrator → ℕ
most_behind AnyAdministrator = 4294967295
most_behind (Asn n) = if nat_le n 65535 then 4294967295 else 65535
most_behind (Address a) = 65535

-- each part fits its width
abbrev pub IsFitting : CommunityPattern → Type 0
IsFitting (Standard a b) = IsPartWithin 65535 a × IsPartWithin 65535 b
IsFitting (Large a b c) = IsPartWithin 4294967295 a × IsPartWithin 4294967295 b × IsPartWithin 4294967295 c
IsFitting (Extended role administrator number) = IsPartWithin (most_behind administrator) number
IsFitting (Exactly n) = Unit {0}
