-- The path attributes that a route is written as: one of each type that it has a value of, in the order of type codes
-- (RFC 4271, 4.3 and 5; RFC 4760, section 3; RFC 6396, 4.3.4; RFC 6793, section 3).
use Rattle.std.specs.Prelude.{◌≡◌, ℕ, ◌+◌, ◌^◌, ◌<◌, ◌≤◌, ◌↔◌, Bool, true, false, List, [], ◌∷◌, ◌++◌, length, Option, Some, None, IfSome, IsTrue, ⊤, option_map, nat_lt, if◌then◌else◌}
use Rattle.std.specs.List.{filter_map}
use Rattle.byteorder.specs.Endian.{big_bytes}
use Rattle.bgp_update.specs.declared.attribute_type.AttributeType.{AttributeType}
use Rattle.bgp_update.specs.declared.attribute_type.AttributeType.TheVariants as types
use Rattle.bgp_update.specs.declared.next_hop.NextHop.{NextHop}
use Rattle.bgp_update.specs.declared.next_hop.NextHop.TheVariants.{V4, V6, V6Pair}
use Rattle.bgp_update.specs.declared.route.Route.{Route}
use Rattle.bgp_update.specs.declared.kept_attribute.AttributeSet.{AttributeSet}
use Rattle.bgp_update.specs.declared.kept_attribute.KeptAttribute.{KeptAttribute}
use Rattle.bgp_update.specs.declared.kept_attribute.KeptAttribute.TheVariants.{Communities, ExtendedCommunities, LargeCommunities, OriginatorId, ClusterList, OnlyToCustomer}
use Rattle.bgp_update.specs.KeptAttributes.{IsKeptValue, KeptValue, has, kept_code, kept_values, value_kept}
use Rattle.bgp_update.specs.Families.{FamilyOf, RouteRules}
use Rattle.bgp_update.specs.AttributeTypes.{type_code}
use Rattle.bgp_update.specs.Equality.{origin_number}
use Rattle.bgp_update.specs.Segments.{path_bytes}
use Rattle.bgp_update.specs.Multiprotocol.{hop_bytes, hop_part}
use Rattle.bgp_update.specs.Attributes.{WrittenAttribute, attribute_bytes, attributes_bytes}
use Rattle.bgp_update.specs.Packing.{CanPack, aggregator_bytes}

-- ---- one attribute

-- Transitive 0x40, and Optional 0x80 where the type isn't well-known (RFC 4271, 4.3 and 5; RFC 4760; RFC 6793; RFC
-- 1997; RFC 4360; RFC 8092; RFC 4456, section 8; RFC 9234, section 5)
abbrev pub kept_flags : KeptAttribute → ℕ
kept_flags Communities = 192
kept_flags ExtendedCommunities = 192
kept_flags LargeCommunities = 192
kept_flags OriginatorId = 128
kept_flags ClusterList = 128
kept_flags OnlyToCustomer = 192

abbrev pub type_flags : AttributeType → ℕ
type_flags types.Origin = 64
type_flags types.AsPath = 64
type_flags types.NextHop = 64
type_flags types.MultiExitDisc = 128
type_flags types.LocalPref = 64
type_flags types.AtomicAggregate = 64
type_flags types.Aggregator = 192
type_flags types.MpReachNlri = 128
type_flags types.MpUnreachNlri = 128
type_flags types.As4Path = 192
type_flags types.As4Aggregator = 192
type_flags (types.Kept a) = kept_flags a

-- Extended Length 0x10 where the length has two bytes (4.3)
abbrev pub extended_flag : Bool → ℕ
extended_flag true = 16
extended_flag false = 0

abbrev pub attribute_of : AttributeType → List ℕ → WrittenAttribute
attribute_of t value = record {
  flags = type_flags t + extended_flag (nat_lt 255 (length value));
  code = type_code t;
  value = value;
}

-- ---- one of each type

-- the types that are looked at, by their codes
abbrev pub types_in_order : List AttributeType
types_in_order =
    types.Origin
    ∷ types.AsPath
    ∷ types.NextHop
    ∷ types.MultiExitDisc
    ∷ types.LocalPref
    ∷ types.AtomicAggregate
    ∷ types.Aggregator
    ∷ types.Kept Communities
    ∷ types.Kept OriginatorId
    ∷ types.Kept ClusterList
    ∷ types.MpReachNlri
    ∷ types.MpUnreachNlri
    ∷ types.Kept ExtendedCommunities
    ∷ types.As4Path
    ∷ types.As4Aggregator
    ∷ types.Kept LargeCommunities
    ∷ types.Kept OnlyToCustomer
    ∷ []

-- an attribute of each of these types that has a value
abbrev pub attributes_by : (AttributeType → Option (List ℕ)) → List AttributeType → List WrittenAttribute
attributes_by value_at ts = filter_map (λ t. option_map (attribute_of t) (value_at t)) ts

-- ---- the values of a route

abbrev pub atomic_value : Bool → Option (List ℕ)
atomic_value true = Some []
atomic_value false = None

-- the values of a route's types, beside those of NEXT_HOP and MP_REACH_NLRI, with four-octet AS numbers
abbrev pub route_values : Option (List ℕ) → Option (List ℕ) → Route → AttributeType → Option (List ℕ)
route_values own reach r types.Origin = option_map (λ origin. origin_number origin ∷ []) r.origin
route_values own reach r types.AsPath = option_map (path_bytes 4) r.path
route_values own reach r types.NextHop = own
route_values own reach r types.MultiExitDisc = option_map (big_bytes 4) r.med
route_values own reach r types.LocalPref = option_map (big_bytes 4) r.local_pref
route_values own reach r types.AtomicAggregate = atomic_value r.atomic
route_values own reach r types.Aggregator = option_map (λ a. aggregator_bytes (Some a)) r.aggregator
route_values own reach r types.MpReachNlri = reach
route_values own reach r types.MpUnreachNlri = None
route_values own reach r types.As4Path = None
route_values own reach r types.As4Aggregator = None
route_values own reach r (types.Kept a) = value_kept (kept_code a) r.kept

-- ---- a RIB entry

-- NEXT_HOP has the next hop where it is of the family, and else MP_REACH_NLRI has it alone (RFC 6396, 4.3.4)
abbrev pub own_hop : Bool → Option NextHop → Option (List ℕ)
own_hop true hop = option_map hop_bytes hop
own_hop false hop = None

abbrev pub entry_reach : Bool → Option NextHop → Option (List ℕ)
entry_reach true hop = None
entry_reach false hop = option_map hop_part hop

abbrev pub entry_values : FamilyOf → Route → AttributeType → Option (List ℕ)
entry_values family r = route_values (own_hop family.own_fields r.next_hop) (entry_reach family.own_fields r.next_hop) r

-- the attributes of a RIB entry for the route
unfoldable pub entry_attributes : FamilyOf → Route → List WrittenAttribute
entry_attributes family r = attributes_by (entry_values family r) types_in_order

-- NEXT_HOP has IPv4 addresses alone
abbrev pub IsIpv4Hop : NextHop → Type 0
IsIpv4Hop (V4 addr) = ⊤
IsIpv4Hop (V6 addr) = ⊥
IsIpv4Hop (V6Pair addr link) = ⊥

abbrev pub HasEntryHop : Bool → Option NextHop → Type 0
HasEntryHop true hop = IfSome hop IsIpv4Hop
HasEntryHop false hop = ⊤

-- A route keeps values of attributes that these rules ask for alone, each once and well-formed, in the order of
-- columns.
pub record IsKeptBy (asked : AttributeSet) (kept : List KeptValue) : Type 0 where
  pub values : kept_values asked (λ a. value_kept (kept_code a) kept) ≡ kept
  pub formed : (a : KeptAttribute) → has asked a ≡ true → IfSome (value_kept (kept_code a) kept) (IsKeptValue a)

-- The route can be an entry that is read by these rules: its numbers and its path have their widths, its next hop is
-- one of the family's entries, the rules ask for what it keeps, and the attributes are no longer than the entry's
-- length can say.
pub record FitsEntryRoute (rules : RouteRules) (r : Route) : Type 0 where
  pub packs : CanPack r
  pub hop : HasEntryHop rules.family.own_fields r.next_hop
  pub kept : IsKeptBy rules.kept r.kept
  pub short : length (attributes_bytes (entry_attributes rules.family r)) < 256 ^ 2

-- how many bytes the attributes of an entry have at most, since their length has two bytes (RFC 6396, 4.3.4)
abbrev pub entry_most : ℕ
entry_most = 65535

-- ---- one type after the other

-- the bytes of one type: an attribute, or none
abbrev pub value_bytes : AttributeType → Option (List ℕ) → List ℕ
value_bytes t None = []
value_bytes t (Some value) = attribute_bytes (attribute_of t value)

-- the value of MP_REACH_NLRI that is given, and else that of an entry
abbrev pub reach_by : Option (List ℕ) → Bool → Option NextHop → Option (List ℕ)
reach_by None own hop = entry_reach own hop
reach_by (Some value) own hop = Some value

-- A field is appended if it has at most so many bytes, and else nothing.
pub record AppendsWithin (most : ℕ) (field old new : List ℕ) (fits : Bool) : Type 0 where
  pub test : IsTrue fits ↔ (length field ≤ most)
  pub bytes : new ≡ old ++ (if fits then field else [])
