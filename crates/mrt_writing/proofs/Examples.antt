-- Bytes that were written by hand from the RFCs (RFC 4271, 4.1 to 4.3; RFC 4760, section 3; RFC 6396, 2, 4.3 and 4.4; RFC
-- 8050, 3 and 4).
use Rattle.std.proofs.Common.{◌≡◌, true, false, List, ℕ, [], ◌∷◌, ◌++◌, Some, None, refl, arith, ◌*◌, ◌^◌, take, replicate}
use Rattle.bgp_prefix.specs.Prefixes.{IpPrefix}
use Rattle.bgp_update.specs.declared.next_hop.NextHop.{NextHop}
use Rattle.bgp_update.specs.declared.next_hop.NextHop.TheVariants as hops
use Rattle.bgp_update.specs.declared.attribute_type.AttributeType.TheVariants as types
use Rattle.bgp_update.specs.declared.path.SegmentKind.TheVariants.{AsSequence}
use Rattle.bgp_update.specs.declared.route.Origin.TheVariants.{Igp}
use Rattle.bgp_update.specs.declared.route.Route.{Route}
use Rattle.bgp_update.specs.Attributes.{attribute_bytes}
use Rattle.std.proofs.lemmas.Bool.{false≢true}
use Rattle.bgp_update.specs.declared.kept_attribute.KeptAttribute.{KeptAttribute}
use Rattle.bgp_update.specs.declared.kept_attribute.KeptAttribute.TheVariants.{Communities}
use Rattle.bgp_update.specs.KeptAttributes.{KeptValue, has, no_attributes}
use Rattle.bgp_update.specs.Families.{ipv4, ipv6, route_rules_of}
use Rattle.peer_units.specs.declared.unit.PeerAddr.TheVariants.{V4, V6}
use Rattle.peer_units.specs.declared.unit.PeerKey.{PeerKey}
use Rattle.mrt_body.specs.Indexes.{index_bytes}
use Rattle.mrt_body.specs.RibRecords.{rib_bytes}
use Rattle.mrt_writing.specs.declared.record_kind.RecordKind.TheVariants.{Rib, Message}
use Rattle.mrt_writing.specs.Prefixes.{prefix_octets}
use Rattle.mrt_writing.specs.Kinds.{mrt_type, mrt_subtype}
use Rattle.mrt_writing.specs.Records.{record_head}
use Rattle.mrt_writing.specs.Heads.{written_index, change_bytes}
use Rattle.mrt_writing.specs.RibRecords.{entry_field, written_rib}
use Rattle.mrt_writing.specs.RouteAttributes.{attribute_of, entry_attributes, FitsEntryRoute}
use Rattle.mrt_writing.specs.Updates.{update_field, update_of}

-- ---- routes

-- ORIGIN IGP, AS_PATH 64512, this next hop, and what is kept
abbrev by : NextHop → List KeptValue → Route
by hop kept = record {
  next_hop = Some hop;
  path = Some (record { kind = AsSequence; numbers = 64512 ∷ [] } ∷ []);
  med = None;
  local_pref = None;
  aggregator = None;
  origin = Some Igp;
  atomic = false;
  kept = kept;
}

-- 192.0.2.1
abbrev hop_v4 : NextHop
hop_v4 = hops.V4 3221225985

-- 2001:db8::1
abbrev hop_v6 : NextHop
hop_v6 = hops.V6 42540766411282592856903984951653826561

-- ORIGIN and AS_PATH
abbrev front : List ℕ
front = 64 ∷ 1 ∷ 1 ∷ 0 ∷ 64 ∷ 2 ∷ 6 ∷ 2 ∷ 1 ∷ 0 ∷ 0 ∷ 252 ∷ 0 ∷ []

-- 2001:db8::1 in 16 bytes
abbrev address : List ℕ
address = 32 ∷ 1 ∷ 13 ∷ 184 ∷ 0 ∷ 0 ∷ 0 ∷ 0 ∷ 0 ∷ 0 ∷ 0 ∷ 0 ∷ 0 ∷ 0 ∷ 0 ∷ 1 ∷ []

ipv4_entry : entry_field ipv4 (by hop_v4 []) ≡ front ++ (64 ∷ 3 ∷ 4 ∷ 192 ∷ 0 ∷ 2 ∷ 1 ∷ [])
unfolding entry_attributes
ipv4_entry = refl

ipv4_fits : FitsEntryRoute (route_rules_of ipv4 no_attributes) (by hop_v4 [])
unfolding entry_attributes
ipv4_fits = record {
  packs = record {
    fields = record { next_hop = omega arith; med = tt; local_pref = tt; aggregator = tt };
    path = (record { nonempty = omega arith; countable = omega arith; numbers = (omega arith, tt) }, tt);
    kept = tt;
    kept_len = omega arith;
  };
  hop = tt;
  kept = record { values = refl; formed = λ a asked. absurd (none_asked a asked) };
  short = omega arith;
}
  where
    none_asked : (a : KeptAttribute) → has no_attributes a ≡ true → ⊥
    none_asked Communities asked = false≢true asked
    none_asked a asked = false≢true asked

-- the community 65000:1, and as OTC the AS 64513, behind NEXT_HOP
ipv4_kept : entry_field ipv4 (by hop_v4 (record { code = 8; value = 253 ∷ 232 ∷ 0 ∷ 1 ∷ [] } ∷ record { code = 35; value = 0 ∷ 0 ∷ 252 ∷ 1 ∷ [] } ∷ []))
    ≡ front ++ (64 ∷ 3 ∷ 4 ∷ 192 ∷ 0 ∷ 2 ∷ 1 ∷ 192 ∷ 8 ∷ 4 ∷ 253 ∷ 232 ∷ 0 ∷ 1 ∷ 192 ∷ 35 ∷ 4 ∷ 0 ∷ 0 ∷ 252 ∷ 1 ∷ [])
unfolding entry_attributes
ipv4_kept = refl

-- the next hop alone in MP_REACH_NLRI, behind its length
ipv6_entry : entry_field ipv6 (by hop_v6 []) ≡ front ++ (128 ∷ 14 ∷ 17 ∷ 16 ∷ address)
unfolding entry_attributes
ipv6_entry = refl

-- an IPv4 route by an IPv6 next hop: AFI 1, SAFI 1, next hop, reserved, 198.51.100.0/22
abbrev prefix_22 : IpPrefix
prefix_22 = record { addr = 3325256704 * 2 ^ 96; len = 22 }

abbrev update_attributes : List ℕ
update_attributes = front ++ (128 ∷ 14 ∷ 25 ∷ 0 ∷ 1 ∷ 1 ∷ 16 ∷ address ++ (0 ∷ 22 ∷ 198 ∷ 51 ∷ 100 ∷ []))

ipv4_update : update_field ipv4 false (record { prefix = prefix_22; id = 0 }) (by hop_v6 []) ≡ update_attributes
unfolding prefix_octets
ipv4_update = refl

-- the same with the path identifier 258
ipv4_update_identified : update_field ipv4 true (record { prefix = prefix_22; id = 258 }) (by hop_v6 [])
    ≡ front ++ (128 ∷ 14 ∷ 29 ∷ 0 ∷ 1 ∷ 1 ∷ 16 ∷ address ++ (0 ∷ 0 ∷ 0 ∷ 1 ∷ 2 ∷ 22 ∷ 198 ∷ 51 ∷ 100 ∷ []))
unfolding prefix_octets
ipv4_update_identified = refl

update_message_of : update_of update_attributes ≡ replicate 16 255 ++ (0 ∷ 64 ∷ 2 ∷ 0 ∷ 0 ∷ 0 ∷ 41 ∷ update_attributes)
update_message_of = refl

-- a value of 255 bytes, and one of 256
short_length : take 4 (attribute_bytes (attribute_of types.AsPath (replicate 255 7))) ≡ 64 ∷ 2 ∷ 255 ∷ 7 ∷ []
short_length = refl

long_length : take 5 (attribute_bytes (attribute_of types.AsPath (replicate 256 7))) ≡ 80 ∷ 2 ∷ 1 ∷ 0 ∷ 7 ∷ []
long_length = refl

-- ---- prefixes

octets_of_22 : prefix_octets prefix_22 ≡ 198 ∷ 51 ∷ 100 ∷ []
unfolding prefix_octets
octets_of_22 = refl

octets_of_0 : prefix_octets (record { addr = 0; len = 0 }) ≡ []
unfolding prefix_octets
octets_of_0 = refl

-- 2001:db8:1::/48
octets_of_48 : prefix_octets (record { addr = 42540766411283801782723599580828532736; len = 48 }) ≡ 32 ∷ 1 ∷ 13 ∷ 184 ∷ 0 ∷ 1 ∷ []
unfolding prefix_octets
octets_of_48 = refl

-- ---- records

-- at 1700000000, RIB_IPV6_UNICAST of 256 bytes
rib_record_head : record_head 1700000000 (mrt_type (Rib false)) (mrt_subtype ipv6 (Rib false)) 256 ≡ 101 ∷ 83 ∷ 241 ∷ 0 ∷ 0 ∷ 13 ∷ 0 ∷ 4 ∷ 0 ∷ 0 ∷ 1 ∷ 0 ∷ []
rib_record_head = refl

-- BGP4MP_MESSAGE_AS4_ADDPATH
message_record_head : record_head 0 (mrt_type (Message true)) (mrt_subtype ipv4 (Message true)) 1 ≡ 0 ∷ 0 ∷ 0 ∷ 0 ∷ 0 ∷ 16 ∷ 0 ∷ 9 ∷ 0 ∷ 0 ∷ 0 ∷ 1 ∷ []
message_record_head = refl

-- AS 65001 at 192.0.2.1, and AS 65002 at 2001:db8::1
abbrev first : PeerKey
first = record { asn = 65001; addr = V4 3221225985 }

abbrev second : PeerKey
second = record { asn = 65002; addr = V6 42540766411282592856903984951653826561 }

index_of_two : index_bytes (written_index (first ∷ second ∷ [])) ≡ 0 ∷ 0 ∷ 0 ∷ 0 ∷ 0 ∷ 0 ∷ 0 ∷ 2 ∷ 2 ∷ 0 ∷ 0 ∷ 0 ∷ 0 ∷ 192 ∷ 0 ∷ 2 ∷ 1 ∷ 0 ∷ 0 ∷ 253 ∷ 233 ∷ 3 ∷ 0 ∷ 0 ∷ 0 ∷ 0 ∷ address ++ (0 ∷ 0 ∷ 253 ∷ 234 ∷ [])
index_of_two = refl

change_of_up : change_bytes first true ≡ 0 ∷ 0 ∷ 253 ∷ 233 ∷ 0 ∷ 0 ∷ 0 ∷ 0 ∷ 0 ∷ 0 ∷ 0 ∷ 1 ∷ 192 ∷ 0 ∷ 2 ∷ 1 ∷ 0 ∷ 0 ∷ 0 ∷ 0 ∷ 0 ∷ 6 ∷ 0 ∷ 6 ∷ []
change_of_up = refl

change_of_down : change_bytes second false ≡ 0 ∷ 0 ∷ 253 ∷ 234 ∷ 0 ∷ 0 ∷ 0 ∷ 0 ∷ 0 ∷ 0 ∷ 0 ∷ 2 ∷ address ++ (replicate 16 0 ++ (0 ∷ 6 ∷ 0 ∷ 1 ∷ []))
change_of_down = refl

-- the seventh record, of one entry of the peer 1, without a path identifier and with one
rib_of_one : rib_bytes false (written_rib ipv4 1700000000 7 prefix_22 (record { peer = 1; id = 0; route = by hop_v4 [] } ∷ []))
    ≡ 0 ∷ 0 ∷ 0 ∷ 7 ∷ 22 ∷ 198 ∷ 51 ∷ 100 ∷ 0 ∷ 1 ∷ 0 ∷ 1 ∷ 101 ∷ 83 ∷ 241 ∷ 0 ∷ 0 ∷ 20 ∷ front ++ (64 ∷ 3 ∷ 4 ∷ 192 ∷ 0 ∷ 2 ∷ 1 ∷ [])
unfolding entry_attributes prefix_octets
rib_of_one = refl

rib_of_one_identified : rib_bytes true (written_rib ipv4 1700000000 7 prefix_22 (record { peer = 1; id = 9; route = by hop_v4 [] } ∷ []))
    ≡ 0 ∷ 0 ∷ 0 ∷ 7 ∷ 22 ∷ 198 ∷ 51 ∷ 100 ∷ 0 ∷ 1 ∷ 0 ∷ 1 ∷ 101 ∷ 83 ∷ 241 ∷ 0 ∷ 0 ∷ 0 ∷ 0 ∷ 9 ∷ 0 ∷ 20 ∷ front ++ (64 ∷ 3 ∷ 4 ∷ 192 ∷ 0 ∷ 2 ∷ 1 ∷ [])
unfolding entry_attributes prefix_octets
rib_of_one_identified = refl
