-- Reports and their lines, by computation.
use Rattle.std.proofs.Common.{◌≡◌, ℕ, ◌+◌, ◌*◌, ◌^◌, Option, true, false, List, [], ◌∷◌, ◌++◌, Some, None, refl}
use Rattle.std.specs.Prelude.{codes}
use Rattle.std.specs.List.{flat_map}
use Rattle.std.specs.Fmt.{digits}
use Rattle.bgp_prefix.specs.Keys.{RouteKey}
use Rattle.mrt_frame.specs.declared.fault.Fault.{Fault}
use Rattle.mrt_frame.specs.declared.fault.Fault.TheVariants.{ShortHeader, ShortBody, BodyTooLong, ShortRecord, TrailingBytes, BadFamily, NoPeerIndex, BadPeerIndex, BadPrefix, BadMarker, BadLength, BadUpdate, ShortAttribute, BadAttribute, BadPath}
use Rattle.bgp_update.specs.declared.next_hop.NextHop.TheVariants as next_hop
use Rattle.bgp_update.specs.declared.path.SegmentKind.TheVariants.{AsSet, AsSequence, ConfedSequence, ConfedSet}
use Rattle.bgp_update.specs.declared.route.Origin.TheVariants.{Igp, Incomplete}
use Rattle.bgp_update.specs.declared.route.Route.{Route}
use Rattle.bgp_update.specs.Families.{ipv4, ipv6}
use Rattle.bgp_update.specs.KeptAttributes.{no_attributes}
use Rattle.bgp_update.specs.Paths.{PathSegment}
use Rattle.peer_units.specs.declared.unit.PeerAddr.TheVariants.{V4, V6}
use Rattle.peer_units.specs.declared.unit.PeerKey.{PeerKey}
use Rattle.peer_units.specs.declared.unit.Damage.{Damage}
use Rattle.adj_rib.specs.declared.churn.Churn.{Churn}
use Rattle.peer_tables.specs.Tables.{Seat, TablesState}
use Rattle.ip_text.specs.declared.address_form.AddressForm.TheVariants.{Full, Short}
use Rattle.ip_text.specs.AddressTexts.{address_text}
use Rattle.report_request.specs.declared.format.Format.TheVariants.{Text}
use Rattle.report_request.specs.Plain.{Layout}
use Rattle.rib_report.specs.Reports.{route_rows, match_rows, visibility_rows, origin_rows, seen_rows, churn_rows, peer_rows, fault_rows, in_place_order}
use Rattle.rib_report.specs.Lines.{route_line, visibility_line, origin_line, seen_line, churn_line, peer_line, fault_line}

abbrev pub end : List ℕ
end = 10 ∷ []

abbrev full : Layout
full = record { format = Text; peer_addresses = Full; route_addresses = Full; family = ipv4; attributes = no_attributes }

-- a route of 192.0.2.1 whose path is 65000 and another segment
abbrev route_to : PathSegment → Route
route_to last = record { origin = Some Igp; path = Some (record { kind = AsSequence; numbers = 65000 ∷ [] } ∷ last ∷ []); next_hop = Some (next_hop.V4 0xc0000201); med = None; local_pref = None; atomic = false; aggregator = None; kept = [] }

abbrev to_sequence : ℕ → Route
to_sequence asn = route_to (record { kind = AsSequence; numbers = asn ∷ [] })

abbrev pub key_of : ℕ → ℕ → ℕ → RouteKey
key_of addr len id = record { prefix = record { addr = addr * 2 ^ 96; len = len }; id = id }

abbrev seat_at : ℕ → ℕ → List (RouteKey × Route) → Seat
seat_at number addr table = record {
  number = number;
  key = record { asn = 65000; addr = V4 addr };
  session = record {
    up = true;
    established = true;
    table = table;
    churn = record { added = 1; changed = 2; same = 3; gone = 4; void = 5; resets = 6; idle = 7; refused = 8; first = Some 1000000; last = Some 2000050 };
    arrivals = record { units = 36; first = Some (record { file = 0; offset = 12; entry = Some 3 }) };
    faults = record { place = record { file = 0; offset = 56; entry = Some 2 }; fault = BadAttribute 1 } ∷ [];
    spent = false;
  };
}

-- two peers; the first has 10.0.0.0/8 under two identifiers
abbrev pub tables : TablesState
tables = record {
  seats = seat_at 0 0xc0000201 ((key_of 0 0 0, to_sequence 65001) ∷ (key_of 0x0a000000 8 0, to_sequence 65001) ∷ (key_of 0x0a000000 8 7, to_sequence 65002) ∷ [])
      ∷ seat_at 1 0xc0000202 ((key_of 0x0a000000 8 0, to_sequence 65001) ∷ (key_of 0x0a010000 16 0, route_to (record { kind = AsSet; numbers = 65003 ∷ 65001 ∷ [] })) ∷ []) ∷ [];
  refused = [];
}

visible : flat_map (visibility_line full) (visibility_rows tables) ≡ codes "0.0.0.0/0|1" ++ end ++ codes "10.0.0.0/8|2" ++ end ++ codes "10.1.0.0/16|1" ++ end
unfolding digits address_text
visible = refl

several : flat_map (origin_line full) (origin_rows tables) ≡ codes "10.0.0.0/8|65001 65002" ++ end
unfolding digits address_text
several = refl

-- a peer counts once for two identifiers, and a path that ends in a set has no origin AS
seen : flat_map (seen_line full) (seen_rows tables) ≡ codes "0.0.0.0/0|65001|1" ++ end ++ codes "10.0.0.0/8|65001|2" ++ end ++ codes "10.0.0.0/8|65002|1" ++ end ++ codes "10.1.0.0/16|-|1" ++ end
unfolding digits address_text
seen = refl

matched : flat_map (route_line full) (match_rows tables (0x0a01ffff * 2 ^ 96))
    ≡ codes "65000 192.0.2.1|10.0.0.0/8|65000 65001|192.0.2.1|IGP|-|-|-|-" ++ end
    ++ codes "65000 192.0.2.1|10.0.0.0/8#7|65000 65002|192.0.2.1|IGP|-|-|-|-" ++ end
    ++ codes "65000 192.0.2.2|10.1.0.0/16|65000 {65003,65001}|192.0.2.1|IGP|-|-|-|-" ++ end
unfolding digits address_text
matched = refl

listed : flat_map (fault_line full) (fault_rows tables) ≡ codes "1|56|2|14|BadAttribute(1)" ++ end ++ codes "1|56|2|14|BadAttribute(1)" ++ end
unfolding digits
listed = refl

counted : flat_map (churn_line full) (churn_rows tables) ≡ codes "65000 192.0.2.1|1|2|3|4|5|6|7|8|1.000000|2.000050" ++ end ++ codes "65000 192.0.2.2|1|2|3|4|5|6|7|8|1.000000|2.000050" ++ end
unfolding digits
counted = refl

peers_listed : flat_map (peer_line full) (peer_rows tables) ≡ codes "65000 192.0.2.1|up|3|36|1.000000|2.000050|1|12|3" ++ end ++ codes "65000 192.0.2.2|up|2|36|1.000000|2.000050|1|12|3" ++ end
unfolding digits
peers_listed = refl

-- a route with each field
abbrev whole_route : Route
whole_route = record {
  origin = Some Incomplete;
  path = Some [];
  next_hop = Some (next_hop.V6Pair 0x20010db8000000000000000000000001 0xfe800000000000000000000000000002);
  med = Some 0;
  local_pref = Some 100;
  atomic = true;
  aggregator = Some (record { asn = 65000; addr = 0xc0000201 });
  kept = [];
}

whole : flat_map (route_line full) (route_rows (record { seats = seat_at 0 0xc0000201 ((key_of 0x0a000000 8 4294967295, whole_route) ∷ []) ∷ []; refused = [] }))
    ≡ codes "65000 192.0.2.1|10.0.0.0/8#4294967295||2001:0db8:0000:0000:0000:0000:0000:0001 fe80:0000:0000:0000:0000:0000:0000:0002|INCOMPLETE|0|100|atomic|65000 192.0.2.1" ++ end
unfolding digits address_text
whole = refl

-- ---- lines of rows with each field at its greatest, or absent

abbrev pub peer : PeerKey
peer = record { asn = 65000; addr = V4 0xc0000201 }

abbrev pub last_peer : PeerKey
last_peer = record { asn = 0xffffffff; addr = V6 0xffffffffffffffffffffffffffffffff }

abbrev pub bare_route : Route
bare_route = record { origin = None; path = None; next_hop = None; med = None; local_pref = None; atomic = false; aggregator = None; kept = [] }

-- an absent path is not an empty one
absent_path : route_line full (record { peer = peer; key = key_of 0 0 0; route = bare_route }) ≡ codes "65000 192.0.2.1|0.0.0.0/0|-|-|-|-|-|-|-" ++ end
unfolding digits address_text
absent_path = refl

empty_path : route_line full (record { peer = peer; key = key_of 0x0a000000 8 1; route = record bare_route { path = Some []; next_hop = Some (next_hop.V6 0x20010db8000000000000000000000001) } })
    ≡ codes "65000 192.0.2.1|10.0.0.0/8#1||2001:0db8:0000:0000:0000:0000:0000:0001|-|-|-|-|-" ++ end
unfolding digits address_text
empty_path = refl

-- a path with a segment of each kind
abbrev pub greatest_route : Route
greatest_route = record {
  origin = Some Incomplete;
  path = Some (record { kind = ConfedSequence; numbers = 64512 ∷ 1 ∷ [] } ∷ record { kind = ConfedSet; numbers = 3 ∷ 2 ∷ [] }
      ∷ record { kind = AsSequence; numbers = 0xffffffff ∷ 0 ∷ 10 ∷ [] } ∷ record { kind = AsSet; numbers = 70001 ∷ 70000 ∷ [] } ∷ []);
  next_hop = Some (next_hop.V6Pair 0xffffffffffffffffffffffffffffffff 0xfe800000000000000000000000000000);
  med = Some 0xffffffff;
  local_pref = Some 0xffffffff;
  atomic = true;
  aggregator = Some (record { asn = 0xffffffff; addr = 0xffffffff });
  kept = [];
}

greatest_entry : route_line full (record { peer = last_peer; key = key_of 0xffffffff 32 0xffffffff; route = greatest_route })
    ≡ codes "4294967295 ffff:ffff:ffff:ffff:ffff:ffff:ffff:ffff|255.255.255.255/32#4294967295|(64512 1) [3,2] 4294967295 0 10 {70001,70000}"
    ++ codes "|ffff:ffff:ffff:ffff:ffff:ffff:ffff:ffff fe80:0000:0000:0000:0000:0000:0000:0000|INCOMPLETE|4294967295|4294967295|atomic|4294967295 255.255.255.255" ++ end
unfolding digits address_text
greatest_entry = refl

-- ---- short addresses, of peers and of next hops alike, and of one of them

abbrev short : Layout
short = record { format = Text; peer_addresses = Short; route_addresses = Short; family = ipv4; attributes = no_attributes }

abbrev routes_short : Layout
routes_short = record { format = Text; peer_addresses = Full; route_addresses = Short; family = ipv4; attributes = no_attributes }

abbrev short_peer : PeerKey
short_peer = record { asn = 65000; addr = V6 0x20010db8000000000001000000000001 }

-- an IPv4 address is dotted in either form
short_pair : route_line short (record { peer = short_peer; key = key_of 0x0a000000 8 0; route = whole_route })
    ≡ codes "65000 2001:db8::1:0:0:1|10.0.0.0/8||2001:db8::1 fe80::2|INCOMPLETE|0|100|atomic|65000 192.0.2.1" ++ end
unfolding digits address_text
short_pair = refl

short_hop : route_line routes_short (record { peer = short_peer; key = key_of 0x0a000000 8 0; route = record bare_route { next_hop = Some (next_hop.V6 0x00000000000000000000ffffc0000201) } })
    ≡ codes "65000 2001:0db8:0000:0000:0001:0000:0000:0001|10.0.0.0/8|-|::ffff:c000:201|-|-|-|-|-" ++ end
unfolding digits address_text
short_hop = refl

short_peer_line : peer_line short (record { peer = short_peer; is_established = true; routes = 0; units = 0; first = None; last = None; place = None }) ≡ codes "65000 2001:db8::1:0:0:1|up|0|0|-|-|-|-|-" ++ end
unfolding digits
short_peer_line = refl

-- ---- prefixes of IPv6, in full and short

abbrev full_routes : Layout
full_routes = record { format = Text; peer_addresses = Short; route_addresses = Full; family = ipv6; attributes = no_attributes }

abbrev short_routes : Layout
short_routes = record { format = Text; peer_addresses = Full; route_addresses = Short; family = ipv6; attributes = no_attributes }

abbrev wide_key : ℕ → ℕ → ℕ → RouteKey
wide_key addr len id = record { prefix = record { addr = addr; len = len }; id = id }

full_prefix : route_line full_routes (record { peer = short_peer; key = wide_key 0x20010db8000000000000000000000000 32 7; route = record bare_route { next_hop = Some (next_hop.V6 0xfe800000000000000000000000000002) } })
    ≡ codes "65000 2001:db8::1:0:0:1|2001:0db8:0000:0000:0000:0000:0000:0000/32#7|-|fe80:0000:0000:0000:0000:0000:0000:0002|-|-|-|-|-" ++ end
unfolding digits address_text
full_prefix = refl

short_prefix : route_line short_routes (record { peer = peer; key = wide_key 0x20010db8000000000000000000000000 32 0; route = bare_route }) ≡ codes "65000 192.0.2.1|2001:db8::/32|-|-|-|-|-|-|-" ++ end
unfolding digits address_text
short_prefix = refl

default_prefix : visibility_line short_routes (record { prefix = record { addr = 0; len = 0 }; peers = 1 }) ≡ codes "::/0|1" ++ end
unfolding digits address_text
default_prefix = refl

greatest_prefix : seen_line full_routes (record { prefix = record { addr = 0xffffffffffffffffffffffffffffffff; len = 128 }; origin = None; peers = 1 }) ≡ codes "ffff:ffff:ffff:ffff:ffff:ffff:ffff:ffff/128|-|1" ++ end
unfolding digits address_text
greatest_prefix = refl

-- an address of IPv6 whose last 96 bits are 0 isn't dotted
wide_prefix : origin_line short_routes (record { prefix = record { addr = 0x0a000000 * 2 ^ 96; len = 8 }; origins = 1 ∷ 2 ∷ [] }) ≡ codes "a00::/8|1 2" ++ end
unfolding digits address_text
wide_prefix = refl

greatest_visibility : visibility_line full (record { prefix = record { addr = 0xffffffff * 2 ^ 96; len = 32 }; peers = 0xffffffffffffffff }) ≡ codes "255.255.255.255/32|18446744073709551615" ++ end
unfolding digits address_text
greatest_visibility = refl

greatest_origins : origin_line full (record { prefix = record { addr = 0xfffffffe * 2 ^ 96; len = 31 }; origins = 0 ∷ 65000 ∷ 0xffffffff ∷ [] }) ≡ codes "255.255.255.254/31|0 65000 4294967295" ++ end
unfolding digits address_text
greatest_origins = refl

greatest_seen : seen_line full (record { prefix = record { addr = 0xffffffff * 2 ^ 96; len = 32 }; origin = Some 0xffffffff; peers = 0xffffffffffffffff }) ≡ codes "255.255.255.255/32|4294967295|18446744073709551615" ++ end
unfolding digits address_text
greatest_seen = refl

abbrev churn_between : Option ℕ → Option ℕ → Churn
churn_between first last = record { added = 0xffffffffffffffff; changed = 0; same = 0; gone = 0; void = 0; resets = 0; idle = 0; refused = 0xffffffffffffffff; first = first; last = last }

-- second 1 and 4,294,967,295 microseconds; and the greatest time
greatest_churn : churn_line full (record { peer = last_peer; churn = churn_between (Some (1000000 + 0xffffffff)) (Some 0xffffffffffffffff) })
    ≡ codes "4294967295 ffff:ffff:ffff:ffff:ffff:ffff:ffff:ffff|18446744073709551615|0|0|0|0|0|0|18446744073709551615|4295.967295|18446744073709.551615" ++ end
unfolding digits
greatest_churn = refl

without_times : churn_line full (record { peer = peer; churn = churn_between None None }) ≡ codes "65000 192.0.2.1|18446744073709551615|0|0|0|0|0|0|18446744073709551615|-|-" ++ end
unfolding digits
without_times = refl

greatest_peer : peer_line full (record { peer = last_peer; is_established = false; routes = 0xffffffffffffffff; units = 0xffffffffffffffff; first = Some 0; last = Some 0xffffffffffffffff; place = Some (record { file = 0xffffffffffffffff; offset = 0xffffffffffffffff; entry = Some 65535 }) })
    ≡ codes "4294967295 ffff:ffff:ffff:ffff:ffff:ffff:ffff:ffff|down|18446744073709551615|18446744073709551615|0.000000|18446744073709.551615|18446744073709551616|18446744073709551615|65535" ++ end
unfolding digits
greatest_peer = refl

peer_without_units : peer_line full (record { peer = peer; is_established = true; routes = 0; units = 0; first = None; last = None; place = None }) ≡ codes "65000 192.0.2.1|up|0|0|-|-|-|-|-" ++ end
unfolding digits
peer_without_units = refl

-- ---- faults

abbrev damage_at : ℕ → ℕ → Option ℕ → Fault → Damage
damage_at file offset entry fault = record { place = record { file = file; offset = offset; entry = entry }; fault = fault }

each_fault : flat_map (fault_line full) (damage_at 0 0 None ShortHeader ∷ damage_at 0 0 None ShortBody ∷ damage_at 0 77 None BodyTooLong ∷ damage_at 1 0 None ShortRecord ∷ damage_at 1 0 None TrailingBytes
    ∷ damage_at 1 0 None BadFamily ∷ damage_at 1 0 None NoPeerIndex ∷ damage_at 1 0 None BadPeerIndex ∷ damage_at 1 0 None BadPrefix ∷ damage_at 1 0 None BadMarker ∷ damage_at 1 0 None BadLength
    ∷ damage_at 1 0 None BadUpdate ∷ damage_at 1 0 None ShortAttribute ∷ damage_at 1 0 None (BadAttribute 0) ∷ damage_at 1 0 None BadPath ∷ [])
    ≡ codes "1|0|-|1|ShortHeader" ++ end ++ codes "1|0|-|2|ShortBody" ++ end ++ codes "1|77|-|3|BodyTooLong" ++ end ++ codes "2|0|-|4|ShortRecord" ++ end ++ codes "2|0|-|5|TrailingBytes" ++ end
    ++ codes "2|0|-|6|BadFamily" ++ end ++ codes "2|0|-|7|NoPeerIndex" ++ end ++ codes "2|0|-|8|BadPeerIndex" ++ end ++ codes "2|0|-|9|BadPrefix" ++ end ++ codes "2|0|-|10|BadMarker" ++ end
    ++ codes "2|0|-|11|BadLength" ++ end ++ codes "2|0|-|12|BadUpdate" ++ end ++ codes "2|0|-|13|ShortAttribute" ++ end ++ codes "2|0|-|14|BadAttribute(0)" ++ end ++ codes "2|0|-|15|BadPath" ++ end
unfolding digits
each_fault = refl

greatest_fault : fault_line full (damage_at 0xffffffffffffffff 0xffffffffffffffff (Some 65535) (BadAttribute 255)) ≡ codes "18446744073709551616|18446744073709551615|65535|14|BadAttribute(255)" ++ end
unfolding digits
greatest_fault = refl

-- by file, then offset, then entry with none first; those of one place as they stood
by_place : in_place_order (damage_at 1 0 None ShortHeader ∷ damage_at 0 100 (Some 2) BadPath ∷ damage_at 0 100 None BadPrefix ∷ damage_at 0 100 (Some 1) BadMarker ∷ damage_at 0 9 None NoPeerIndex
    ∷ damage_at 0 100 None BadLength ∷ [])
    ≡ damage_at 0 9 None NoPeerIndex ∷ damage_at 0 100 None BadPrefix ∷ damage_at 0 100 None BadLength ∷ damage_at 0 100 (Some 1) BadMarker ∷ damage_at 0 100 (Some 2) BadPath
    ∷ damage_at 1 0 None ShortHeader ∷ []
by_place = refl
