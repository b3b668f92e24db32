-- Examples of dumps, their units, faults and events, by computation.
use Rattle.std.proofs.Common.{◌≡◌, ℕ, ◌*◌, ◌^◌, refl, true, false, Some, None, Ok, Err, List, [], ◌∷◌, ◌++◌, length}
use Rattle.std.specs.Prelude.{codes, drop, take, map, Option, Result}
use Rattle.mrt_frame.proofs.Hexadecimal.{hex}
use Rattle.bgp_prefix.specs.Keys.{RouteKey}
use Rattle.mrt_frame.specs.declared.fault.Fault.{Fault}
use Rattle.mrt_frame.specs.declared.fault.Fault.TheVariants.{ShortBody, ShortRecord, TrailingBytes, BadFamily, NoPeerIndex, BadPeerIndex, BadPrefix, BadMarker, BadLength, BadAttribute}
use Rattle.mrt_frame.specs.Cuts.{cuts, cuts_within}
use Rattle.mrt_frame.specs.Fields.{items_after}
use Rattle.bgp_update.specs.Families.{FamilyOf, ipv4, ipv6, rules_of}
use Rattle.bgp_update.specs.KeptAttributes.{no_attributes}
use Rattle.bgp_update.specs.declared.width.Width.TheVariants.{Four}
use Rattle.bgp_update.specs.declared.path.SegmentKind.TheVariants.{AsSequence}
use Rattle.bgp_update.specs.declared.route.Origin.TheVariants.{Igp}
use Rattle.bgp_update.specs.declared.route.Route.{Route}
use Rattle.bgp_update.specs.declared.next_hop.NextHop.{NextHop}
use Rattle.bgp_update.specs.declared.next_hop.NextHop.TheVariants as hop
use Rattle.bgp_update.specs.Keys.{written_key_at, keys_in, route_keys_in}
use Rattle.bgp_update.specs.Segments.{path_in, segment_at, segment_field_at}
use Rattle.bgp_update.specs.Multiprotocol.{next_hop_of, hop_at, entry_hop_in, reached_keys, unreached_keys}
use Rattle.bgp_update.specs.Attributes.{attribute_at, attributes_in, value_fault, route_from, entry_route, route_in}
use Rattle.bgp_update.specs.Updates.{fields_in, said_update, update_in}
use Rattle.peer_units.specs.declared.state_rule.StateRule.TheVariants.{Recorded, Established}
use Rattle.peer_units.specs.declared.unit.PeerAddr.TheVariants.{V4, V6}
use Rattle.peer_units.specs.declared.unit.PeerKey.{PeerKey}
use Rattle.peer_units.specs.declared.unit.Payload.TheVariants.{State, Message, Entry}
use Rattle.peer_units.specs.Plain.{Event, Found, Payload}
use Rattle.peer_units.specs.declared.unit.Found.TheVariants as found
use Rattle.peer_units.specs.declared.meaning.Event.TheVariants as event
use Rattle.mrt_body.specs.Indexes.{index_in, index_head_at, peers_in, written_peer_at}
use Rattle.mrt_body.specs.RibRecords.{rib_in, rib_head_at, entry_at}
use Rattle.mrt_body.specs.Bgp4mp.{session_at, session_ends_at, session_peer_at, states_in, state_change_in}
use Rattle.peer_units.specs.Choices.{UnitSelection, PeerShare, all_of, all_units, peer_hash, share_from}
use Rattle.peer_units.specs.declared.choice.PeerChoice.{PeerChoice}
use Rattle.mrt_body.specs.Units.{found_in, found_at, body_kind_of, message_unit, aside_of, records_of}
use Rattle.peer_units.specs.Events.{event_in, message_event_in, message_in}
use Rattle.model_examples.proofs.Records.{marker_16, session_four, plain_attributes, announcement, state_change, peer_table, rib_with, rib_record}

-- each row is a selection, files, and what is found in them
abbrev AreFound : List (UnitSelection × List (List ℕ) × List Found) → Type 0
AreFound rows =
    map (λ (r : UnitSelection × List (List ℕ) × List Found). found_in r.0 r.1) rows
    ≡ map (λ (r : UnitSelection × List (List ℕ) × List Found). r.2) rows

-- 10.0.0.0/8 and 2001:db8::/32 with this identifier
abbrev ten : ℕ → RouteKey
ten id = record { prefix = record { addr = 0x0a000000 * 2 ^ 96; len = 8 }; id = id }

abbrev documentation : ℕ → RouteKey
documentation id = record { prefix = record { addr = 0x20010DB8 * 2 ^ 96; len = 32 }; id = id }

announcement-length : length announcement ≡ 77
announcement-length = refl

-- a unit of a session, in the first record of a file
abbrev heard : ℕ → ℕ → Payload → Found
heard file time payload = found.Unit (record { place = record { file = file; offset = 0; entry = None }; time = time; peer = record { asn = 65000; addr = V4 0xC0000201 }; payload = payload })

-- an entry of the record behind the table of peers, and the peers of that
abbrev entry : ℕ → PeerKey → RouteKey → List ℕ → FamilyOf → Found
entry number peer key attributes family = found.Unit (record { place = record { file = 0; offset = 56; entry = Some number }; time = 3000000; peer = peer; payload = Entry (rules_of family no_attributes) key attributes })

abbrev first_peer : PeerKey
first_peer = record { asn = 65000; addr = V6 0x20010DB8000000000000000000000001 }

abbrev second_peer : PeerKey
second_peer = record { asn = 70000; addr = V4 0xC0000202 }

abbrev first_entry : Found
first_entry = entry 1 first_peer (ten 0) plain_attributes ipv4

abbrev second_entry : Found
second_entry = entry 2 second_peer (ten 0) (hex (codes "40010103")) ipv4

abbrev refused_at : ℕ → ℕ → Fault → Found
refused_at file offset fault = found.Refused (record { place = record { file = file; offset = offset; entry = None }; fault = fault })

abbrev heard_announcement : ℕ → FamilyOf → Found
heard_announcement file family = heard file 1000000 (Message (drop 32 announcement) Four false (rules_of family no_attributes))

-- with identifier 7: one entry, and an UPDATE of second 1 that announces 10.0.0.0/8
abbrev path_record : List ℕ
path_record = hex (codes "00000003 000D 0008 00000028 00000000 080A 0001 0000 00000001 00000007 0014") ++ plain_attributes

abbrev path_announcement : List ℕ
path_announcement = hex (codes "00000001 0010 0009 00000045") ++ session_four ++ marker_16 ++ hex (codes "0031 02 0000 0014") ++ plain_attributes ++ hex (codes "00000007 080A")

units_of_ipv4 : AreFound (
    (all_units, announcement ∷ [], heard_announcement 0 ipv4 ∷ [])
    ∷ (all_units, state_change (hex (codes "0006 0001")) ∷ [], heard 0 2000000 (State 6 1 Recorded) ∷ [])
    ∷ (all_units, (peer_table ++ rib_record) ∷ [], first_entry ∷ second_entry ∷ [])
    ∷ (all_units, (peer_table ++ path_record) ∷ [], entry 1 first_peer (ten 7) plain_attributes ipv4 ∷ [])
    ∷ (all_units, path_announcement ∷ [], heard 0 1000000 (Message (drop 32 path_announcement) Four true (rules_of ipv4 no_attributes)) ∷ [])
    -- an index holds in its own file alone
    ∷ (all_units, (peer_table ++ rib_record) ∷ announcement ∷ rib_record ∷ [], first_entry ∷ second_entry ∷ heard_announcement 1 ipv4 ∷ refused_at 2 0 NoPeerIndex ∷ [])
    ∷ (all_units, rib_record ∷ [], refused_at 0 0 NoPeerIndex ∷ [])
    -- a cut file ends there, and the next one is read
    ∷ (all_units, take 76 announcement ∷ announcement ∷ [], refused_at 0 0 ShortBody ∷ heard_announcement 1 ipv4 ∷ [])
    -- bodies without room for their fields: a peer, the microseconds, an identifier
    ∷ (all_units, hex (codes "00000001 0010 0004 00000002 0000") ∷ [], refused_at 0 0 ShortRecord ∷ [])
    ∷ (all_units, hex (codes "00000001 0011 0004 00000003 000000") ∷ [], refused_at 0 0 ShortRecord ∷ [])
    ∷ (all_units, (peer_table ++ hex (codes "00000003 000D 0008 00000011 00000000 080A 0001 0000 00000001 000000")) ∷ [], refused_at 0 56 ShortRecord ∷ [])
    -- a byte too many, a family 3, a peer that isn't in the table, and a prefix of 33 bits
    ∷ (all_units, (hex (codes "00000002 0010 0005 00000019") ++ session_four ++ hex (codes "0006 0001 00")) ∷ [], refused_at 0 0 TrailingBytes ∷ [])
    ∷ (all_units, (hex (codes "00000001 0010 0004 00000041 0000FDE8 0000FDE9 0000 0003") ++ drop 24 announcement) ∷ [], refused_at 0 0 BadFamily ∷ [])
    ∷ (all_units, (peer_table ++ rib_with (hex (codes "080A")) (hex (codes "0002"))) ∷ [], refused_at 0 56 BadPeerIndex ∷ [])
    ∷ (all_units, (peer_table ++ rib_with (hex (codes "210A")) (hex (codes "0001"))) ∷ [], refused_at 0 56 BadPrefix ∷ [])
    ∷ [])
unfolding found_in cuts cuts_within found_at body_kind_of message_unit session_peer_at session_ends_at session_at states_in state_change_in index_in index_head_at peers_in written_peer_at rib_in rib_head_at entry_at
units_of_ipv4 = refl

-- ---- selections

abbrev of_peers : List PeerChoice → UnitSelection
of_peers peers = record all_units { peers = peers }

abbrev of_share : PeerShare → UnitSelection
of_share share = record all_units { share = Some share }

selected : AreFound (
    -- a state change has the rule that is asked for
    (record all_units { states = Established }, state_change (hex (codes "0006 0001")) ∷ [], heard 0 2000000 (State 6 1 Established) ∷ [])
    -- an entry keeps its number; 192.0.2.2 isn't the address of the peer of the announcement
    ∷ (of_peers (record { asn = 70000; addr = None } ∷ []), (peer_table ++ rib_record) ∷ [], second_entry ∷ [])
    ∷ (of_peers (record { asn = 65000; addr = Some (V4 0xC0000202) } ∷ []), announcement ∷ [], [])
    -- the hashes of the peers of the table are 54,209 and 52,333, and that of the session is 693
    ∷ (of_share (record { number = 1; count = 3 }), (peer_table ++ rib_record) ∷ [], second_entry ∷ [])
    ∷ (of_share (record { number = 1; count = 2 }), state_change (hex (codes "0006 0001")) ∷ [], heard 0 2000000 (State 6 1 Recorded) ∷ [])
    -- the faults of a record are listed, whatever peers are named
    ∷ (of_peers (record { asn = 1; addr = None } ∷ []), (peer_table ++ rib_with (hex (codes "080A")) (hex (codes "0002"))) ∷ [], refused_at 0 56 BadPeerIndex ∷ [])
    ∷ [])
unfolding found_in cuts cuts_within found_at body_kind_of message_unit session_peer_at session_ends_at session_at states_in state_change_in index_in index_head_at peers_in written_peer_at rib_in rib_head_at entry_at peer_hash
selected = refl

-- the last share of the greatest count, a number past the count, and a count that is too great
shares : share_from 65535 65536 ∷ share_from 3 3 ∷ share_from 0 65537 ∷ [] ≡ Some (record { number = 65535; count = 65536 }) ∷ None ∷ None ∷ []
shares = refl

-- ---- IPv6

-- where no family is named it is IPv4
unnamed : all_units ≡ all_of (rules_of ipv4 no_attributes)
unnamed = refl

-- origin IGP, path 65000, and an MP_REACH_NLRI of this length and value
abbrev attributes_with : List ℕ → List ℕ
attributes_with reach = hex (codes "40010100 4002060201 0000FDE8 800E") ++ reach

-- the next hop 2001:db8::9 alone behind its length
abbrev alone_hop : List ℕ
alone_hop = attributes_with (hex (codes "11 10 20010DB8000000000000000000000009"))

abbrev wide_record : List ℕ
wide_record = hex (codes "00000003 000D 0004 00000034 00000000 20 20010DB8 0001 0000 00000001 0021") ++ alone_hop

units_of_ipv6 : AreFound (
    -- subtype 4 is read, and subtype 10, whose entries have identifiers
    (all_of (rules_of ipv6 no_attributes), (peer_table ++ wide_record) ∷ [], entry 1 first_peer (documentation 0) alone_hop ipv6 ∷ [])
    ∷ (all_of (rules_of ipv6 no_attributes), (peer_table ++ hex (codes "00000003 000D 000A 00000038 00000000 20 20010DB8 0001 0000 00000001 00000007 0021") ++ alone_hop) ∷ [], entry 1 first_peer (documentation 7) alone_hop ipv6 ∷ [])
    -- the records of IPv4 are set aside; messages are units of either family
    ∷ (all_of (rules_of ipv6 no_attributes), (peer_table ++ rib_record) ∷ [], [])
    ∷ (all_of (rules_of ipv6 no_attributes), announcement ∷ [], heard_announcement 0 ipv6 ∷ [])
    -- a prefix of 129 bits
    ∷ (all_of (rules_of ipv6 no_attributes), (peer_table ++ hex (codes "00000003 000D 0004 00000018 00000000 81 20010DB8000000000000000000000000 00 0000")) ∷ [], refused_at 0 56 BadPrefix ∷ [])
    ∷ [])
unfolding found_in cuts cuts_within found_at body_kind_of message_unit session_peer_at session_ends_at session_at states_in state_change_in index_in index_head_at peers_in written_peer_at rib_in rib_head_at entry_at
units_of_ipv6 = refl

-- ---- counts

abbrev aside_record : List ℕ
aside_record = hex (codes "00000001 000C 0001 00000000")

-- records that are set aside: a message that was sent, another type, and RIB records of the other family
set_aside : aside_of all_units (hex (codes "00000001 0010 000B 00000000") ∷ []) ∷ aside_of all_units ((aside_record ++ announcement) ∷ []) ∷ aside_of (all_of (rules_of ipv6 no_attributes)) ((peer_table ++ rib_record) ∷ []) ∷ aside_of all_units ((peer_table ++ wide_record) ∷ []) ∷ [] ≡ 1 ∷ 1 ∷ 1 ∷ 1 ∷ []
unfolding cuts cuts_within body_kind_of
set_aside = refl

records_counted : records_of ((aside_record ++ announcement) ∷ []) ≡ 2
unfolding cuts cuts_within body_kind_of
records_counted = refl

-- ---- events

-- each row is a payload, and what it says or its fault
abbrev AreEvents : List (Payload × Result Event Fault) → Type 0
AreEvents rows = map (λ (r : Payload × Result Event Fault). event_in r.0) rows ≡ map (λ (r : Payload × Result Event Fault). r.1) rows

abbrev route_by : Option NextHop → Route
route_by next_hop = record { origin = Some Igp; path = Some (record { kind = AsSequence; numbers = 65000 ∷ [] } ∷ []); next_hop = next_hop; med = None; local_pref = None; atomic = false; aggregator = None; kept = [] }

abbrev announces : RouteKey → Result Event Fault
announces key = Ok (event.Change (record { withdrawn = []; announced = key ∷ []; reached = []; route = route_by (Some (hop.V4 0xC0000201)); reached_hop = None }))

abbrev message_with : List ℕ → List ℕ → List ℕ
message_with mark front = mark ++ front ++ plain_attributes ++ hex (codes "080A")

events_of_ipv4 : AreEvents (
    (Message (drop 32 announcement) Four false (rules_of ipv4 no_attributes), announces (ten 0))
    ∷ (Message (drop 32 path_announcement) Four true (rules_of ipv4 no_attributes), announces (ten 7))
    ∷ (Entry (rules_of ipv4 no_attributes) (ten 0) (hex (codes "40010103")), Err (BadAttribute 1))
    -- a marker with a byte 0, a length that isn't the message's, a KEEPALIVE, and no byte at all
    ∷ (Message (message_with (hex (codes "00FFFFFF FFFFFFFF FFFFFFFF FFFFFFFF")) (hex (codes "002D 02 0000 0014"))) Four false (rules_of ipv4 no_attributes), Err BadMarker)
    ∷ (Message (message_with marker_16 (hex (codes "002C 02 0000 0014"))) Four false (rules_of ipv4 no_attributes), Err BadLength)
    ∷ (Message (message_with marker_16 (hex (codes "002D 04 0000 0014"))) Four false (rules_of ipv4 no_attributes), Ok event.Other)
    ∷ (Message [] Four false (rules_of ipv4 no_attributes), Err BadLength)
    ∷ [])
unfolding event_in message_event_in message_in update_in fields_in said_update route_keys_in keys_in written_key_at attribute_at attributes_in value_fault route_from entry_route route_in items_after reached_keys unreached_keys path_in segment_at segment_field_at
events_of_ipv4 = refl

events_of_ipv6 : AreEvents (
    (Entry (rules_of ipv6 no_attributes) (documentation 0) alone_hop, Ok (event.Rib (documentation 0) (route_by (Some (hop.V6 0x20010DB8000000000000000000000009)))))
    -- the whole attribute, with a reserved byte and the prefix
    ∷ (Entry (rules_of ipv6 no_attributes) (documentation 0) (attributes_with (hex (codes "1A 0002 01 10 20010DB8000000000000000000000009 00 20 20010DB8"))), Ok (event.Rib (documentation 0) (route_by (Some (hop.V6 0x20010DB8000000000000000000000009)))))
    -- a byte behind the next hop
    ∷ (Entry (rules_of ipv6 no_attributes) (documentation 0) (attributes_with (hex (codes "12 10 20010DB8000000000000000000000009 00"))), Err (BadAttribute 14))
    -- NEXT_HOP alone is none of IPv6; of IPv4 it is the next hop, and MP_REACH_NLRI isn't looked at
    ∷ (Entry (rules_of ipv6 no_attributes) (documentation 0) plain_attributes, Ok (event.Rib (documentation 0) (route_by None)))
    ∷ (Entry (rules_of ipv4 no_attributes) (documentation 0) (plain_attributes ++ hex (codes "800E01 07")), Ok (event.Rib (documentation 0) (route_by (Some (hop.V4 0xC0000201)))))
    ∷ [])
unfolding event_in route_in attributes_in attribute_at value_fault route_from entry_route items_after path_in segment_at segment_field_at entry_hop_in hop_at next_hop_of
events_of_ipv6 = refl
