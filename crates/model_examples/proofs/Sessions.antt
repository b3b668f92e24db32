-- Examples of what a session is after some units, by computation.
use Rattle.std.proofs.Common.{◌≡◌, ℕ, ◌*◌, ◌^◌, Bool, refl, true, false, Some, None, List, [], ◌∷◌, ◌++◌}
use Rattle.std.specs.Prelude.{codes}
use Rattle.bgp_prefix.specs.Keys.{RouteKey}
use Rattle.mrt_frame.proofs.Hexadecimal.{hex}
use Rattle.mrt_frame.specs.declared.fault.Fault.TheVariants.{BadAttribute}
use Rattle.mrt_frame.specs.Fields.{items_after}
use Rattle.bgp_update.specs.Families.{FamilyOf, by_errors, ipv4, ipv6, rules_of}
use Rattle.bgp_update.specs.Handling.{front_attributes, recovered_route, recovered_update}
use Rattle.bgp_update.specs.KeptAttributes.{no_attributes}
use Rattle.bgp_update.specs.declared.error_rule.ErrorRule.{ErrorRule}
use Rattle.bgp_update.specs.declared.error_rule.ErrorRule.TheVariants.{External, Internal}
use Rattle.bgp_update.specs.declared.width.Width.TheVariants.{Four}
use Rattle.bgp_update.specs.declared.path.SegmentKind.TheVariants.{AsSequence}
use Rattle.bgp_update.specs.declared.next_hop.NextHop.TheVariants as hop
use Rattle.bgp_update.specs.declared.route.Origin.TheVariants.{Igp}
use Rattle.bgp_update.specs.declared.route.Route.{Route}
use Rattle.bgp_update.specs.Equality.{route_eq}
use Rattle.bgp_update.specs.Segments.{path_in, segment_at, segment_field_at}
use Rattle.bgp_update.specs.Keys.{written_key_at, keys_in, route_keys_in, key_at}
use Rattle.bgp_update.specs.Multiprotocol.{reach_in, reach_at, hop_at, unreach_in, next_hop_of, reached_keys, unreached_keys}
use Rattle.bgp_update.specs.Attributes.{attribute_at, attributes_in, value_fault, route_from, entry_route, route_in}
use Rattle.bgp_update.specs.Updates.{fields_in, said_update, update_in}
use Rattle.peer_units.specs.declared.state_rule.StateRule.TheVariants.{Recorded, Established}
use Rattle.peer_units.specs.declared.unit.Place.{Place}
use Rattle.peer_units.specs.Plain.{Payload}
use Rattle.peer_units.specs.declared.unit.Payload.TheVariants.{State, Message, Entry}
use Rattle.peer_units.specs.declared.unit.PeerAddr.TheVariants as addr
use Rattle.peer_units.specs.Plain.{Unit as ReplayUnit}
use Rattle.peer_units.specs.Events.{message_in, message_event_in, event_in}
use Rattle.adj_rib.specs.declared.arrivals.Arrivals.{Arrivals}
use Rattle.adj_rib.specs.declared.churn.Churn.{Churn}
use Rattle.adj_rib.specs.Steps.{unit_steps, steps_of}
use Rattle.adj_rib.specs.Tables.{table_of}
use Rattle.adj_rib.specs.Arrived.{arrivals_of}
use Rattle.adj_rib.specs.Churns.{outcomes_of, churn_of, damaged_of}
use Rattle.adj_rib.specs.Sessions.{session_of}

abbrev somewhere : Place
somewhere = record { file = 0; offset = 0; entry = None }

-- of a second
abbrev unit_of : ℕ → Payload → ReplayUnit
unit_of seconds payload = record { place = somewhere; time = seconds * 1000000; peer = record { asn = 65000; addr = addr.V4 0xC0000201 }; payload = payload }

abbrev message_of : FamilyOf → ℕ → Bool → List ℕ → ReplayUnit
message_of family seconds add_path bytes = unit_of seconds (Message (hex (codes "FFFFFFFF FFFFFFFF FFFFFFFF FFFFFFFF") ++ bytes) Four add_path (rules_of family no_attributes))

abbrev message : ℕ → Bool → List ℕ → ReplayUnit
message = message_of ipv4

-- origin IGP, path 65000, next hop 192.0.2.1
abbrev plain_attributes : List ℕ
plain_attributes = hex (codes "40010100 4002060201 0000FDE8 400304 C0000201")

abbrev plain_route : Route
plain_route = record { origin = Some Igp; path = Some (record { kind = AsSequence; numbers = 65000 ∷ [] } ∷ []); next_hop = Some (hop.V4 0xC0000201); med = None; local_pref = None; atomic = false; aggregator = None; kept = [] }

-- an UPDATE of second 1 that announces 10.0.0.0/8
abbrev announcement : ReplayUnit
announcement = message 1 false (hex (codes "002D 02 0000 0014") ++ plain_attributes ++ hex (codes "080A"))

-- one of second 2 that withdraws it
abbrev withdrawal : ReplayUnit
withdrawal = message 2 false (hex (codes "0019 02 0002 080A 0000"))

-- one that withdraws 10.0.0.0/8 and 11.0.0.0/8, announces 12.0.0.0/8, and by MP_REACH_NLRI the first by 192.0.2.9
abbrev reaching : ReplayUnit
reaching = message 2 false (hex (codes "003F 02 0004 080A 080B 0022") ++ plain_attributes ++ hex (codes "800E0B 0001 01 04 C0000209 00 080A 080C"))

-- one that announces 10.0.0.0/8 by two paths, in another order than that of their identifiers
abbrev two_paths : ReplayUnit
two_paths = message 1 true (hex (codes "0037 02 0000 0014") ++ plain_attributes ++ hex (codes "00000007 080A 00000003 080A"))

-- one whose ORIGIN is 3
abbrev damaged : ReplayUnit
damaged = message 1 false (hex (codes "002D 02 0000 0014 40010103 4002060201 0000FDE8 400304 C0000201 080A"))

abbrev key : ℕ → ℕ → RouteKey
key addr id = record { prefix = record { addr = addr * 2 ^ 96; len = 8 }; id = id }

abbrev ten : RouteKey
ten = key 0x0A000000 0

abbrev state_change : ℕ → ℕ → ReplayUnit
state_change from to = unit_of 2 (State from to Recorded)

abbrev by_established : ℕ → ℕ → ReplayUnit
by_established from to = unit_of 2 (State from to Established)

-- eight counts, then the times of the first and the last unit in seconds
abbrev churn_with : List ℕ → ℕ → ℕ → Churn
churn_with (added ∷ changed ∷ same ∷ gone ∷ void ∷ resets ∷ idle ∷ refused ∷ []) first last =
    record { added = added; changed = changed; same = same; gone = gone; void = void; resets = resets; idle = idle; refused = refused; first = Some (first * 1000000); last = Some (last * 1000000) }
churn_with _ first last = record { added = 0; changed = 0; same = 0; gone = 0; void = 0; resets = 0; idle = 0; refused = 0; first = None; last = None }

-- so many units, the first of them at this place
abbrev so_many : ℕ → Arrivals
so_many count = record { units = count; first = Some somewhere }

-- ---- IPv6

-- an UPDATE of second 1 that announces 2001:db8::/32 by the next hop 2001:db8::2
abbrev wide_announcement : ReplayUnit
wide_announcement = message_of ipv6 1 false (hex (codes "0041 02 0000 002A 40010100 4002060201 0000FDE8 800E1A 0002 01 10 20010DB8000000000000000000000002 00 20 20010DB8"))

-- one of second 2 that withdraws it
abbrev wide_withdrawal : ReplayUnit
wide_withdrawal = message_of ipv6 2 false (hex (codes "0022 02 0000 000B 800F08 0002 01 20 20010DB8"))

abbrev documentation : RouteKey
documentation = record { prefix = record { addr = 0x20010DB8 * 2 ^ 96; len = 32 }; id = 0 }

-- ---- what sessions are

examples : record {
  announced_twice : session_of (announcement ∷ announcement ∷ []) ≡ record { up = true; established = true; table = (ten, plain_route) ∷ []; churn = churn_with (1 ∷ 0 ∷ 1 ∷ 0 ∷ 0 ∷ 0 ∷ 0 ∷ 0 ∷ []) 1 1; arrivals = so_many 2; faults = []; spent = false };
  withdrawn_twice : session_of (announcement ∷ withdrawal ∷ withdrawal ∷ []) ≡ record { up = true; established = true; table = []; churn = churn_with (1 ∷ 0 ∷ 0 ∷ 1 ∷ 1 ∷ 0 ∷ 0 ∷ 0 ∷ []) 1 2; arrivals = so_many 3; faults = []; spent = false };
  -- an announcement while the peer isn't up is idle
  left_established : session_of (announcement ∷ state_change 6 1 ∷ announcement ∷ []) ≡ record { up = false; established = false; table = []; churn = churn_with (1 ∷ 0 ∷ 0 ∷ 0 ∷ 0 ∷ 1 ∷ 1 ∷ 0 ∷ []) 1 1; arrivals = so_many 3; faults = []; spent = false };
  came_back : session_of (announcement ∷ state_change 6 1 ∷ announcement ∷ state_change 5 6 ∷ announcement ∷ []) ≡ record { up = true; established = true; table = (ten, plain_route) ∷ []; churn = churn_with (2 ∷ 0 ∷ 0 ∷ 0 ∷ 0 ∷ 2 ∷ 1 ∷ 0 ∷ []) 1 1; arrivals = so_many 5; faults = []; spent = false };
  stayed_established : session_of (announcement ∷ state_change 6 6 ∷ []) ≡ record { up = true; established = true; table = (ten, plain_route) ∷ []; churn = churn_with (1 ∷ 0 ∷ 0 ∷ 0 ∷ 0 ∷ 0 ∷ 0 ∷ 0 ∷ []) 1 2; arrivals = so_many 2; faults = []; spent = false };
  four_changes : session_of (state_change 5 6 ∷ state_change 6 6 ∷ state_change 6 0 ∷ state_change 0 0 ∷ []) ≡ record { up = false; established = false; table = []; churn = churn_with (0 ∷ 0 ∷ 0 ∷ 0 ∷ 0 ∷ 3 ∷ 0 ∷ 0 ∷ []) 2 2; arrivals = so_many 4; faults = []; spent = false };
  -- FRR's end of a connection that lost a collision, behind the Established of the one that stays; by Established it is
  -- no break
  lost_collision : session_of (by_established 5 6 ∷ announcement ∷ by_established 3 8 ∷ announcement ∷ []) ≡ record { up = true; established = true; table = (ten, plain_route) ∷ []; churn = churn_with (1 ∷ 0 ∷ 1 ∷ 0 ∷ 0 ∷ 1 ∷ 0 ∷ 0 ∷ []) 2 1; arrivals = so_many 4; faults = []; spent = false };
  lost_as_recorded : session_of (state_change 5 6 ∷ announcement ∷ state_change 3 8 ∷ announcement ∷ []) ≡ record { up = false; established = false; table = []; churn = churn_with (1 ∷ 0 ∷ 0 ∷ 0 ∷ 0 ∷ 2 ∷ 1 ∷ 0 ∷ []) 2 1; arrivals = so_many 4; faults = []; spent = false };
  -- a session that ended, and an announcement behind that
  ended_by_established : session_of (announcement ∷ by_established 6 1 ∷ announcement ∷ []) ≡ record { up = true; established = false; table = (ten, plain_route) ∷ []; churn = churn_with (2 ∷ 0 ∷ 0 ∷ 0 ∷ 0 ∷ 1 ∷ 0 ∷ 0 ∷ []) 1 1; arrivals = so_many 3; faults = []; spent = false };
  -- what is reached is not withdrawn, and goes by the next hop of MP_REACH_NLRI
  reached : session_of (announcement ∷ reaching ∷ []) ≡ record { up = true; established = true; table = (ten, record plain_route { next_hop = Some (hop.V4 0xC0000209) }) ∷ (key 0x0C000000 0, plain_route) ∷ []; churn = churn_with (2 ∷ 1 ∷ 0 ∷ 0 ∷ 1 ∷ 0 ∷ 0 ∷ 0 ∷ []) 1 2; arrivals = so_many 2; faults = []; spent = false };
  by_two_paths : session_of (two_paths ∷ announcement ∷ []) ≡ record { up = true; established = true; table = (ten, plain_route) ∷ (key 0x0A000000 3, plain_route) ∷ (key 0x0A000000 7, plain_route) ∷ []; churn = churn_with (3 ∷ 0 ∷ 0 ∷ 0 ∷ 0 ∷ 0 ∷ 0 ∷ 0 ∷ []) 1 1; arrivals = so_many 2; faults = []; spent = false };
  damaged_unit : session_of (damaged ∷ []) ≡ record { up = true; established = true; table = []; churn = churn_with (0 ∷ 0 ∷ 0 ∷ 0 ∷ 0 ∷ 0 ∷ 0 ∷ 1 ∷ []) 1 1; arrivals = so_many 1; faults = record { place = somewhere; fault = BadAttribute 1 } ∷ []; spent = false };
  entry_of_key : session_of (unit_of 3 (Entry (rules_of ipv4 no_attributes) (key 0x0A000000 5) plain_attributes) ∷ announcement ∷ []) ≡ record { up = true; established = true; table = (ten, plain_route) ∷ (key 0x0A000000 5, plain_route) ∷ []; churn = churn_with (2 ∷ 0 ∷ 0 ∷ 0 ∷ 0 ∷ 0 ∷ 0 ∷ 0 ∷ []) 3 1; arrivals = so_many 2; faults = []; spent = false };
  wide_announced_twice : session_of (wide_announcement ∷ wide_announcement ∷ []) ≡ record { up = true; established = true; table = (documentation, record plain_route { next_hop = Some (hop.V6 0x20010DB8000000000000000000000002) }) ∷ []; churn = churn_with (1 ∷ 0 ∷ 1 ∷ 0 ∷ 0 ∷ 0 ∷ 0 ∷ 0 ∷ []) 1 1; arrivals = so_many 2; faults = []; spent = false };
  wide_withdrawn_twice : session_of (wide_announcement ∷ wide_withdrawal ∷ wide_withdrawal ∷ []) ≡ record { up = true; established = true; table = []; churn = churn_with (1 ∷ 0 ∷ 0 ∷ 1 ∷ 1 ∷ 0 ∷ 0 ∷ 0 ∷ []) 1 2; arrivals = so_many 3; faults = []; spent = false };
}
unfolding items_after attribute_at attributes_in value_fault route_from entry_route route_in path_in segment_at segment_field_at written_key_at keys_in route_keys_in key_at reach_in reach_at hop_at unreach_in next_hop_of reached_keys unreached_keys fields_in said_update update_in message_in message_event_in event_in unit_steps steps_of route_eq outcomes_of churn_of arrivals_of damaged_of table_of session_of
examples = record {
  announced_twice = refl;
  withdrawn_twice = refl;
  left_established = refl;
  came_back = refl;
  stayed_established = refl;
  four_changes = refl;
  lost_collision = refl;
  lost_as_recorded = refl;
  ended_by_established = refl;
  reached = refl;
  by_two_paths = refl;
  damaged_unit = refl;
  entry_of_key = refl;
  wide_announced_twice = refl;
  wide_withdrawn_twice = refl;
}

-- ---- damage that is handled

abbrev handled_message : ErrorRule → List ℕ → ReplayUnit
handled_message errors bytes = unit_of 1 (Message (hex (codes "FFFFFFFF FFFFFFFF FFFFFFFF FFFFFFFF") ++ bytes) Four false (by_errors errors (rules_of ipv4 no_attributes)))

-- an UPDATE that announces 10.0.0.0/8 and whose ORIGIN is 3
abbrev of_bad_origin : ErrorRule → ReplayUnit
of_bad_origin errors = handled_message errors (hex (codes "002D 02 0000 0014 40010103 4002060201 0000FDE8 400304 C0000201 080A"))

-- one whose ATOMIC_AGGREGATE has a byte
abbrev of_long_atomic : ErrorRule → ReplayUnit
of_long_atomic errors = handled_message errors (hex (codes "0031 02 0000 0018") ++ plain_attributes ++ hex (codes "400601 00 080A"))

-- one whose LOCAL_PREF has three bytes
abbrev of_short_preference : ErrorRule → ReplayUnit
of_short_preference errors = handled_message errors (hex (codes "0033 02 0000 001A") ++ plain_attributes ++ hex (codes "400503 000064 080A"))

-- one without ORIGIN
abbrev of_no_origin : ErrorRule → ReplayUnit
of_no_origin errors = handled_message errors (hex (codes "0029 02 0000 0010 4002060201 0000FDE8 400304 C0000201 080A"))

-- an entry of 10.0.0.0/8 with these attributes
abbrev handled_entry_of : List ℕ → ReplayUnit
handled_entry_of attributes = unit_of 1 (Entry (by_errors Internal (rules_of ipv4 no_attributes)) ten attributes)

handling : record {
  -- a malformed ORIGIN withdraws what is announced (RFC 7606, 7.1), and nothing of a peer that isn't up
  withdrawn : session_of (announcement ∷ of_bad_origin External ∷ []) ≡ record { up = true; established = true; table = []; churn = churn_with (1 ∷ 0 ∷ 0 ∷ 1 ∷ 0 ∷ 0 ∷ 0 ∷ 1 ∷ []) 1 1; arrivals = so_many 2; faults = record { place = somewhere; fault = BadAttribute 1 } ∷ []; spent = false };
  while_down : session_of (announcement ∷ state_change 6 1 ∷ of_bad_origin External ∷ []) ≡ record { up = false; established = false; table = []; churn = churn_with (1 ∷ 0 ∷ 0 ∷ 0 ∷ 0 ∷ 1 ∷ 0 ∷ 1 ∷ []) 1 1; arrivals = so_many 3; faults = record { place = somewhere; fault = BadAttribute 1 } ∷ []; spent = false };
  -- a malformed ATOMIC_AGGREGATE is discarded (7.6)
  discarded : session_of (of_long_atomic Internal ∷ []) ≡ record { up = true; established = true; table = (ten, plain_route) ∷ []; churn = churn_with (1 ∷ 0 ∷ 0 ∷ 0 ∷ 0 ∷ 0 ∷ 0 ∷ 1 ∷ []) 1 1; arrivals = so_many 1; faults = record { place = somewhere; fault = BadAttribute 6 } ∷ []; spent = false };
  -- so is a malformed LOCAL_PREF of an external peer, and one of an internal peer withdraws (7.5)
  external_preference : session_of (of_short_preference External ∷ []) ≡ record { up = true; established = true; table = (ten, plain_route) ∷ []; churn = churn_with (1 ∷ 0 ∷ 0 ∷ 0 ∷ 0 ∷ 0 ∷ 0 ∷ 1 ∷ []) 1 1; arrivals = so_many 1; faults = record { place = somewhere; fault = BadAttribute 5 } ∷ []; spent = false };
  internal_preference : session_of (of_short_preference Internal ∷ []) ≡ record { up = true; established = true; table = []; churn = churn_with (0 ∷ 0 ∷ 0 ∷ 0 ∷ 1 ∷ 0 ∷ 0 ∷ 1 ∷ []) 1 1; arrivals = so_many 1; faults = record { place = somewhere; fault = BadAttribute 5 } ∷ []; spent = false };
  -- an announcement without ORIGIN withdraws (3 (d)), and is no fault
  lacking : session_of (announcement ∷ of_no_origin External ∷ []) ≡ record { up = true; established = true; table = []; churn = churn_with (1 ∷ 0 ∷ 0 ∷ 1 ∷ 0 ∷ 0 ∷ 0 ∷ 0 ∷ []) 1 1; arrivals = so_many 2; faults = []; spent = false };
  -- an entry loses a malformed AGGREGATOR, and is skipped for a malformed ORIGIN
  entry_without : session_of (handled_entry_of (plain_attributes ++ hex (codes "C00702 FDE8")) ∷ []) ≡ record { up = true; established = true; table = (ten, plain_route) ∷ []; churn = churn_with (1 ∷ 0 ∷ 0 ∷ 0 ∷ 0 ∷ 0 ∷ 0 ∷ 1 ∷ []) 1 1; arrivals = so_many 1; faults = record { place = somewhere; fault = BadAttribute 7 } ∷ []; spent = false };
  entry_skipped : session_of (announcement ∷ handled_entry_of (hex (codes "40010103")) ∷ []) ≡ record { up = true; established = true; table = (ten, plain_route) ∷ []; churn = churn_with (1 ∷ 0 ∷ 0 ∷ 0 ∷ 0 ∷ 0 ∷ 0 ∷ 1 ∷ []) 1 1; arrivals = so_many 2; faults = record { place = somewhere; fault = BadAttribute 1 } ∷ []; spent = false };
}
unfolding items_after attribute_at attributes_in value_fault route_from entry_route route_in path_in segment_at segment_field_at written_key_at keys_in route_keys_in key_at reach_in reach_at hop_at unreach_in next_hop_of reached_keys unreached_keys fields_in said_update update_in front_attributes recovered_route recovered_update message_in message_event_in event_in unit_steps steps_of route_eq outcomes_of churn_of arrivals_of damaged_of table_of session_of
handling = record {
  withdrawn = refl;
  while_down = refl;
  discarded = refl;
  external_preference = refl;
  internal_preference = refl;
  lacking = refl;
  entry_without = refl;
  entry_skipped = refl;
}
