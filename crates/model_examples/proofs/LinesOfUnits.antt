-- Reports on units of given bytes, by computation.
use Rattle.std.proofs.Common.{◌≡◌, ℕ, ◌*◌, ◌^◌, Bool, refl, true, false, None, List, [], ◌∷◌, ◌++◌}
use Rattle.std.specs.Prelude.{codes}
use Rattle.std.specs.List.{flat_map}
use Rattle.std.specs.Fmt.{digits}
use Rattle.mrt_frame.proofs.Hexadecimal.{hex}
use Rattle.mrt_frame.specs.declared.fault.Fault.TheVariants.{NoPeerIndex}
use Rattle.mrt_frame.specs.Fields.{items_after}
use Rattle.bgp_update.specs.Families.{ipv4, rules_of}
use Rattle.bgp_update.specs.KeptAttributes.{no_attributes}
use Rattle.bgp_update.specs.declared.width.Width.TheVariants.{Four}
use Rattle.bgp_update.specs.Equality.{route_eq}
use Rattle.bgp_update.specs.Segments.{path_in, segment_at, segment_field_at}
use Rattle.bgp_update.specs.Keys.{written_key_at, keys_in, route_keys_in, key_at}
use Rattle.bgp_update.specs.Multiprotocol.{reach_in, reach_at, hop_at, unreach_in, next_hop_of, reached_keys, unreached_keys}
use Rattle.bgp_update.specs.Attributes.{attribute_at, attributes_in, value_fault, route_from, entry_route, route_in}
use Rattle.bgp_update.specs.Updates.{fields_in, said_update, update_in}
use Rattle.peer_units.specs.declared.unit.Damage.{Damage}
use Rattle.peer_units.specs.declared.unit.Payload.TheVariants.{Message}
use Rattle.peer_units.specs.declared.unit.PeerAddr.TheVariants as addr
use Rattle.peer_units.specs.Plain.{Unit as ReplayUnit}
use Rattle.peer_units.specs.Events.{message_in, message_event_in, event_in}
use Rattle.adj_rib.specs.Steps.{unit_steps, steps_of}
use Rattle.adj_rib.specs.Tables.{table_of}
use Rattle.adj_rib.specs.Churns.{outcomes_of, churn_of, damaged_of}
use Rattle.adj_rib.specs.Sessions.{session_of}
use Rattle.peer_tables.specs.Peers.{peers_of}
use Rattle.peer_tables.specs.Tables.{tables_of}
use Rattle.ip_text.specs.declared.address_form.AddressForm.TheVariants.{Full}
use Rattle.ip_text.specs.AddressTexts.{address_text}
use Rattle.report_request.specs.declared.format.Format.TheVariants.{Text}
use Rattle.report_request.specs.Plain.{Layout}
use Rattle.rib_report.specs.Reports.{route_rows, match_rows, visibility_rows, origin_rows, seen_rows, churn_rows, fault_rows}
use Rattle.rib_report.specs.Lines.{route_line, visibility_line, origin_line, seen_line, churn_line, fault_line}

abbrev end : List ℕ
end = 10 ∷ []

abbrev full : Layout
full = record { format = Text; peer_addresses = Full; route_addresses = Full; family = ipv4; attributes = no_attributes }

-- a message of a second, at an offset, of 65000 and this address
abbrev message : ℕ → ℕ → ℕ → Bool → List ℕ → ReplayUnit
message offset seconds peer add_path bytes = record {
  place = record { file = 0; offset = offset; entry = None };
  time = seconds * 1000000;
  peer = record { asn = 65000; addr = addr.V4 peer };
  payload = Message (hex (codes "FFFFFFFF FFFFFFFF FFFFFFFF FFFFFFFF") ++ bytes) Four add_path (rules_of ipv4 no_attributes);
}

-- origin IGP, path 65000, next hop 192.0.2.1
abbrev plain_attributes : List ℕ
plain_attributes = hex (codes "40010100 4002060201 0000FDE8 400304 C0000201")

-- of 192.0.2.1: 0.0.0.0/0, 10.0.0.0/8 and 10.1.0.0/16
abbrev three_lengths : ReplayUnit
three_lengths = message 0 1 0xC0000201 false (hex (codes "0031 02 0000 0014") ++ plain_attributes ++ hex (codes "00 080A 100A01"))

-- of 192.0.2.2: 10.0.0.0/8 by path 65001, under identifier 7
abbrev by_another : ReplayUnit
by_another = message 77 1 0xC0000202 true (hex (codes "0031 02 0000 0014 40010100 4002060201 0000FDE9 400304 C0000201 00000007 080A"))

-- of 192.0.2.1 again: a withdrawal of 10.1.0.0/16
abbrev withdrawal : ReplayUnit
withdrawal = message 154 2 0xC0000201 false (hex (codes "001A 02 0003 100A01 0000"))

-- of 192.0.2.2 again: ORIGIN is 3
abbrev damaged : ReplayUnit
damaged = message 200 3 0xC0000202 false (hex (codes "002D 02 0000 0014 40010103 4002060201 0000FDE8 400304 C0000201 080A"))

abbrev units : List ReplayUnit
units = three_lengths ∷ by_another ∷ withdrawal ∷ damaged ∷ []

abbrev refused : List Damage
refused = record { place = record { file = 0; offset = 200; entry = None }; fault = NoPeerIndex } ∷ []

tables : flat_map (route_line full) (route_rows (tables_of units refused))
    ≡ codes "65000 192.0.2.1|0.0.0.0/0|65000|192.0.2.1|IGP|-|-|-|-" ++ end
    ++ codes "65000 192.0.2.1|10.0.0.0/8|65000|192.0.2.1|IGP|-|-|-|-" ++ end
    ++ codes "65000 192.0.2.2|10.0.0.0/8#7|65001|192.0.2.1|IGP|-|-|-|-" ++ end
unfolding digits address_text items_after attribute_at attributes_in value_fault route_from entry_route route_in path_in segment_at segment_field_at written_key_at keys_in route_keys_in key_at reach_in reach_at hop_at unreach_in next_hop_of reached_keys unreached_keys fields_in said_update update_in message_in message_event_in event_in unit_steps steps_of route_eq outcomes_of churn_of damaged_of table_of session_of peers_of tables_of
tables = refl

-- the longest match of 10.1.0.1 at each peer
matched : flat_map (route_line full) (match_rows (tables_of units refused) (0x0A010001 * 2 ^ 96))
    ≡ codes "65000 192.0.2.1|10.0.0.0/8|65000|192.0.2.1|IGP|-|-|-|-" ++ end
    ++ codes "65000 192.0.2.2|10.0.0.0/8#7|65001|192.0.2.1|IGP|-|-|-|-" ++ end
unfolding digits address_text items_after attribute_at attributes_in value_fault route_from entry_route route_in path_in segment_at segment_field_at written_key_at keys_in route_keys_in key_at reach_in reach_at hop_at unreach_in next_hop_of reached_keys unreached_keys fields_in said_update update_in message_in message_event_in event_in unit_steps steps_of route_eq outcomes_of churn_of damaged_of table_of session_of peers_of tables_of
matched = refl

visible : flat_map (visibility_line full) (visibility_rows (tables_of units refused)) ≡ codes "0.0.0.0/0|1" ++ end ++ codes "10.0.0.0/8|2" ++ end
unfolding digits address_text items_after attribute_at attributes_in value_fault route_from entry_route route_in path_in segment_at segment_field_at written_key_at keys_in route_keys_in key_at reach_in reach_at hop_at unreach_in next_hop_of reached_keys unreached_keys fields_in said_update update_in message_in message_event_in event_in unit_steps steps_of route_eq outcomes_of churn_of damaged_of table_of session_of peers_of tables_of
visible = refl

several : flat_map (origin_line full) (origin_rows (tables_of units refused)) ≡ codes "10.0.0.0/8|65000 65001" ++ end
unfolding digits address_text items_after attribute_at attributes_in value_fault route_from entry_route route_in path_in segment_at segment_field_at written_key_at keys_in route_keys_in key_at reach_in reach_at hop_at unreach_in next_hop_of reached_keys unreached_keys fields_in said_update update_in message_in message_event_in event_in unit_steps steps_of route_eq outcomes_of churn_of damaged_of table_of session_of peers_of tables_of
several = refl

seen : flat_map (seen_line full) (seen_rows (tables_of units refused)) ≡ codes "0.0.0.0/0|65000|1" ++ end ++ codes "10.0.0.0/8|65000|1" ++ end ++ codes "10.0.0.0/8|65001|1" ++ end
unfolding digits address_text items_after attribute_at attributes_in value_fault route_from entry_route route_in path_in segment_at segment_field_at written_key_at keys_in route_keys_in key_at reach_in reach_at hop_at unreach_in next_hop_of reached_keys unreached_keys fields_in said_update update_in message_in message_event_in event_in unit_steps steps_of route_eq outcomes_of churn_of damaged_of table_of session_of peers_of tables_of
seen = refl

counted : flat_map (churn_line full) (churn_rows (tables_of units refused))
    ≡ codes "65000 192.0.2.1|3|0|0|1|0|0|0|0|1.000000|2.000000" ++ end ++ codes "65000 192.0.2.2|1|0|0|0|0|0|0|1|1.000000|3.000000" ++ end
unfolding digits items_after attribute_at attributes_in value_fault route_from entry_route route_in path_in segment_at segment_field_at written_key_at keys_in route_keys_in key_at reach_in reach_at hop_at unreach_in next_hop_of reached_keys unreached_keys fields_in said_update update_in message_in message_event_in event_in unit_steps steps_of route_eq outcomes_of churn_of damaged_of table_of session_of peers_of tables_of
counted = refl

-- a refusal stands before a damaged unit of its place
listed : flat_map (fault_line full) (fault_rows (tables_of units refused)) ≡ codes "1|200|-|7|NoPeerIndex" ++ end ++ codes "1|200|-|14|BadAttribute(1)" ++ end
unfolding digits items_after attribute_at attributes_in value_fault route_from entry_route route_in path_in segment_at segment_field_at written_key_at keys_in route_keys_in key_at reach_in reach_at hop_at unreach_in next_hop_of reached_keys unreached_keys fields_in said_update update_in message_in message_event_in event_in unit_steps steps_of route_eq outcomes_of churn_of damaged_of table_of session_of peers_of tables_of
listed = refl
