-- Reports on whole files, from bytes to text, by computation.
use Rattle.std.proofs.Common.{ℕ, ◌*◌, ◌^◌, Some, None, List, [], ◌∷◌, ◌++◌, refl, take, drop}
use Rattle.std.specs.Prelude.{codes}
use Rattle.std.specs.Fmt.{digits}
use Rattle.mrt_frame.proofs.Hexadecimal.{hex}
use Rattle.mrt_frame.specs.Cuts.{cuts, cuts_within}
use Rattle.mrt_frame.specs.Fields.{items_after}
use Rattle.bgp_update.specs.Attributes.{attribute_at, attributes_in, value_fault, route_from, entry_route, route_in}
use Rattle.bgp_update.specs.Equality.{route_eq}
use Rattle.bgp_update.specs.Keys.{written_key_at, keys_in, route_keys_in, key_at}
use Rattle.bgp_update.specs.Multiprotocol.{reach_in, reach_at, hop_at, unreach_in, next_hop_of, reached_keys, unreached_keys}
use Rattle.bgp_update.specs.Segments.{path_in, segment_at, segment_field_at}
use Rattle.bgp_update.specs.Updates.{fields_in, said_update, update_in}
use Rattle.mrt_body.specs.Indexes.{index_in, index_head_at, peers_in, written_peer_at}
use Rattle.mrt_body.specs.RibRecords.{rib_in, rib_head_at, entry_at}
use Rattle.mrt_body.specs.Bgp4mp.{session_at, session_ends_at, session_peer_at, states_in, state_change_in}
use Rattle.mrt_body.specs.Units.{found_in, found_at, body_kind_of, message_unit, units_of, refused_of}
use Rattle.peer_units.specs.Events.{event_in, message_event_in, message_in}
use Rattle.model_examples.proofs.Records.{marker_16, session_four, plain_attributes, announcement, announcement_of, announcement_with, state_change, withdrawal, extended_announcement, peer_table, rib_with, rib_record}
use Rattle.adj_rib.specs.Steps.{unit_steps, steps_of}
use Rattle.adj_rib.specs.Tables.{table_of}
use Rattle.adj_rib.specs.Churns.{outcomes_of, churn_of, damaged_of}
use Rattle.adj_rib.specs.Histories.{churn_within, idle_within, notes_within, unit_notes, watch_of}
use Rattle.adj_rib.specs.Sessions.{session_of}
use Rattle.peer_tables.specs.Histories.{history_of, history_rows, watches_of}
use Rattle.peer_tables.specs.Peers.{peers_of}
use Rattle.peer_tables.specs.Tables.{tables_of}
use Rattle.ip_text.specs.AddressTexts.{address_text}
use Rattle.report_request.specs.declared.request.Request.TheVariants.{Tables, Visibility, Origins, Churn, Match, Faults}
use Rattle.mrt_replay.specs.Reports.{text, report}
use Rattle.model_examples.proofs.Dumps.{update, head_four, by_second, by_third, by_other_hop, by_path_of, of_host_bits, of_three, withdrawn_and_announced, two_octet_path, longer_as4_path, with_aggregators, of_seven, withdrawal_of_seven, cut_identifier, rib_of_seven, reached_with, reached, reached_by_ipv6, reached_twice, unreached, row, AreReports}

-- the line of the announcement
abbrev plain_line : List ℕ
plain_line = codes "65000 192.0.2.1|10.0.0.0/8|65000|192.0.2.1|IGP|-|-|-|-"

-- its line with other fields up to the next hop
abbrev line_with : List ℕ → List ℕ
line_with fields = codes "65000 192.0.2.1|" ++ fields ++ codes "|IGP|-|-|-|-"

abbrev seven_line : List ℕ
seven_line = line_with (codes "10.0.0.0/8#7|65000|192.0.2.1")

-- one file, and its tables or churn
one_file : AreReports (
    row Tables [] []
    ∷ row Tables announcement (plain_line ∷ [])
    ∷ row Tables of_host_bits (line_with (codes "10.240.0.0/12|65000|192.0.2.1") ∷ [])
    ∷ row (Churn None) (announcement ++ announcement) (codes "65000 192.0.2.1|1|0|1|0|0|0|0|0|1.000000|1.000000" ∷ [])
    ∷ row Tables (announcement ++ withdrawal ++ withdrawal) []
    ∷ row (Churn None) (announcement ++ withdrawal ++ withdrawal) (codes "65000 192.0.2.1|1|0|0|1|1|0|0|0|1.000000|2.000000" ∷ [])
    ∷ row Tables (announcement ++ by_other_hop) (line_with (codes "10.0.0.0/8|65000|192.0.2.3") ∷ [])
    ∷ row Tables withdrawn_and_announced (plain_line ∷ [])
    ∷ row (Churn None) withdrawn_and_announced (codes "65000 192.0.2.1|1|0|0|0|0|0|0|0|1.000000|1.000000" ∷ [])
    ∷ row Tables (announcement_with marker_16 (hex (codes "002D 04 0000 0014")) plain_attributes) []
    ∷ row Tables (hex (codes "00000001 000C 0001 00000000") ++ announcement) (plain_line ∷ [])
    ∷ row Tables extended_announcement (plain_line ∷ [])
    ∷ row (Churn None) extended_announcement (codes "65000 192.0.2.1|1|0|0|0|0|0|0|0|2.000000|2.000000" ∷ [])
    ∷ record { request = Churn None; until = Some 1; files = extended_announcement ∷ []; told = [] }
    ∷ [])
unfolding digits address_text report text units_of refused_of found_in cuts cuts_within found_at body_kind_of message_unit session_peer_at session_ends_at session_at states_in state_change_in index_in index_head_at peers_in written_peer_at rib_in rib_head_at entry_at items_after attribute_at attributes_in value_fault route_from entry_route route_in path_in segment_at segment_field_at written_key_at keys_in route_keys_in key_at reach_in reach_at hop_at unreach_in next_hop_of reached_keys unreached_keys fields_in said_update update_in message_in message_event_in event_in unit_steps steps_of route_eq outcomes_of churn_of damaged_of table_of session_of peers_of tables_of
one_file = refl

-- counts from a second on, over a replay from the beginning
from_the_second_on : AreReports (
    row (Churn (Some 2)) (announcement ++ withdrawal ++ withdrawal) (codes "65000 192.0.2.1|0|0|0|1|1|0|0|0|2.000000|2.000000" ∷ [])
    ∷ row (Churn (Some 3)) (announcement ++ withdrawal) (codes "65000 192.0.2.1|0|0|0|0|0|0|0|0|-|-" ∷ [])
    ∷ row (Churn (Some 0)) (announcement ++ announcement) (codes "65000 192.0.2.1|1|0|1|0|0|0|0|0|1.000000|1.000000" ∷ [])
    ∷ row (Churn (Some 2)) (announcement ++ state_change (hex (codes "0006 0001")) ++ announcement) (codes "65000 192.0.2.1|0|0|0|0|0|1|0|0|2.000000|2.000000" ∷ [])
    ∷ [])
unfolding digits address_text report text units_of refused_of found_in cuts cuts_within found_at body_kind_of message_unit session_peer_at session_ends_at session_at states_in state_change_in index_in index_head_at peers_in written_peer_at rib_in rib_head_at entry_at items_after attribute_at attributes_in value_fault route_from entry_route route_in path_in segment_at segment_field_at written_key_at keys_in route_keys_in key_at reach_in reach_at hop_at unreach_in next_hop_of reached_keys unreached_keys fields_in said_update update_in message_in message_event_in event_in unit_steps steps_of route_eq outcomes_of churn_of damaged_of table_of session_of peers_of tables_of churn_within notes_within idle_within unit_notes watch_of watches_of history_rows history_of
from_the_second_on = refl

-- a session that leaves Established, and comes back
state_changes : AreReports (
    row Tables (announcement ++ state_change (hex (codes "0006 0001")) ++ announcement) []
    ∷ row (Churn None) (announcement ++ state_change (hex (codes "0006 0001")) ++ announcement) (codes "65000 192.0.2.1|1|0|0|0|0|1|1|0|1.000000|1.000000" ∷ [])
    ∷ row Tables (announcement ++ state_change (hex (codes "0006 0001")) ++ announcement ++ state_change (hex (codes "0005 0006")) ++ announcement) (plain_line ∷ [])
    ∷ row (Churn None) (announcement ++ state_change (hex (codes "0006 0001")) ++ announcement ++ state_change (hex (codes "0005 0006")) ++ announcement) (codes "65000 192.0.2.1|2|0|0|0|0|2|1|0|1.000000|1.000000" ∷ [])
    ∷ row Tables (announcement ++ state_change (hex (codes "0006 0006"))) (plain_line ∷ [])
    ∷ row (Churn None) (announcement ++ state_change (hex (codes "0006 0006"))) (codes "65000 192.0.2.1|1|0|0|0|0|0|0|0|1.000000|2.000000" ∷ [])
    ∷ [])
unfolding digits address_text report text units_of refused_of found_in cuts cuts_within found_at body_kind_of message_unit session_peer_at session_ends_at session_at states_in state_change_in index_in index_head_at peers_in written_peer_at rib_in rib_head_at entry_at items_after attribute_at attributes_in value_fault route_from entry_route route_in path_in segment_at segment_field_at written_key_at keys_in route_keys_in key_at reach_in reach_at hop_at unreach_in next_hop_of reached_keys unreached_keys fields_in said_update update_in message_in message_event_in event_in unit_steps steps_of route_eq outcomes_of churn_of damaged_of table_of session_of peers_of tables_of
state_changes = refl

-- paths of two-octet AS numbers, merged; aggregators; a set
paths : AreReports (
    row Tables two_octet_path (line_with (codes "10.0.0.0/8|100 70000 70001|192.0.2.1") ∷ [])
    ∷ row Tables longer_as4_path (line_with (codes "10.0.0.0/8|100 23456 23456|192.0.2.1") ∷ [])
    ∷ row Tables (with_aggregators (hex (codes "0064"))) (codes "65000 192.0.2.1|10.0.0.0/8|100 23456 23456|192.0.2.1|IGP|-|-|-|100 192.0.2.9" ∷ [])
    ∷ row Tables (with_aggregators (hex (codes "5BA0"))) (codes "65000 192.0.2.1|10.0.0.0/8|100 70000 70001|192.0.2.1|IGP|-|-|-|70000 192.0.2.9" ∷ [])
    ∷ row Tables (by_path_of (hex (codes "01"))) (codes "65000 192.0.2.2|10.0.0.0/8|{65001}|192.0.2.1|IGP|-|-|-|-" ∷ [])
    ∷ [])
unfolding digits address_text report text units_of refused_of found_in cuts cuts_within found_at body_kind_of message_unit session_peer_at session_ends_at session_at states_in state_change_in index_in index_head_at peers_in written_peer_at rib_in rib_head_at entry_at items_after attribute_at attributes_in value_fault route_from entry_route route_in path_in segment_at segment_field_at written_key_at keys_in route_keys_in key_at reach_in reach_at hop_at unreach_in next_hop_of reached_keys unreached_keys fields_in said_update update_in message_in message_event_in event_in unit_steps steps_of route_eq outcomes_of churn_of damaged_of table_of session_of peers_of tables_of
paths = refl

-- reports over several peers, and the longest match
peers : AreReports (
    row Tables (announcement ++ by_second ++ announcement ++ by_third ++ by_second) (plain_line ∷ codes "65000 192.0.2.2|10.0.0.0/8|65000|192.0.2.1|IGP|-|-|-|-" ∷ codes "65000 192.0.2.3|10.0.0.0/8|65000|192.0.2.1|IGP|-|-|-|-" ∷ [])
    ∷ row Tables of_three (line_with (codes "0.0.0.0/0|65000|192.0.2.1") ∷ plain_line ∷ line_with (codes "10.1.0.0/16|65000|192.0.2.1") ∷ [])
    ∷ row (Match (0x0A01FFFF * 2 ^ 96)) of_three (line_with (codes "10.1.0.0/16|65000|192.0.2.1") ∷ [])
    ∷ row (Match (0x0B000000 * 2 ^ 96)) of_three (line_with (codes "0.0.0.0/0|65000|192.0.2.1") ∷ [])
    ∷ row Visibility (announcement ++ by_path_of (hex (codes "01"))) (codes "10.0.0.0/8|2" ∷ [])
    ∷ row Origins (announcement ++ by_path_of (hex (codes "01"))) []
    ∷ row Origins (announcement ++ by_path_of (hex (codes "02"))) (codes "10.0.0.0/8|65000 65001" ∷ [])
    ∷ [])
unfolding digits address_text report text units_of refused_of found_in cuts cuts_within found_at body_kind_of message_unit session_peer_at session_ends_at session_at states_in state_change_in index_in index_head_at peers_in written_peer_at rib_in rib_head_at entry_at items_after attribute_at attributes_in value_fault route_from entry_route route_in path_in segment_at segment_field_at written_key_at keys_in route_keys_in key_at reach_in reach_at hop_at unreach_in next_hop_of reached_keys unreached_keys fields_in said_update update_in message_in message_event_in event_in unit_steps steps_of route_eq outcomes_of churn_of damaged_of table_of session_of peers_of tables_of
peers = refl

-- RIB records, and several files
rib_records : AreReports (
    row Faults (rib_record ++ announcement) (codes "1|0|-|7|NoPeerIndex" ∷ [])
    ∷ row Tables (rib_record ++ announcement) (plain_line ∷ [])
    ∷ row Tables (peer_table ++ rib_record) (codes "65000 2001:0db8:0000:0000:0000:0000:0000:0001|10.0.0.0/8|65000|192.0.2.1|IGP|-|-|-|-" ∷ [])
    ∷ row Faults (peer_table ++ rib_record) (codes "1|56|2|14|BadAttribute(1)" ∷ [])
    ∷ row (Churn None) (peer_table ++ rib_record) (codes "65000 2001:0db8:0000:0000:0000:0000:0000:0001|1|0|0|0|0|0|0|0|3.000000|3.000000" ∷ codes "70000 192.0.2.2|0|0|0|0|0|0|0|1|3.000000|3.000000" ∷ [])
    ∷ record { request = Faults; until = None; files = take 76 announcement ∷ announcement ∷ []; told = codes "1|0|-|2|ShortBody" ++ 10 ∷ [] }
    ∷ record { request = Tables; until = None; files = take 76 announcement ∷ announcement ∷ []; told = plain_line ++ 10 ∷ [] }
    ∷ row Faults (announcement ++ hex (codes "000000")) (codes "1|77|-|1|ShortHeader" ∷ [])
    ∷ [])
unfolding digits address_text report text units_of refused_of found_in cuts cuts_within found_at body_kind_of message_unit session_peer_at session_ends_at session_at states_in state_change_in index_in index_head_at peers_in written_peer_at rib_in rib_head_at entry_at items_after attribute_at attributes_in value_fault route_from entry_route route_in path_in segment_at segment_field_at written_key_at keys_in route_keys_in key_at reach_in reach_at hop_at unreach_in next_hop_of reached_keys unreached_keys fields_in said_update update_in message_in message_event_in event_in unit_steps steps_of route_eq outcomes_of churn_of damaged_of table_of session_of peers_of tables_of
rib_records = refl

-- two paths of one prefix
path_identifiers : AreReports (
    row Tables (announcement ++ of_seven) (plain_line ∷ seven_line ∷ [])
    ∷ row (Match (0x0A000001 * 2 ^ 96)) (announcement ++ of_seven) (plain_line ∷ seven_line ∷ [])
    ∷ row Visibility (announcement ++ of_seven) (codes "10.0.0.0/8|1" ∷ [])
    ∷ row (Churn None) (announcement ++ of_seven) (codes "65000 192.0.2.1|2|0|0|0|0|0|0|0|1.000000|1.000000" ∷ [])
    ∷ row Tables (announcement ++ of_seven ++ withdrawal_of_seven) (plain_line ∷ [])
    ∷ row (Churn None) (announcement ++ of_seven ++ withdrawal_of_seven) (codes "65000 192.0.2.1|2|0|0|1|0|0|0|0|1.000000|2.000000" ∷ [])
    ∷ row Tables (peer_table ++ rib_of_seven) (codes "65000 2001:0db8:0000:0000:0000:0000:0000:0001|10.0.0.0/8#7|65000|192.0.2.1|IGP|-|-|-|-" ∷ [])
    ∷ row Faults cut_identifier (codes "1|0|-|9|BadPrefix" ∷ [])
    ∷ [])
unfolding digits address_text report text units_of refused_of found_in cuts cuts_within found_at body_kind_of message_unit session_peer_at session_ends_at session_at states_in state_change_in index_in index_head_at peers_in written_peer_at rib_in rib_head_at entry_at items_after attribute_at attributes_in value_fault route_from entry_route route_in path_in segment_at segment_field_at written_key_at keys_in route_keys_in key_at reach_in reach_at hop_at unreach_in next_hop_of reached_keys unreached_keys fields_in said_update update_in message_in message_event_in event_in unit_steps steps_of route_eq outcomes_of churn_of damaged_of table_of session_of peers_of tables_of
path_identifiers = refl

-- attributes 14 and 15
multiprotocol : AreReports (
    row Tables reached (line_with (codes "10.0.0.0/8|65000|192.0.2.9") ∷ [])
    ∷ row Tables reached_by_ipv6 (line_with (codes "10.0.0.0/8|65000|2001:0db8:0000:0000:0000:0000:0000:0009") ∷ [])
    ∷ row Tables (announcement ++ unreached) []
    ∷ row (Churn None) (announcement ++ unreached) (codes "65000 192.0.2.1|1|0|0|1|0|0|0|0|1.000000|2.000000" ∷ [])
    ∷ row Faults reached_twice (codes "1|0|-|14|BadAttribute(14)" ∷ [])
    ∷ row Tables (reached_with (hex (codes "0002")) (hex (codes "04"))) []
    ∷ row Faults (reached_with (hex (codes "0002")) (hex (codes "04"))) []
    ∷ row Faults (reached_with (hex (codes "0001")) (hex (codes "05"))) (codes "1|0|-|14|BadAttribute(14)" ∷ [])
    ∷ row Tables (announcement ++ reached) (line_with (codes "10.0.0.0/8|65000|192.0.2.9") ∷ [])
    ∷ row (Churn None) (announcement ++ reached) (codes "65000 192.0.2.1|1|1|0|0|0|0|0|0|1.000000|1.000000" ∷ [])
    ∷ row (Churn None) (announcement ++ state_change (hex (codes "0006 0001")) ++ reached) (codes "65000 192.0.2.1|1|0|0|0|0|1|1|0|1.000000|1.000000" ∷ [])
    ∷ [])
unfolding digits address_text report text units_of refused_of found_in cuts cuts_within found_at body_kind_of message_unit session_peer_at session_ends_at session_at states_in state_change_in index_in index_head_at peers_in written_peer_at rib_in rib_head_at entry_at items_after attribute_at attributes_in value_fault route_from entry_route route_in path_in segment_at segment_field_at written_key_at keys_in route_keys_in key_at reach_in reach_at hop_at unreach_in next_hop_of reached_keys unreached_keys fields_in said_update update_in message_in message_event_in event_in unit_steps steps_of route_eq outcomes_of churn_of damaged_of table_of session_of peers_of tables_of
multiprotocol = refl

-- each fault, alone in a file
faults : AreReports (
    row Faults (hex (codes "000000")) (codes "1|0|-|1|ShortHeader" ∷ [])
    ∷ row Faults (take 76 announcement) (codes "1|0|-|2|ShortBody" ∷ [])
    ∷ row Faults (hex (codes "00000001 0010 0004 01000000")) (codes "1|0|-|2|ShortBody" ∷ [])
    ∷ row Faults (hex (codes "00000001 0010 0004 01000001")) (codes "1|0|-|3|BodyTooLong" ∷ [])
    ∷ row Faults (hex (codes "00000001 0010 0004 00000002 0000")) (codes "1|0|-|4|ShortRecord" ∷ [])
    ∷ row Faults (hex (codes "00000001 0011 0004 00000003 000000")) (codes "1|0|-|4|ShortRecord" ∷ [])
    ∷ row Faults (hex (codes "00000002 0010 0005 00000019") ++ session_four ++ hex (codes "0006 0001 00")) (codes "1|0|-|5|TrailingBytes" ∷ [])
    ∷ row Faults (announcement_of (hex (codes "0000FDE8 0000FDE9 0000 0003 C0000201 C0000202"))) (codes "1|0|-|6|BadFamily" ∷ [])
    ∷ row Faults rib_record (codes "1|0|-|7|NoPeerIndex" ∷ [])
    ∷ row Faults (peer_table ++ rib_with (hex (codes "080A")) (hex (codes "0002"))) (codes "1|56|-|8|BadPeerIndex" ∷ [])
    ∷ row Faults (peer_table ++ rib_with (hex (codes "210A")) (hex (codes "0001"))) (codes "1|56|-|9|BadPrefix" ∷ [])
    ∷ row Faults (update (head_four (hex (codes "00000041"))) session_four (hex (codes "002D 02 0000 0014") ++ plain_attributes ++ hex (codes "210A"))) (codes "1|0|-|9|BadPrefix" ∷ [])
    ∷ row Faults (update (head_four (hex (codes "00000041"))) session_four (hex (codes "002D 02 0000 0014") ++ plain_attributes ++ hex (codes "090A"))) (codes "1|0|-|9|BadPrefix" ∷ [])
    ∷ row Faults (announcement_with (hex (codes "00FFFFFF FFFFFFFF FFFFFFFF FFFFFFFF")) (hex (codes "002D 02 0000 0014")) plain_attributes) (codes "1|0|-|10|BadMarker" ∷ [])
    ∷ row Faults (announcement_with marker_16 (hex (codes "002C 02 0000 0014")) plain_attributes) (codes "1|0|-|11|BadLength" ∷ [])
    ∷ row Faults (announcement_with marker_16 (hex (codes "002D 02 00FF 0014")) plain_attributes) (codes "1|0|-|12|BadUpdate" ∷ [])
    ∷ row Faults (announcement_with marker_16 (hex (codes "002D 02 0000 0014")) (hex (codes "40010100 4002060201 0000FDE8 400305 C0000201"))) (codes "1|0|-|13|ShortAttribute" ∷ [])
    ∷ row Faults (announcement_with marker_16 (hex (codes "002D 02 0000 0014")) (hex (codes "40010103 4002060201 0000FDE8 400304 C0000201"))) (codes "1|0|-|14|BadAttribute(1)" ∷ [])
    ∷ row Faults (announcement_with marker_16 (hex (codes "002D 02 0000 0014")) (hex (codes "40010100 4002060501 0000FDE8 400304 C0000201"))) (codes "1|0|-|15|BadPath" ∷ [])
    ∷ row Faults (announcement_with marker_16 (hex (codes "002D 02 0000 0014")) (hex (codes "40010100 4002060200 0000FDE8 400304 C0000201"))) (codes "1|0|-|15|BadPath" ∷ [])
    ∷ [])
unfolding digits address_text report text units_of refused_of found_in cuts cuts_within found_at body_kind_of message_unit session_peer_at session_ends_at session_at states_in state_change_in index_in index_head_at peers_in written_peer_at rib_in rib_head_at entry_at items_after attribute_at attributes_in value_fault route_from entry_route route_in path_in segment_at segment_field_at written_key_at keys_in route_keys_in key_at reach_in reach_at hop_at unreach_in next_hop_of reached_keys unreached_keys fields_in said_update update_in message_in message_event_in event_in unit_steps steps_of route_eq outcomes_of churn_of damaged_of table_of session_of peers_of tables_of
faults = refl

-- counts that are too large or too small for what follows, and a record aside
counts : AreReports (
    row Faults (hex (codes "00000003 000D 0001 0000002C C0000263 0000 FFFF") ++ drop 20 peer_table ++ rib_record) (codes "1|0|-|4|ShortRecord" ∷ codes "1|56|-|7|NoPeerIndex" ∷ [])
    ∷ row Faults (peer_table ++ take 18 rib_record ++ hex (codes "FFFF") ++ drop 20 rib_record) (codes "1|56|-|4|ShortRecord" ∷ [])
    ∷ row Faults (peer_table ++ take 18 rib_record ++ hex (codes "0001") ++ drop 20 rib_record) (codes "1|56|-|5|TrailingBytes" ∷ [])
    ∷ row Faults (announcement_with marker_16 (hex (codes "002D 02 0000 0014")) (hex (codes "40010100 4002060202 0000FDE8 400304 C0000201"))) (codes "1|0|-|15|BadPath" ∷ [])
    ∷ row Tables (update (hex (codes "00000001 0010 000B 00000045")) session_four (hex (codes "0031 02 0000 0014") ++ plain_attributes ++ hex (codes "00000007 080A"))) []
    ∷ [])
unfolding digits address_text report text units_of refused_of found_in cuts cuts_within found_at body_kind_of message_unit session_peer_at session_ends_at session_at states_in state_change_in index_in index_head_at peers_in written_peer_at rib_in rib_head_at entry_at items_after attribute_at attributes_in value_fault route_from entry_route route_in path_in segment_at segment_field_at written_key_at keys_in route_keys_in key_at reach_in reach_at hop_at unreach_in next_hop_of reached_keys unreached_keys fields_in said_update update_in message_in message_event_in event_in unit_steps steps_of route_eq outcomes_of churn_of damaged_of table_of session_of peers_of tables_of
counts = refl
