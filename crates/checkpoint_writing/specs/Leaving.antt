-- The peers of tables as they are written, and the routes that are left out, whose attributes are too long.
use Rattle.std.specs.Prelude.{◌≤◌, ℕ, ◌∷◌, [], not, Bool, List, length, map, nat_le, if◌then◌else◌}
use Rattle.std.specs.List.{filter, flat_map, AllByRecursion}
use Rattle.bgp_prefix.specs.Keys.{RouteKey}
use Rattle.bgp_update.specs.declared.route.Route.{Route}
use Rattle.bgp_update.specs.Families.{FamilyOf}
use Rattle.peer_units.specs.declared.state_rule.StateRule.{StateRule}
use Rattle.peer_units.specs.declared.unit.PeerKey.{PeerKey}
use Rattle.peer_tables.specs.Tables.{Seat}
use Rattle.mrt_writing.specs.RouteAttributes.{entry_most}
use Rattle.mrt_writing.specs.RibRecords.{entry_field}
use Rattle.mrt_writing.specs.Updates.{update_field, update_most}
use Rattle.mrt_writing.specs.Records.{record_bytes, records_bytes}
use Rattle.mrt_writing.specs.Dumps.{dump_records, has_identifier, record_of, update}
use Rattle.table_dumps.specs.Dumped.{is_as, is_entry}
use Rattle.table_dumps.specs.Checkpoints.{DumpedPeer, keys_of, record_split, checkpoint_records, state_record}
use Rattle.checkpoint_writing.specs.Merging.{Entries}

-- the attributes of the entry, or of the UPDATE, have no more bytes than their length can say
abbrev pub is_short : FamilyOf → RouteKey × Route → Bool
is_short family e =
    if is_entry family e then nat_le (length (entry_field family e.1)) entry_most
    else nat_le (length (update_field family (has_identifier e.0) e.0 e.1)) update_most

-- a seat as a peer of a dump, with the routes that can be written
abbrev pub written_peer_of : StateRule → FamilyOf → Seat → DumpedPeer
written_peer_of rule family seat = record {
  key = seat.key;
  up = is_as rule seat.session.up seat.session.established;
  table = filter (is_short family) seat.session.table;
}

abbrev pub written_peers : StateRule → FamilyOf → List Seat → List DumpedPeer
written_peers rule family seats = map (written_peer_of rule family) seats

-- the bytes of the checkpoint of these seats
unfoldable pub written_checkpoint : StateRule → FamilyOf → ℕ → List Seat → List ℕ
written_checkpoint rule family seconds seats =
    let peers = written_peers rule family seats in
    records_bytes (dump_records family seconds (keys_of peers) (checkpoint_records (record_split family) family peers))

-- ---- one route after the other

-- the entries that are written, of one route and of all
abbrev pub kept_entry : FamilyOf → RouteKey × Route → Entries
kept_entry family e = filter (is_entry family) (filter (is_short family) (e ∷ []))

abbrev pub kept_entries : FamilyOf → Entries → Entries
kept_entries family table = filter (is_entry family) (filter (is_short family) table)

-- what is left out of a peer's table
abbrev pub left_entry : FamilyOf → PeerKey → RouteKey × Route → List (PeerKey × RouteKey)
left_entry family key e = map (λ x. (key, x.0)) (filter (λ x. not (is_short family x)) (e ∷ []))

abbrev pub left_entries : FamilyOf → Seat → List (PeerKey × RouteKey)
left_entries family seat = map (λ x. (seat.key, x.0)) (filter (λ x. not (is_short family x)) seat.session.table)

-- the routes of all these can be entries
abbrev pub AreListsShort : FamilyOf → List Entries → Type 0
AreListsShort family lists = AllByRecursion (λ es. AllByRecursion (λ e. length (entry_field family e.1) ≤ entry_most) es) lists

-- ---- what is written of each peer beside its entries

abbrev pub state_bytes : StateRule → FamilyOf → ℕ → Seat → List ℕ
state_bytes rule family seconds seat = record_bytes (record_of family seconds (state_record (written_peer_of rule family seat)))

-- the UPDATE of a route that isn't an entry
abbrev pub update_bytes_of : FamilyOf → ℕ → PeerKey → RouteKey × Route → List ℕ
update_bytes_of family seconds peer e =
    if is_entry family e then [] else
    if nat_le (length (update_field family (has_identifier e.0) e.0 e.1)) update_most
    then record_bytes (record_of family seconds (update peer e.0 e.1)) else []

abbrev pub updates_bytes : FamilyOf → ℕ → Seat → List ℕ
updates_bytes family seconds seat = flat_map (update_bytes_of family seconds seat.key) seat.session.table
