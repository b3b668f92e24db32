-- Parts of reports: of some peers, of chosen keys and routes, and of a prefix.
use Rattle.std.specs.Prelude.{ℕ, Bool, not, List}
use Rattle.std.specs.List.{filter, filter_map}
use Rattle.bgp_prefix.specs.Prefixes.{IpPrefix, prefix_eq}
use Rattle.peer_units.specs.declared.unit.PeerKey.{PeerKey}
use Rattle.peer_units.specs.Choices.{Choices}
use Rattle.adj_rib.specs.Selecting.{is_chosen_entry}
use Rattle.peer_tables.specs.Tables.{TablesState}
use Rattle.rib_report.specs.Plain.{SeenRow}
use Rattle.rib_report.specs.Rows.{TableRow}

-- the tables of those peers that are in a share
abbrev pub share_of : (PeerKey → Bool) → TablesState → TablesState
share_of is_in tables = record tables { seats = filter (λ seat. is_in seat.key) tables.seats }

-- the tables of all other peers
abbrev pub rest_of : (PeerKey → Bool) → TablesState → TablesState
rest_of is_in tables = share_of (λ peer. not (is_in peer)) tables

-- its key and its route are chosen
abbrev pub is_chosen_row : Choices → TableRow → Bool
is_chosen_row choices row = is_chosen_entry choices (row.key, row.route)

-- the origin ASes in the rows of a prefix
abbrev pub origins_seen : List SeenRow → IpPrefix → List ℕ
origins_seen rows p = filter_map (λ row. row.origin) (filter (λ row. prefix_eq p row.prefix) rows)
