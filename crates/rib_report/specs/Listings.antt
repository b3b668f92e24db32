-- Entries that are reached through a table, as rows and lines.
use Rattle.std.specs.Prelude.{ℕ, List, [], ◌∷◌, length, max}
use Rattle.std.specs.List.{flat_map}
use Rattle.bgp_prefix.specs.Keys.{RouteKey}
use Rattle.bgp_update.specs.declared.route.Route.{Route}
use Rattle.report_request.specs.Plain.{Layout}
use Rattle.report_lines.specs.Plain.{ShownPeer}
use Rattle.peer_tables.specs.Tables.{Seat}
use Rattle.rib_report.specs.Reports.{entry_row, rows_of_seat}
use Rattle.rib_report.specs.Lines.{route_line}

-- the lines of entries of one peer
abbrev pub reached_lines : ShownPeer → List (RouteKey × Route) → List ℕ
reached_lines peer entries = flat_map (λ e. route_line peer.layout (entry_row peer.key e)) entries

-- the lines of a peer's table
abbrev pub seat_lines : Layout → Seat → List ℕ
seat_lines layout seat = flat_map (route_line layout) (rows_of_seat seat)

-- the greatest number of entries in the table of any of these peers
abbrev pub most_entries : List Seat → ℕ
most_entries [] = 0
most_entries (seat ∷ seats) = max (length seat.session.table) (most_entries seats)
