-- The lines of the reports.
use Rattle.std.specs.Prelude.{ℕ, ◌+◌, List, [], ◌∷◌, map, Option, option_and_then, option_map, decimal}
use Rattle.mrt_frame.specs.Faults.{fault_number, fault_name}
use Rattle.peer_units.specs.declared.unit.Place.{Place}
use Rattle.peer_units.specs.declared.unit.Damage.{Damage}
use Rattle.report_request.specs.declared.column.Column.TheVariants as column
use Rattle.report_request.specs.declared.column.Key.TheVariants as key
use Rattle.report_request.specs.Plain.{Layout}
use Rattle.report_lines.specs.Fields.{field, numbers_text}
use Rattle.report_lines.specs.Cells.{Cell, line_by, listed, number, number_if_any, or_null, time_if_any, word}
use Rattle.report_lines.specs.RouteLines.{entry_cells, peer_cell, prefix_cell, state_text}
use Rattle.rib_report.specs.Plain.{VisibilityRow, OriginRow, SeenRow}
use Rattle.rib_report.specs.Rows.{TableRow}
use Rattle.rib_report.specs.declared.reports.churn.ChurnRow.{ChurnRow}
use Rattle.rib_report.specs.declared.reports.peers.PeerRow.{PeerRow}

-- ---- entries

-- peer, key, and the fields of its route
abbrev pub row_cells : Layout → TableRow → List Cell
row_cells layout row = entry_cells layout row.peer row.key row.route

abbrev pub route_line : Layout → TableRow → List ℕ
route_line layout row = line_by layout.format (row_cells layout row)

-- ---- prefixes and peers

abbrev pub visibility_cells : Layout → VisibilityRow → List Cell
visibility_cells layout row = prefix_cell layout row.prefix ∷ number key.Peers row.peers ∷ []

abbrev pub visibility_line : Layout → VisibilityRow → List ℕ
visibility_line layout row = line_by layout.format (visibility_cells layout row)

abbrev pub origins_cell : List ℕ → Cell
origins_cell origins =
    record { column = column.Origins; text = numbers_text 32 origins; values = listed (map decimal origins) ∷ [] }

abbrev pub origin_cells : Layout → OriginRow → List Cell
origin_cells layout row = prefix_cell layout row.prefix ∷ origins_cell row.origins ∷ []

abbrev pub origin_line : Layout → OriginRow → List ℕ
origin_line layout row = line_by layout.format (origin_cells layout row)

abbrev pub origin_as_cell : Option ℕ → Cell
origin_as_cell origin =
    record { column = column.OriginAs; text = field decimal origin; values = or_null decimal origin ∷ [] }

abbrev pub seen_cells : Layout → SeenRow → List Cell
seen_cells layout row = prefix_cell layout row.prefix ∷ origin_as_cell row.origin ∷ number key.Peers row.peers ∷ []

abbrev pub seen_line : Layout → SeenRow → List ℕ
seen_line layout row = line_by layout.format (seen_cells layout row)

-- peer, new, changed, same, gone, void, resets, idle, refused, first and last time
abbrev pub churn_cells : Layout → ChurnRow → List Cell
churn_cells layout row = peer_cell layout row.peer
    ∷ number key.New row.churn.added ∷ number key.Changed row.churn.changed ∷ number key.Same row.churn.same
    ∷ number key.Gone row.churn.gone ∷ number key.Void row.churn.void ∷ number key.Resets row.churn.resets
    ∷ number key.Idle row.churn.idle ∷ number key.Refused row.churn.refused
    ∷ time_if_any key.First row.churn.first ∷ time_if_any key.Last row.churn.last ∷ []

abbrev pub churn_line : Layout → ChurnRow → List ℕ
churn_line layout row = line_by layout.format (churn_cells layout row)

-- a place's file from 1, its record's offset, and its entry, if it is that of one
abbrev pub file_of : Option Place → Option ℕ
file_of place = option_map (λ p. p.file + 1) place

abbrev pub offset_of : Option Place → Option ℕ
offset_of place = option_map (λ p. p.offset) place

abbrev pub entry_of : Option Place → Option ℕ
entry_of place = option_and_then (λ p. p.entry) place

-- peer, up or down, routes, units, first and last time, and the place of the first unit
abbrev pub peer_cells : Layout → PeerRow → List Cell
peer_cells layout row = peer_cell layout row.peer ∷ word key.State (state_text row.is_established)
    ∷ number key.Routes row.routes ∷ number key.Units row.units
    ∷ time_if_any key.First row.first ∷ time_if_any key.Last row.last
    ∷ number_if_any key.File (file_of row.place) ∷ number_if_any key.Offset (offset_of row.place)
    ∷ number_if_any key.Entry (entry_of row.place) ∷ []

abbrev pub peer_line : Layout → PeerRow → List ℕ
peer_line layout row = line_by layout.format (peer_cells layout row)

-- ---- faults

-- file from 1, offset, entry, number and name
abbrev pub fault_cells : Layout → Damage → List Cell
fault_cells layout d = number key.File (d.place.file + 1) ∷ number key.Offset d.place.offset
    ∷ number_if_any key.Entry d.place.entry ∷ number key.Number (fault_number d.fault)
    ∷ word key.Fault (fault_name d.fault) ∷ []

abbrev pub fault_line : Layout → Damage → List ℕ
fault_line layout d = line_by layout.format (fault_cells layout d)
