-- The line of what happened in the parts in which it is written.
use Rattle.std.proofs.Common.{◌≡◌, List, ℕ, [], ◌∷◌, ◌++◌, Option, Some, None, refl}
use Rattle.bgp_update.specs.declared.route.Route.{Route}
use Rattle.report_request.specs.declared.format.Format.{Format}
use Rattle.report_request.specs.Plain.{Layout}
use Rattle.peer_tables.specs.Histories.{RowState}
use Rattle.report_lines.specs.Cells.{Cell, all_members, line_by, texts}
use Rattle.rib_report.specs.HistoryLines.{event_cells}
use Rattle.report_lines.specs.RouteLines.{listed_cells, no_route, attribute_cells, path_cell}
use Rattle.report_lines.specs.LineParts.{line_front, listed_behind}
use Rattle.report_lines.proofs.RowLines.{line_in_parts}

cells_in_parts : (format : Format) (layout : Layout) (cells : List Cell) (route : Option Route) (t m : List ℕ) (ts ms : List (List ℕ))
    → texts cells ≡ t ∷ ts → all_members cells ≡ m ∷ ms
    → line_front format cells ++ listed_behind format layout route ≡ line_by format (cells ++ listed_cells layout route)
cells_in_parts format layout cells None t m ts ms fields objects = line_in_parts format cells no_route layout.attributes [] t m ts ms fields objects
cells_in_parts format layout cells (Some route) t m ts ms fields objects =
    line_in_parts format cells (path_cell route.path ∷ attribute_cells layout route) layout.attributes route.kept t m ts ms fields objects

pub history_in_parts : (format : Format) (layout : Layout) (row : RowState)
    → line_front format (event_cells layout row) ++ listed_behind format layout row.route
    ≡ line_by format (event_cells layout row ++ listed_cells layout row.route)
history_in_parts format layout row = cells_in_parts format layout (event_cells layout row) row.route _ _ _ _ refl refl
