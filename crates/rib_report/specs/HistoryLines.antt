-- The lines of what happened.
use Rattle.std.specs.Prelude.{ℕ, List, [], ◌∷◌, ◌++◌, codes}
use Rattle.adj_rib.specs.declared.outcome.What.{What}
use Rattle.adj_rib.specs.declared.outcome.What.TheVariants.{New, Changed, Same, Gone, Void, Lost}
use Rattle.peer_tables.specs.declared.history.By.{By}
use Rattle.peer_tables.specs.declared.history.By.TheVariants.{Rib, Update, State}
use Rattle.peer_tables.specs.Histories.{RowState}
use Rattle.report_request.specs.declared.column.Column.TheVariants as column
use Rattle.report_request.specs.declared.column.Key.TheVariants as key
use Rattle.report_request.specs.Plain.{Layout}
use Rattle.report_lines.specs.Cells.{Cell, line_by, word}
use Rattle.report_lines.specs.Fields.{time_text}
use Rattle.report_lines.specs.RouteLines.{key_cell, listed_cells, peer_cell}

abbrev pub what_text : What → List ℕ
what_text New = codes "new"
what_text Changed = codes "changed"
what_text Same = codes "same"
what_text Gone = codes "gone"
what_text Void = codes "void"
what_text Lost = codes "lost"

abbrev pub by_text : By → List ℕ
by_text Rib = codes "rib"
by_text Update = codes "update"
by_text State = codes "state"

abbrev pub moment : ℕ → Cell
moment time = record { column = column.Time; text = time_text time; values = time_text time ∷ [] }

-- time, peer, what happened, what brought it about, and key
abbrev pub event_cells : Layout → RowState → List Cell
event_cells layout row =
    moment row.time ∷ peer_cell layout row.peer ∷ word key.What (what_text row.what) ∷ word key.By (by_text row.by)
    ∷ key_cell layout row.key ∷ []

-- these, and the fields of its route
abbrev pub history_cells : Layout → RowState → List Cell
history_cells layout row = event_cells layout row ++ listed_cells layout row.route

abbrev pub history_line : Layout → RowState → List ℕ
history_line layout row = line_by layout.format (history_cells layout row)
