-- the rows of the entries so far
use Rattle.std.proofs.Common.{◌≡◌, ◌++◌, map, take}
use Rattle.rib_report.specs.Rows.{table_row}
use Rattle.rib_report.specs.Reports.{entry_row}
use Rattle.rib_report.proofs.reports.tables.add_entries.Given as goal

abbrev pub invariant-loop-entry : goal.invariant-loop-entry
invariant-loop-entry g l = map table_row l.rows.items ≡ map table_row l.fn.rows.items ++ map (entry_row l.peer) (take l.entry-index l.entry-items)
