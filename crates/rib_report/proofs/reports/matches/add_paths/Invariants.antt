-- the rows of the paths so far
use Rattle.std.proofs.Common.{◌≡◌, ◌++◌, map, take}
use Rattle.rib_report.specs.Rows.{table_row}
use Rattle.rib_report.specs.Reports.{path_row}
use Rattle.rib_report.proofs.reports.matches.add_paths.Given as goal

abbrev pub invariant-loop-path : goal.invariant-loop-path
invariant-loop-path g l = map table_row l.rows.items ≡ map table_row l.initial.rows.items ++ map (path_row l.peer l.prefix) (take l.path-index l.path-items)
