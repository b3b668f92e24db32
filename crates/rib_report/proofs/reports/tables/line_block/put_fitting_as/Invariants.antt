-- the lines so far
use Rattle.std.proofs.Common.{take}
use Rattle.report_lines.specs.Texts.{Adds}
use Rattle.rib_report.specs.Listings.{reached_lines}
use Rattle.rib_report.proofs.reports.tables.line_block.put_fitting_as.Given as goal

abbrev pub invariant-loop-at : goal.invariant-loop-at
invariant-loop-at g l = Adds (g.T.Text.state l.initial.text) (g.T.Text.state l.text) (reached_lines l.peer (take l.at l.entries))
