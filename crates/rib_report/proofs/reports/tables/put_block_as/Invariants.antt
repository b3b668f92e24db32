-- the lines so far
use Rattle.std.proofs.Common.{take}
use Rattle.report_lines.specs.Texts.{Adds}
use Rattle.rib_report.specs.Listings.{reached_lines}
use Rattle.rib_report.proofs.reports.tables.put_block_as.Given as goal

abbrev pub invariant-loop-entry : goal.invariant-loop-entry
invariant-loop-entry g l = Adds (g.T.Text.state l.initial.text) (g.T.Text.state l.text) (reached_lines l.peer (take l.entry-index l.block))
