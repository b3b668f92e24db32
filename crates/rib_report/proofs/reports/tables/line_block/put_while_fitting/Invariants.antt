-- the lines so far
use Rattle.std.proofs.Common.{◌<◌, ◌≤◌, ◌-◌}
use Rattle.report_lines.specs.Texts.{Adds}
use Rattle.rib_report.specs.LineBlocks.{lines_between}
use Rattle.rib_report.proofs.reports.tables.line_block.put_while_fitting.Given as goal

abbrev pub invariant-loop-done : goal.invariant-loop-done
invariant-loop-done g l = record {
  from : l.start ≤ l.done;
  to : l.done ≤ l.end;
  goes_on : 0 < l.writing;
  written : Adds (g.T.Text.state l.initial.text) (g.T.Text.state l.text) (lines_between l.peer l.start l.done l.entries);
}

abbrev pub decreases-loop-done : goal.decreases-loop-done
decreases-loop-done g l = l.end - l.done
