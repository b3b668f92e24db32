-- the lines so far
use Rattle.std.proofs.Common.{◌<◌, ◌≤◌, ◌-◌, length, take}
use Rattle.report_lines.specs.Texts.{Adds}
use Rattle.rib_report.specs.Listings.{reached_lines}
use Rattle.rib_report.proofs.reports.tables.put_entries.Given as goal

abbrev pub invariant-loop-done : goal.invariant-loop-done
invariant-loop-done g l = record {
  within : l.done ≤ length l.entries;
  goes_on : 0 < l.near;
  written : Adds (g.T.Text.state l.initial.text) (g.T.Text.state l.text) (reached_lines l.peer (take l.done l.entries));
}

abbrev pub decreases-loop-done : goal.decreases-loop-done
decreases-loop-done g l = length l.entries - l.done
