-- the blocks that are filled come next
use Rattle.std.proofs.Common.{◌<◌, ◌≤◌, ◌-◌, map, length}
use Rattle.std.specs.List.{All}
use Rattle.report_lines.specs.Texts.{Adds}
use Rattle.rib_report.specs.LineBlocks.{AreSuccessive, IsFilled, lines_between, range_of}
use Rattle.rib_report.proofs.reports.tables.parallel.put_by_line_blocks.Given as goal

abbrev pub invariant-loop-end : goal.invariant-loop-end
invariant-loop-end g l = record {
  size : 0 < l.size;
  writing : 0 < length l.writing.items;
  filling : 0 < length l.filling.items;
  order : l.start ≤ l.end;
  within : l.end ≤ length l.entries;
  filled : All (IsFilled l.peer l.entries) l.writing.items;
  successive : AreSuccessive l.start (map range_of l.writing.items) l.end;
  written : Adds (g.T.Text.state l.initial.text) (g.T.Text.state l.text) (lines_between l.peer 0 l.start l.entries);
}

abbrev pub decreases-loop-end : goal.decreases-loop-end
decreases-loop-end g l = length l.entries - l.end
