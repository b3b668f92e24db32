-- the lines so far end where the next block begins
use Rattle.std.proofs.Common.{ℕ, ◌≤◌, map, drop}
use Rattle.report_lines.specs.Texts.{Adds}
use Rattle.rib_report.specs.LineBlocks.{AreSuccessive, lines_between, range_of}
use Rattle.rib_report.proofs.reports.tables.parallel.put_line_blocks.Given as goal

abbrev pub invariant-loop-line_block : goal.invariant-loop-line_block
invariant-loop-line_block g l =
    (at : ℕ) × (l.start ≤ at) × AreSuccessive at (map range_of (drop l.line_block-index l.line_blocks)) l.end
    × Adds (g.T.Text.state l.initial.text) (g.T.Text.state l.text) (lines_between l.peer l.start at l.entries)
