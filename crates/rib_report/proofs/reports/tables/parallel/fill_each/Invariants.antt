-- the blocks so far
use Rattle.std.proofs.Common.{◌≡◌, map, take, length}
use Rattle.std.specs.List.{All}
use Rattle.rib_report.specs.LineBlocks.{AreRanges, IsFilled, range_of}
use Rattle.rib_report.proofs.reports.tables.parallel.fill_each.Given as goal

abbrev pub invariant-loop-at : goal.invariant-loop-at
invariant-loop-at g l = record {
  within : AreRanges (length l.entries) l.line_blocks;
  ranges : map range_of l.line_blocks ≡ map range_of l.initial.line_blocks;
  filled : All (IsFilled l.peer l.entries) (take l.at l.line_blocks);
}
