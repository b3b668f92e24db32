-- the ranges so far
use Rattle.std.proofs.Common.{◌≡◌, ◌<◌, ◌≤◌, map, take, length}
use Rattle.rib_report.specs.LineBlocks.{AreSuccessive, AreRanges, range_of}
use Rattle.rib_report.proofs.reports.tables.parallel.deal_entries.Given as goal

abbrev pub invariant-loop-at : goal.invariant-loop-at
invariant-loop-at l = record {
  from : l.start ≤ l.next;
  to : l.next ≤ l.count;
  len : length l.line_blocks ≡ length l.initial.line_blocks;
  ranges : AreRanges l.count (take l.at l.line_blocks);
  successive : AreSuccessive l.start (map range_of (take l.at l.line_blocks)) l.next;
  some : 0 < l.at → l.start < l.count → l.start < l.next;
}
