use Rattle.std.proofs.Common.{arith, ap, take}
use Rattle.std.specs.List.{between}
use Rattle.report_lines.specs.Plain.{ShownPeer}
use Rattle.rib_report.specs.Listings.{reached_lines}
use Rattle.report_lines.proofs.TextLaws.{Adds_as}
use Rattle.rib_report.proofs.LineBlockLists.{Adds_some, no_lines}
use Rattle.rib_report.proofs.reports.tables.line_block.put_while_fitting.Goals as goal

pub returns-then-done-next-clause-lines : goal.returns-then-done-next-clause-lines
returns-then-done-next-clause-lines g c =
    Adds_some c.args.peer.now c.args.entries.now c.args.start c.loop-done.done c.min-next.result c.put_fitting-count.result c.loop-done.invariant.from (omega arith) c.loop-done.invariant.written (Adds_as (ap (λ (p : ShownPeer). reached_lines p (take c.put_fitting-count.result (between c.loop-done.done c.min-next.result c.args.entries.now))) c.peer_text-peer_text.ensures) c.put_fitting-count.ensures.lines)

pub loop-done-init : goal.loop-done-init
loop-done-init g c = record {
  from = omega arith;
  to = c.requires.0;
  goes_on = omega arith;
  written = no_lines c.args.peer.now c.args.entries.now c.args.start;
}

pub loop-done-preserved : goal.loop-done-preserved
loop-done-preserved g c = record {
  from = omega (arith, c.loop-done.invariant.from);
  to = omega arith;
  goes_on = c.prefetch_entries-writing.ensures;
  written = Adds_some c.args.peer.now c.args.entries.now c.args.start c.loop-done.done c.min-next.result c.put_fitting-count.result c.loop-done.invariant.from (omega arith) c.loop-done.invariant.written (Adds_as (ap (λ (p : ShownPeer). reached_lines p (take c.put_fitting-count.result (between c.loop-done.done c.min-next.result c.args.entries.now))) c.peer_text-peer_text.ensures) c.put_fitting-count.ensures.lines);
}
