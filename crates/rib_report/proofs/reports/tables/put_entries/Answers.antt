use Rattle.std.proofs.Common.{arith, ap}
use Rattle.std.specs.List.{between}
use Rattle.report_lines.specs.Plain.{ShownPeer}
use Rattle.rib_report.specs.Listings.{reached_lines}
use Rattle.report_lines.proofs.TextLaws.{Adds_as}
use Rattle.rib_report.specs.Lines.{route_line}
use Rattle.rib_report.specs.Reports.{entry_row}
use Rattle.report_lines.proofs.JoinLaws.{Adds_range, Adds_items, Adds_failed}
use Rattle.rib_report.proofs.reports.tables.put_entries.Goals as goal

pub returns-then-has_failed : goal.returns-then-has_failed
returns-then-has_failed g c = Adds_failed (λ e. route_line c.args.peer.now.layout (entry_row c.args.peer.now.key e)) c.args.entries.now c.loop-done.done c.loop-done.invariant.written cc

pub loop-done-preserved : goal.loop-done-preserved
loop-done-preserved g c = record {
  within = omega arith;
  goes_on = c.prefetch_entries-near.ensures;
  written = Adds_range (λ e. route_line c.args.peer.now.layout (entry_row c.args.peer.now.key e)) c.args.entries.now c.loop-done.done c.min-end.result (omega arith) c.loop-done.invariant.written (Adds_as (ap (λ (p : ShownPeer). reached_lines p (between c.loop-done.done c.min-end.result c.args.entries.now)) c.peer_text-peer_text.ensures) c.put_block.ensures);
}

pub returns : goal.returns
returns g c = Adds_items (λ e. route_line c.args.peer.now.layout (entry_row c.args.peer.now.key e)) c.args.entries.now c.loop-done.done c.loop-done-test.false c.loop-done.invariant.written
