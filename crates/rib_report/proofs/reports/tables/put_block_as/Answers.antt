use Rattle.rib_report.specs.Lines.{route_line}
use Rattle.rib_report.specs.Reports.{entry_row}
use Rattle.report_lines.proofs.JoinLaws.{Adds_item, Adds_items}
use Rattle.rib_report.proofs.reports.tables.put_block_as.Goals as goal

pub loop-entry-preserved : goal.loop-entry-preserved
loop-entry-preserved g c =
    let e = c.entry-item.result in
    Adds_item (λ e. route_line c.args.peer.now.layout (entry_row c.args.peer.now.key e)) c.args.block.now c.loop-entry.entry-index e c.loop-entry-test.true c.entry-item.is c.loop-entry.invariant
    c.put_row.ensures

pub returns : goal.returns
returns g c = Adds_items (λ e. route_line c.args.peer.now.layout (entry_row c.args.peer.now.key e)) c.args.block.now c.loop-entry.entry-index c.loop-entry-test.false c.loop-entry.invariant
