use Rattle.rib_report.specs.Lines.{route_line}
use Rattle.rib_report.specs.Reports.{entry_row}
use Rattle.report_lines.proofs.JoinLaws.{Adds_item}
use Rattle.rib_report.proofs.reports.tables.line_block.put_fitting_as.Goals as goal

pub loop-at-preserved : goal.loop-at-preserved
loop-at-preserved g c =
    let e = c.index-entries-at.result in
    Adds_item (λ e. route_line c.args.peer.now.layout (entry_row c.args.peer.now.key e)) c.args.entries.now c.loop-at.at e c.loop-at-test.true c.index-entries-at.is c.loop-at.invariant
    c.put_row.ensures
