use Rattle.std.proofs.Common.{ap}
use Rattle.rib_report.specs.Rows.{table_row}
use Rattle.rib_report.specs.Lines.{route_line}
use Rattle.report_lines.specs.Plain.{ShownPeer}
use Rattle.report_lines.proofs.TextLaws.{Adds_as}
use Rattle.rib_report.proofs.reports.tables.TableRowPrefixLine.put.Goals as goal

pub returns : goal.returns
returns g c =
    let row = table_row c.args.self.now in
    Adds_as (ap (λ (p : ShownPeer). route_line p.layout (record { peer = p.key; key = row.key; route = row.route })) c.peer_text-peer_text.ensures) c.put_row.ensures
