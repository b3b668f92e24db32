use Rattle.std.proofs.Common.{ap, sym}
use Rattle.report_lines.specs.Cells.{line_by}
use Rattle.report_lines.specs.RouteLines.{entry_cells}
use Rattle.report_lines.proofs.TextLaws.{Adds_as}
use Rattle.report_lines.proofs.route_line.AsJsonRowFormat.put_row.Goals as goal

pub returns : goal.returns
returns g c =
    let peer = c.args.peer.now in
    Adds_as (ap (λ f. line_by f (entry_cells peer.layout peer.key c.args.key.now c.args.route.now)) (sym c.requires)) c.put_json_row.ensures
