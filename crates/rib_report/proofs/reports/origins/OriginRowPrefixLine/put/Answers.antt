use Rattle.std.proofs.Common.{◌∙◌, ◌∷◌, [], ap, sym}
use Rattle.report_lines.specs.Cells.{line_by}
use Rattle.rib_report.specs.Lines.{origins_cell}
use Rattle.report_lines.specs.RouteLines.{prefix_cell}
use Rattle.report_lines.proofs.TextLaws.{Adds_as, Adds_trans}
use Rattle.rib_report.proofs.OriginParts.{origins_in_json}
use Rattle.rib_report.proofs.reports.origins.OriginRowPrefixLine.put.Goals as goal

pub returns-in-Json : goal.returns-in-Json
returns-in-Json g c =
    let layout = c.args.layout.now in
    let row = c.args.self.now in
    Adds_as (origins_in_json layout row.prefix row.origins ∙ ap (λ f. line_by f (prefix_cell layout row.prefix ∷ origins_cell row.origins ∷ [])) (sym c.in-Json.is))
    (rw (← c.as_slice-in-Json.ensures) (Adds_trans c.put-in-Json.ensures (Adds_trans c.put_text.ensures (Adds_trans c.put_numbers-in-Json.ensures c.put_text-in-Json.ensures))))
