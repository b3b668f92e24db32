use Rattle.std.proofs.Common.{◌++◌, ◌∙◌, ap, subst, sym}
use Rattle.report_request.specs.declared.format.Format.TheVariants.{Text}
use Rattle.report_lines.specs.Cells.{line_by}
use Rattle.report_lines.specs.LineParts.{attribute_fields, line_end}
use Rattle.report_lines.specs.RouteLines.{entry_cells}
use Rattle.report_lines.specs.Texts.{Adds}
use Rattle.report_lines.proofs.TextLaws.{Adds_trans, Adds_as}
use Rattle.report_lines.proofs.RowLines.{text_row_in_parts}
use Rattle.report_lines.proofs.route_line.AsTextRowFormat.put_row.Goals as goal

pub returns : goal.returns
returns g c =
    let peer = c.args.peer.now in
    let route = c.args.route.now in
    let key = c.args.key.now in
    let ended = subst (λ l. Adds (g.T.Text.state c.put_path.new.text) (g.T.Text.state c.put_attributes.new.text) (attribute_fields l route ++ line_end Text l.attributes route.kept)) c.layout.ensures c.put_attributes.ensures in
    Adds_as (text_row_in_parts peer.layout peer.key key route ∙ ap (λ f. line_by f (entry_cells peer.layout peer.key key route)) (sym c.requires))
    (rw (← c.path.ensures) (Adds_trans c.put_peer_and_key.ensures (Adds_trans c.put_path.ensures ended)))
