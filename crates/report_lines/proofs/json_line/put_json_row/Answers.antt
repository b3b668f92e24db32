use Rattle.std.proofs.Common.{◌∷◌, ◌++◌, [], ap}
use Rattle.report_request.specs.declared.format.Format.TheVariants.{Json}
use Rattle.report_lines.specs.RouteLines.{attribute_cells, key_cell, path_cell, peer_cell}
use Rattle.report_lines.specs.LineParts.{cells_behind, line_end, line_front}
use Rattle.report_lines.specs.Plain.{ShownPeer}
use Rattle.report_lines.proofs.TextLaws.{Adds_as, Adds_trans}
use Rattle.report_lines.proofs.RowLines.{json_row_in_parts}
use Rattle.report_lines.proofs.json_line.put_json_row.Goals as goal

pub returns : goal.returns
returns g c =
    let peer = c.args.peer_text.now in
    let key = c.args.key.now in
    let route = c.args.route.now in
    Adds_as (json_row_in_parts peer.layout peer.key key route) (Adds_trans
    (Adds_as (ap (λ (p : ShownPeer). line_front Json (peer_cell p.layout p.key ∷ key_cell p.layout key ∷ [])) c.peer.ensures) c.put_json_front.ensures)
    (Adds_as (ap (λ (p : ShownPeer). cells_behind Json (path_cell route.path ∷ attribute_cells p.layout route) ++ line_end Json p.layout.attributes route.kept) c.peer.ensures) c.put_json_route.ensures))
