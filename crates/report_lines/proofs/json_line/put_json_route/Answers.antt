use Rattle.std.proofs.Common.{◌++◌, ◌∙◌, ◌∷◌, [], ap, sym}
use Rattle.report_request.specs.declared.format.Format.TheVariants.{Json}
use Rattle.report_lines.specs.RouteLines.{attribute_cells, path_cell}
use Rattle.report_lines.specs.LineParts.{cells_behind}
use Rattle.report_lines.proofs.TextLaws.{Adds_as, Adds_trans}
use Rattle.report_lines.proofs.KeptColumns.{no_columns}
use Rattle.report_lines.proofs.RowLines.{json_behind_key}
use Rattle.report_lines.proofs.json_line.put_json_route.Goals as goal

pub returns-then-is_empty : goal.returns-then-is_empty
returns-then-is_empty g c =
    let layout = c.args.layout in
    let route = c.args.route.now in
    Adds_as (ap (λ l. cells_behind Json (path_cell route.path ∷ []) ++ (cells_behind Json (attribute_cells layout route) ++ l)) (sym (no_columns Json layout.attributes route.kept (sym c.is_empty.ensures ∙ c.if-is_empty.true)))
    ∙ json_behind_key layout route)
    (Adds_trans c.put_path_members.ensures (Adds_trans c.put_attribute_members.ensures c.put_text.ensures))

pub returns-else-is_empty : goal.returns-else-is_empty
returns-else-is_empty g c =
    Adds_as (json_behind_key c.args.layout c.args.route.now) (Adds_trans c.put_path_members.ensures (Adds_trans c.put_attribute_members.ensures c.put_route_end.ensures))
