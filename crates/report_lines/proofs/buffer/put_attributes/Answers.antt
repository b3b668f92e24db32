use Rattle.std.proofs.Common.{◌++◌, ◌∙◌, sym, ap, rules}
use Rattle.ip_text.proofs.FormatLaws.{Formats_trans}
use Rattle.report_request.specs.declared.format.Format.TheVariants.{Text}
use Rattle.report_lines.specs.LineParts.{attribute_fields}
use Rattle.report_lines.proofs.TextLaws.{Adds_as, Adds_formatted, Adds_trans}
use Rattle.report_lines.proofs.KeptColumns.{no_columns}
use Rattle.report_lines.proofs.buffer.put_attributes.Goals as goal

pub returns-then-is_empty : goal.returns-then-is_empty
returns-then-is_empty g c =
    let layout = c.args.layout in
    let route = c.args.route.now in
    Adds_as (ap (λ l. attribute_fields layout route ++ l) (sym (no_columns Text layout.attributes route.kept (sym c.is_empty.ensures ∙ c.if-is_empty.true))))
    (Adds_formatted c.make_room.ensures.adds (Formats_trans c.format_attributes-at.ensures c.format_byte-buffer-inside.ensures) (search rules) (search rules))

pub returns-else-is_empty : goal.returns-else-is_empty
returns-else-is_empty g c =
    Adds_trans (Adds_formatted c.make_room.ensures.adds c.format_attributes-at.ensures (search rules) (search rules)) c.put_route_end.ensures
