-- the columns so far
use Rattle.std.proofs.Common.{take}
use Rattle.std.specs.List.{flat_map}
use Rattle.report_lines.specs.Texts.{Adds}
use Rattle.report_lines.specs.KeptTexts.{cell_if_asked}
use Rattle.report_lines.specs.LineParts.{cells_behind}
use Rattle.report_lines.proofs.kept_columns.put_each_column.Given as goal

abbrev pub invariant-loop-attribute : goal.invariant-loop-attribute
invariant-loop-attribute g l =
    Adds (g.T.Text.state l.initial.text) (g.T.Text.state l.text)
    (flat_map (λ a. cells_behind l.format (cell_if_asked l.asked l.kept a)) (take l.attribute-index l.attributes))
