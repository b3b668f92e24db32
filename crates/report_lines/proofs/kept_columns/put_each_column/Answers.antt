use Rattle.std.proofs.Common.{get_or}
use Rattle.std.proofs.lemmas.List.{get_or_default}
use Rattle.bgp_update.specs.declared.kept_attribute.KeptAttribute.{KeptAttribute}
use Rattle.bgp_update.specs.declared.kept_attribute.KeptAttribute.TheVariants.{Communities}
use Rattle.report_lines.specs.KeptTexts.{cell_if_asked}
use Rattle.report_lines.specs.LineParts.{cells_behind}
use Rattle.report_lines.proofs.JoinLaws.{Adds_item, Adds_items}
use Rattle.report_lines.proofs.kept_columns.put_each_column.Goals as goal

pub loop-attribute-preserved : goal.loop-attribute-preserved
loop-attribute-preserved g c =
    let attributes = c.args.attributes.now in
    let i = c.loop-attribute.attribute-index in
    let attribute : KeptAttribute = get_or attributes i Communities in
    Adds_item (λ a. cells_behind c.args.format (cell_if_asked c.args.asked c.args.kept.now a)) attributes i attribute c.loop-attribute-test.true
    (get_or_default attributes i Communities attribute c.loop-attribute-test.true) c.loop-attribute.invariant c.put_if_asked.ensures

pub returns : goal.returns
returns g c = Adds_items (λ a. cells_behind c.args.format (cell_if_asked c.args.asked c.args.kept.now a)) c.args.attributes.now c.loop-attribute.attribute-index c.loop-attribute-test.false c.loop-attribute.invariant
