use Rattle.bgp_update.specs.KeptAttributes.{all_kept}
use Rattle.report_lines.specs.KeptTexts.{cell_if_asked}
use Rattle.report_lines.proofs.TextLaws.{Adds_as}
use Rattle.report_lines.proofs.KeptColumns.{behind_each}
use Rattle.report_lines.proofs.kept_columns.put_columns.Goals as goal

pub returns : goal.returns
returns g c = Adds_as (behind_each c.args.format (cell_if_asked c.args.asked c.args.kept.now) all_kept) c.put_each_column.ensures
