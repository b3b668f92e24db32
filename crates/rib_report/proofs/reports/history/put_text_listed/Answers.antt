use Rattle.std.proofs.Common.{Option, ap, sym}
use Rattle.bgp_update.specs.declared.route.Route.{Route}
use Rattle.report_request.specs.declared.format.Format.TheVariants.{Text}
use Rattle.report_lines.specs.LineParts.{listed_behind}
use Rattle.report_lines.proofs.TextLaws.{Adds_as, Adds_trans}
use Rattle.rib_report.proofs.reports.history.put_text_listed.Goals as goal

pub returns-in-None : goal.returns-in-None
returns-in-None g c =
    Adds_as (ap (λ (o : Option Route). listed_behind Text c.args.layout o) (sym c.in-None.is)) (Adds_trans c.put_text.ensures (rw c.none.ensures at c.put_line_end.ensures))
