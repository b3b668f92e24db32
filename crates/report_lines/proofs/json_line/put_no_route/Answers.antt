use Rattle.report_lines.proofs.TextLaws.{Adds_trans}
use Rattle.report_lines.proofs.json_line.put_no_route.Goals as goal

pub returns : goal.returns
returns g c =
    Adds_trans c.put_text.ensures (Adds_trans c.put_text-2.ensures (Adds_trans c.put_text-3.ensures (rw c.none.ensures at c.put_line_end.ensures)))
