use Rattle.report_lines.proofs.TextLaws.{Adds_trans}
use Rattle.report_lines.proofs.route_line.put_text_route.Goals as goal

pub returns : goal.returns
returns g c = rw (← c.path.ensures) (Adds_trans c.put_path.ensures c.put_attributes.ensures)
