use Rattle.report_lines.proofs.TextLaws.{Adds_trans}
use Rattle.report_lines.proofs.route_line.put_enclosed.Goals as goal

pub returns : goal.returns
returns g c = Adds_trans c.put.ensures (Adds_trans c.put_segment_numbers.ensures c.put-2.ensures)
