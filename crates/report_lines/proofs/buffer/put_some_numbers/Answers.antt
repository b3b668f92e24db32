use Rattle.std.proofs.Common.{rules}
use Rattle.report_lines.proofs.TextLaws.{Adds_formatted}
use Rattle.report_lines.proofs.buffer.put_some_numbers.Goals as goal

pub returns : goal.returns
returns g c = Adds_formatted c.make_room.ensures.adds c.format_numbers-buffer-inside.ensures (search rules) (search rules)
