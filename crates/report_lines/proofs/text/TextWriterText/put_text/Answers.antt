use Rattle.std.proofs.Common.{rules}
use Rattle.report_lines.proofs.TextLaws.{Adds_trans, Adds_written, Adds_unwritten}
use Rattle.report_lines.proofs.text.TextWriterText.put_text.Goals as goal

pub returns-in-Ok : goal.returns-in-Ok
returns-in-Ok g c = Adds_trans c.hand_on.ensures.adds (Adds_written (search rules) (search rules) (search rules) (search rules) (search rules) (search rules) (search rules))

pub returns-in-Err : goal.returns-in-Err
returns-in-Err g c = Adds_trans c.hand_on.ensures.adds (Adds_unwritten (search rules) (search rules) (search rules) (search rules) (search rules) (search rules))
