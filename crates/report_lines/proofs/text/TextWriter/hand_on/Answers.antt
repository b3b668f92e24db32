use Rattle.std.proofs.Common.{rules}
use Rattle.report_lines.proofs.TextLaws.{Adds_lost}
use Rattle.report_lines.proofs.text.TextWriter.hand_on.Goals as goal

pub returns-in-Err-clause-adds : goal.returns-in-Err-clause-adds
returns-in-Err-clause-adds g c = Adds_lost (search rules) (search rules) (search rules) (search rules) (search rules)
