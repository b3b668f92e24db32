use Rattle.std.proofs.Common.{arith}
use Rattle.report_lines.proofs.TextLaws.{output_whole, output_cut_off}
use Rattle.report_lines.proofs.text.finish.Goals as goal

pub returns-then-has_failed-clause-output : goal.returns-then-has_failed-clause-output
returns-then-has_failed-clause-output g c = λ contents failures whole h. output_cut_off contents failures whole c.make_room.ensures.adds (cc) h

pub returns-clause-output : goal.returns-clause-output
returns-clause-output g c = λ contents failures whole h. output_whole contents failures whole c.make_room.ensures.adds (omega (arith, c.make_room.ensures.room)) (cc) h
