use Rattle.std.proofs.Common.{decimal, subst, arith}
use Rattle.report_lines.specs.Texts.{Adds}
use Rattle.report_lines.proofs.TextLaws.{Adds_trans}
use Rattle.report_lines.proofs.JoinLaws.{join_first_rest}
use Rattle.report_lines.proofs.numbers.put_numbers.Goals as goal

pub returns : goal.returns
returns g c = subst (Adds _ _) (join_first_rest c.args.separator decimal c.args.numbers.now 0 c.loop-number.number-index (omega arith) c.loop-number-test.false) (Adds_trans c.put.ensures c.loop-number.invariant)
