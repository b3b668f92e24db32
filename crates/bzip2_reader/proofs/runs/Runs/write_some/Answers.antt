use Rattle.std.proofs.Common.{arith}
use Rattle.bzip2_reader.proofs.RunLaws.{none_left}
use Rattle.bzip2_reader.proofs.runs.Runs.write_some.Goals as goal

pub returns-clause-ends : goal.returns-clause-ends
returns-clause-ends c = λ _. none_left c.args.text.now c.args.self.now (omega (arith, c.if-self-gt0.false)) (omega (arith, c.if-self-text.false))
