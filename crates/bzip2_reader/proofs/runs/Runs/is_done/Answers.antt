use Rattle.std.proofs.Common.{arith}
use Rattle.bzip2_reader.proofs.RunLaws.{none_left, some_owed, some_there}
use Rattle.bzip2_reader.proofs.runs.Runs.is_done.Goals as goal

pub returns-then-self-gt0-clause-no : goal.returns-then-self-gt0-clause-no
returns-then-self-gt0-clause-no c = λ _ settled. some_owed c.args.text.now c.args.self.now (omega (arith, c.if-self-gt0.true))

pub returns-then-self-text-clause-no : goal.returns-then-self-text-clause-no
returns-then-self-text-clause-no c = λ _ settled. some_there c.args.text.now c.args.self.now settled (omega (arith, c.if-self-gt0.false)) (omega (arith, c.if-self-text.true))

pub returns-clause-yes : goal.returns-clause-yes
returns-clause-yes c = λ _. none_left c.args.text.now c.args.self.now (omega (arith, c.if-self-gt0.false)) (omega (arith, c.if-self-text.false))
