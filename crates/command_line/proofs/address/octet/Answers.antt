use Rattle.std.proofs.Common.{arith}
use Rattle.command_line.proofs.Octets.{few_digits}
use Rattle.command_line.proofs.address.octet.Goals as goal

pub returns-in_default-clause-none : goal.returns-in_default-clause-none
returns-in_default-clause-none c n o = let d = few_digits c.args.text.now n o in absurd (omega arith)

pub returns-in_default-2-clause-none : goal.returns-in_default-2-clause-none
returns-in_default-2-clause-none c n o = let d = few_digits c.args.text.now n o in absurd (omega arith)
