use Rattle.std.proofs.Common.{◌/◌, ◌%◌, arith}
use Rattle.command_line.proofs.Octets.{two_digits, is_two}
use Rattle.command_line.proofs.address.two_digits.Goals as goal

pub returns-in_err-tens-clause-none : goal.returns-in_err-tens-clause-none
returns-in_err-tens-clause-none c =
    rw c.from_residual.ensures (λ n o. let d = two_digits c.args.tens c.args.ones n o in c.in_err-tens.ensures.none (n / 10) d.0 (omega arith) (omega (arith, o.below)))

pub returns-in_err-ones-clause-none : goal.returns-in_err-ones-clause-none
returns-in_err-ones-clause-none c =
    rw c.from_residual-in_err-ones.ensures (λ n o. let d = two_digits c.args.tens c.args.ones n o in c.in_err-ones.ensures.none (n % 10) d.1 (omega arith) (omega arith))

pub returns-clause-some : goal.returns-clause-some
returns-clause-some c =
    let a = c.in_ok-tens.ensures.some in
    let b = c.in_ok-ones.ensures.some in
    is_two c.args.tens c.args.ones c.in_ok-tens.tens c.in_ok-ones.ones _ a.0 b.0 (omega arith) a.2 b.2 (omega arith)
