use Rattle.std.proofs.Common.{◌/◌, ◌%◌, arith}
use Rattle.command_line.proofs.Octets.{three_digits, is_three}
use Rattle.command_line.proofs.address.three_digits.Goals as goal

pub returns-in_err-digit-clause-none : goal.returns-in_err-digit-clause-none
returns-in_err-digit-clause-none c =
    rw c.from_residual.ensures (λ n o. let d = three_digits c.args.hundreds c.args.tens c.args.ones n o in c.in_err-digit.ensures.none (n / 100) d.0 (omega arith) (omega arith))

pub returns-in_err-digit-2-clause-none : goal.returns-in_err-digit-2-clause-none
returns-in_err-digit-2-clause-none c =
    rw c.from_residual-in_err-digit-2.ensures (λ n o. let d = three_digits c.args.hundreds c.args.tens c.args.ones n o in c.in_err-digit-2.ensures.none (n / 10 % 10) d.1 (omega arith) (omega arith))

pub returns-in_err-digit-3-clause-none : goal.returns-in_err-digit-3-clause-none
returns-in_err-digit-3-clause-none c =
    rw c.from_residual-in_err-digit-3.ensures (λ n o. let d = three_digits c.args.hundreds c.args.tens c.args.ones n o in c.in_err-digit-3.ensures.none (n % 10) d.2 (omega arith) (omega arith))

pub returns-then-number-lt256-clause-some : goal.returns-then-number-lt256-clause-some
returns-then-number-lt256-clause-some c =
    let a = c.in_ok-digit.ensures.some in
    let b = c.in_ok-digit-2.ensures.some in
    let d = c.in_ok-digit-3.ensures.some in
    is_three c.args.hundreds c.args.tens c.args.ones c.in_ok-digit.field-0 c.in_ok-digit-2.field-0 c.in_ok-digit-3.field-0 _ a.0 b.0 d.0 (omega arith) a.2 b.2 d.2 (omega arith) (omega arith)

pub returns-else-number-lt256-clause-none : goal.returns-else-number-lt256-clause-none
returns-else-number-lt256-clause-none c n o =
    let d = three_digits c.args.hundreds c.args.tens c.args.ones n o in
    let x = c.in_ok-digit.ensures.some in
    let y = c.in_ok-digit-2.ensures.some in
    let z = c.in_ok-digit-3.ensures.some in
    absurd (omega arith)
