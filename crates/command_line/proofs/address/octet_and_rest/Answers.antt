use Rattle.std.proofs.Common.{◌+◌, sym}
use Rattle.command_line.proofs.Points.{point_behind, front_of, rest_of, cut_at, to_the_end}
use Rattle.command_line.proofs.address.octet_and_rest.Goals as goal

pub returns-in_err-point-clause-none : goal.returns-in_err-point-clause-none
returns-in_err-point-clause-none c = rw c.from_residual.ensures (λ n rest s. let at = point_behind c.args.text.now n rest s in let none = c.in_err-point.ensures in absurd cc)

pub returns-in_err-number-clause-none : goal.returns-in_err-number-clause-none
returns-in_err-number-clause-none c = rw c.from_residual-in_err-number.ensures (λ n rest s. c.in_err-number.ensures.none n (front_of c.args.text.now n rest c.in_ok-point.point s (sym c.in_ok-point.ensures)))

pub returns-clause-some : goal.returns-clause-some
returns-clause-some c = rw (to_the_end (c.in_ok-point.point + 1) c.args.text.now) (cut_at c.args.text.now c.in_ok-number.number c.in_ok-point.point (sym c.in_ok-point.ensures) c.in_ok-number.ensures.some)

pub returns-clause-rest : goal.returns-clause-rest
returns-clause-rest c n rest s = rw (to_the_end (c.in_ok-point.point + 1) c.args.text.now) (rest_of c.args.text.now n rest c.in_ok-point.point s (sym c.in_ok-point.ensures))
