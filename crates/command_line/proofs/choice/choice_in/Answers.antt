use Rattle.command_line.proofs.choice.choice_in.Goals as goal

pub returns-in_err-prefix-clause-none : goal.returns-in_err-prefix-clause-none
returns-in_err-prefix-clause-none g c = rw c.from_residual.ensures (λ choice s. c.in_err-prefix.ensures.none choice.prefix choice.reach s)
