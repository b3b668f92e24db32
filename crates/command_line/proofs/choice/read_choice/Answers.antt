use Rattle.std.proofs.Common.{subst, IfNone, List, ℕ}
use Rattle.command_line.specs.Choices.{IsNoChoice}
use Rattle.command_line.proofs.choice.read_choice.Goals as goal
use Rattle.command_line.specs.Families.{SpellsIn}

pub returns-clause-none : goal.returns-clause-none
returns-clause-none g c = subst (λ (l : List ℕ). IfNone c.choice_in.result (IsNoChoice (SpellsIn g.F.AddressText.FAMILY) g.F.Family.WIDTH l)) c.as_bytes.ensures.value c.choice_in.ensures.none
