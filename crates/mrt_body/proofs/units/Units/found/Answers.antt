use Rattle.std.proofs.Common.{rules}
use Rattle.mrt_body.proofs.units.Units.found.Goals as goal
use Rattle.mrt_body.proofs.units.Units.found.Goals.{then-self, else-self}

pub returns-in-Err-found-clause-stays : goal.returns-in-Err-found-clause-stays
returns-in-Err-found-clause-stays g c =
    elim c.if-self.branch [ then-self w ↦ search rules | else-self w ↦ search rules ]
