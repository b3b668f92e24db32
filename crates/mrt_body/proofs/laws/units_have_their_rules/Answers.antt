use Rattle.mrt_body.proofs.RuleLaws.{units_by_rules}
use Rattle.mrt_body.proofs.laws.units_have_their_rules.Goals as goal

pub returns : goal.returns
returns c = units_by_rules
