use Rattle.mrt_body.proofs.RuleLaws.{units_by}
use Rattle.mrt_body.proofs.laws.units_have_their_rule.Goals as goal

pub returns : goal.returns
returns c = units_by
