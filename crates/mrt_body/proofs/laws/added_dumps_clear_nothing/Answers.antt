use Rattle.mrt_body.proofs.RuleLaws.{units_recorded}
use Rattle.mrt_body.proofs.laws.added_dumps_clear_nothing.Goals as goal

pub returns : goal.returns
returns c = units_recorded
