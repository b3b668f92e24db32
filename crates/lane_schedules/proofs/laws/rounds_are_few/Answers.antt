use Rattle.lane_schedules.proofs.RoundCounts.{few_rounds}
use Rattle.lane_schedules.proofs.laws.rounds_are_few.Goals as goal

pub returns : goal.returns
returns c = few_rounds
