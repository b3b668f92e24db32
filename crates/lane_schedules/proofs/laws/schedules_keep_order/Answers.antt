use Rattle.lane_schedules.proofs.ScheduleLaws.{IsShared-after_turns, taken_whole}
use Rattle.lane_schedules.proofs.laws.schedules_keep_order.Goals as goal

pub returns : goal.returns
returns c = record { shared = IsShared-after_turns; whole = taken_whole }
