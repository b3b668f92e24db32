use Rattle.std.proofs.Common.{arith}
use Rattle.lane_schedules.proofs.ScheduleRuns.{took_from}
use Rattle.lane_schedules.proofs.schedule.take_from.Goals as goal

pub returns : goal.returns
returns g c = took_from c.take_one.result c.args.lanes.now c.args.lane c.index-lanes-lane.result c.take_one.new.lane (omega arith) c.take_one.ensures
