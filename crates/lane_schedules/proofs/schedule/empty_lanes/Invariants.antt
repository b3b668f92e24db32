use Rattle.std.proofs.Common.{◌≡◌, length}
use Rattle.lane_schedules.proofs.ScheduleRuns.{AreEmpty}
use Rattle.lane_schedules.proofs.schedule.empty_lanes.Given as goal

abbrev pub invariant-loop-made : goal.invariant-loop-made
invariant-loop-made g l = (length l.lanes.items ≡ l.made) × AreEmpty l.lanes.items
