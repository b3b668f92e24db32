use Rattle.lane_schedules.proofs.ScheduleRuns.{AreGiven}
use Rattle.lane_schedules.proofs.schedule.number_all.Given as goal

abbrev pub invariant-loop-unit : goal.invariant-loop-unit
invariant-loop-unit g l = AreGiven l.yielded l.peers l.all.items
