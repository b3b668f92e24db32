use Rattle.lane_schedules.proofs.ScheduleRuns.{given_none, given_more}
use Rattle.lane_schedules.proofs.schedule.number_all.Goals as goal

pub loop-unit-init : goal.loop-unit-init
loop-unit-init g c = rw (c.in_ok-peers.ensures, c.new-all.ensures.items) given_none

pub loop-unit-preserved : goal.loop-unit-preserved
loop-unit-preserved g c = rw c.in_ok-push_back.ensures.items (given_more _ _ _ _ c.in-Some.unit c.in_ok-number.number c.loop-unit.invariant c.in_ok-number.ensures.numbers)
