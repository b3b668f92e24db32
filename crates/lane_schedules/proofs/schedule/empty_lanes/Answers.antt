use Rattle.std.proofs.Common.{◌+◌, ap, ◌∙◌, refl, arith}
use Rattle.std.proofs.lemmas.List.{length_push}
use Rattle.lane_schedules.proofs.ScheduleRuns.{empty_more, empty_show}
use Rattle.lane_schedules.proofs.schedule.empty_lanes.Goals as goal

pub loop-made-preserved : goal.loop-made-preserved
loop-made-preserved g c =
    rw c.in_ok-push.ensures.items (
      length_push _ _ ∙ ap (λ n. n + 1) c.loop-made.invariant.0,
      empty_more _ _ c.loop-made.invariant.1 (λ all. record { ring = c.new.ensures.items; seats = c.fresh.ensures; took = refl }),
    )

pub returns : goal.returns
returns g c = (let n = c.loop-made.invariant.0 in omega arith, λ all units. empty_show _ c.loop-made.invariant.1 all units)
