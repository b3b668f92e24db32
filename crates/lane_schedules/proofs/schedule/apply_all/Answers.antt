use Rattle.std.proofs.Common.{ℕ, length, sym, subst, arith}
use Rattle.lane_deal.specs.Lanes.{lane_of_unit}
use Rattle.lane_schedules.specs.Schedules.{LanesState, after_turn, start}
use Rattle.lane_schedules.specs.ShownLanes.{LanesShow}
use Rattle.lane_schedules.proofs.ScheduleRuns.{fold_next}
use Rattle.lane_schedules.proofs.schedule.apply_all.Goals as goal

pub loop-turn-preserved : goal.loop-turn-preserved
loop-turn-preserved g c =
    let lanes = c.loop-turn.invariant.0 in (
      omega arith,
      (λ all h.
          let lo : ℕ → ℕ = λ number. g.D.Dealing.lane_of c.args.dealing.now number (length c.args.lanes.now) in
          let P : LanesState → Type 0 = LanesShow all c.apply.new.undealt.items c.apply.new.lanes in
          let step = rw lanes at (c.in_ok-apply.ensures all _ (c.loop-turn.invariant.1 all h)) in
          subst P (sym (fold_next (after_turn (lane_of_unit lo all)) c.args.turns.now c.loop-turn.turn-index _ (start all) (omega arith))) step),
    )
