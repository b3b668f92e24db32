use Rattle.std.proofs.Common.{ℕ, arith}
use Rattle.std.proofs.lemmas.List.{with_items_is}
use Rattle.lane_schedules.proofs.ScheduleLaws.{IsShared-after_turns}
use Rattle.lane_schedules.proofs.TakenTables.{taken_apart}
use Rattle.lane_schedules.proofs.schedule.run_schedule.Goals as goal

pub invariant_of-result : goal.invariant_of-result
invariant_of-result g c =
    let lane_of : ℕ → ℕ = λ number. g.D.Dealing.lane_of c.args.dealing.now number c.args.workers in
    let made = c.in_ok-lanes.ensures in
    let ran = rw c.deref_mut.ensures.value at c.in_ok-apply_all.ensures in
    let is = with_items_is c.in_ok-lanes.lanes c.apply_all.new.lanes (omega arith) in
    let show = rw made.0 at (ran c.args.units.items (rw c.in_ok-undealt.ensures (made.1 c.args.units.items c.args.units.items))) in
    rw is (record { apart = taken_apart _ _ _ (IsShared-after_turns lane_of c.args.units.items c.args.turns.now) _ _ show })

pub returns-clause-shows : goal.returns-clause-shows
returns-clause-shows g c =
    let lane_of : ℕ → ℕ = λ number. g.D.Dealing.lane_of c.args.dealing.now number c.args.workers in
    let made = c.in_ok-lanes.ensures in
    let ran = rw c.deref_mut.ensures.value at c.in_ok-apply_all.ensures in
    let is = with_items_is c.in_ok-lanes.lanes c.apply_all.new.lanes (omega arith) in
    record {
      lane_of = lane_of;
      shared = IsShared-after_turns lane_of c.args.units.items c.args.turns.now;
      lists = rw is (rw made.0 at (ran c.args.units.items (rw c.in_ok-undealt.ensures (made.1 c.args.units.items c.args.units.items))));
    }
