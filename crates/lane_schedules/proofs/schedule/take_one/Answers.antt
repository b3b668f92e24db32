use Rattle.std.proofs.Common.{[], ◌∷◌, refl, arith}
use Rattle.unit_rings.proofs.Batches.{AreDecoded-none, AreDecoded-more, decoded_at, decoded_count}
use Rattle.lane_schedules.proofs.ScheduleRuns.{shows_one}
use Rattle.lane_schedules.proofs.schedule.take_one.Goals as goal

pub returns : goal.returns
returns g c = λ all waiting taken p.
    let item = c.in-Some.item in
    let decoded = AreDecoded-more _ c.push.new.self [] item (rw c.new-batch.ensures AreDecoded-none) (rw c.as_ref.ensures at c.in_ok-push.ensures.heads) (rw c.as_ref.ensures at c.in_ok-push.ensures.events) in
    let one = decoded_count c.push.new.self (item ∷ []) decoded in
    shows_one all c.args.lane.now _ item c.pop_front.new.self.items waiting taken c.in-Some.ensures.items refl c.saturating_add-lane.ensures
    (c.in_ok-take.ensures item (decoded_at c.push.new.self (item ∷ []) 0 item decoded (omega (arith, one)))) p
