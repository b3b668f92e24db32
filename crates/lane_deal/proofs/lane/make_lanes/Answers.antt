use Rattle.std.proofs.Common.{refl, sym, ap, ◌∙◌, length, arith}
use Rattle.lane_deal.proofs.Renewals.{AreFresh-more}
use Rattle.lane_deal.proofs.lane.make_lanes.Goals as goal

pub loop-lane-preserved : goal.loop-lane-preserved
loop-lane-preserved g c =
    let made = c.in_ok-producer.ensures in
    let none = ap length made.producer.0 in
    let free = made.producer.1 in
    let fits = made.producer.2 in
    rw (c.in_ok-push.ensures.items, c.in_ok-push-2.ensures.items) (AreFresh-more _ _ _ _ _ _ _ c.loop-lane.invariant record {
      ready = (made.pair, made.producer.2, made.consumer.0, made.consumer.1 ∙ sym made.producer.0, omega arith, omega arith);
      empty = made.producer.0;
      sessions = c.fresh.ensures;
      untaken = refl;
    })
