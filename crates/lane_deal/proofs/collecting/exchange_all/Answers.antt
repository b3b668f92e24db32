use Rattle.std.proofs.Common.{arith}
use Rattle.lane_deal.proofs.Pairs.{ChangedBelow-more}
use Rattle.lane_deal.proofs.collecting.exchange_all.Goals as goal

pub loop-lane-preserved : goal.loop-lane-preserved
loop-lane-preserved g c = ChangedBelow-more _ c.loop-lane.lane _ _ _ _ _ _ _ _ (omega arith) c.requires (record { given = c.exchange.ensures.given; got = c.exchange.ensures.got }) c.loop-lane.invariant
