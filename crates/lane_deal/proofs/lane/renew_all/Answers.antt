use Rattle.std.proofs.Common.{arith}
use Rattle.lane_deal.specs.LaneRings.{Renewed}
use Rattle.lane_deal.proofs.Pairs.{ChangedBelow-more}
use Rattle.lane_deal.proofs.lane.renew_all.Goals as goal

pub loop-lane-preserved : goal.loop-lane-preserved
loop-lane-preserved g c =
    ChangedBelow-more (λ s s' w w'. Renewed c.args.capacity s w s' w') c.loop-lane.lane _ _ _ _ _ _ _ _ (omega arith) c.requires.lanes c.in_ok-renew.ensures c.loop-lane.invariant
