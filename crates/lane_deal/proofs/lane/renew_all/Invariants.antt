use Rattle.lane_deal.specs.LaneRings.{Renewed}
use Rattle.lane_deal.specs.Pairs.{ChangedBelow}
use Rattle.lane_deal.proofs.lane.renew_all.Given as goal

abbrev pub invariant-loop-lane : goal.invariant-loop-lane
invariant-loop-lane g l = ChangedBelow (λ s s' w w'. Renewed l.capacity s w s' w') l.lane l.initial.senders l.senders l.initial.workers l.workers
