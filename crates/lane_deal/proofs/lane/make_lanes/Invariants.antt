use Rattle.lane_deal.specs.LaneRings.{AreFresh}
use Rattle.lane_deal.proofs.lane.make_lanes.Given as goal

abbrev pub invariant-loop-lane : goal.invariant-loop-lane
invariant-loop-lane g l = AreFresh g.S.Sessions.stands_for l.capacity l.lane l.senders.items l.workers.items
