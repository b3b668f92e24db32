use Rattle.lane_deal.specs.Collecting.{Exchanged}
use Rattle.lane_deal.specs.Pairs.{ChangedBelow}
use Rattle.lane_deal.proofs.collecting.exchange_all.Given as goal

abbrev pub invariant-loop-lane : goal.invariant-loop-lane
invariant-loop-lane g l = ChangedBelow (Exchanged g.L.HoldsSeats.state g.L.HoldsSeats.held g.L.HoldsSeats.with_held) l.lane l.initial.lanes l.lanes l.initial.lists l.lists
