use Rattle.std.proofs.Common.{◌+◌, ◌-◌}
use Rattle.lane_deal.specs.LaneWorkers.{TookSome}
use Rattle.lane_deal.proofs.worker.Worker+S+Prefix+F+Rules+F.poll.Given as goal

abbrev pub invariant-loop-empty : goal.invariant-loop-empty
invariant-loop-empty g l = TookSome g.S.Sessions.stands_for l.initial.self l.self

abbrev pub decreases-loop-empty : goal.decreases-loop-empty
decreases-loop-empty g l = (l.limits.looks - l.empty) + (l.limits.batch - l.further)
