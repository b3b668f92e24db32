use Rattle.std.proofs.Common.{length}
use Rattle.unit_rings.specs.UnitRings.{known_items}
use Rattle.lane_deal.proofs.Working.{TookKnown}
use Rattle.lane_deal.proofs.worker.Worker+S+Prefix+F+Rules+F.take_all_known.Given as goal

abbrev pub invariant-loop-alloc : goal.invariant-loop-alloc
invariant-loop-alloc g l = TookKnown g.S.Sessions.stands_for l.initial.self l.self

abbrev pub decreases-loop-alloc : goal.decreases-loop-alloc
decreases-loop-alloc g l = length (known_items l.self.consumer)
