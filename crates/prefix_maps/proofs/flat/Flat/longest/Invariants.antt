use Rattle.prefix_maps.proofs.JumpLaws.{IsLimit}
use Rattle.prefix_maps.proofs.flat.Flat.longest.Given as goal

abbrev pub invariant-loop-self : goal.invariant-loop-self
invariant-loop-self g l = IsLimit g.F.Family.WIDTH l.self (g.F.Family.bits l.addr) l.limit

abbrev pub decreases-loop-self : goal.decreases-loop-self
decreases-loop-self g l = l.limit
