use Rattle.prefix_maps.proofs.WalkLaws.{IsWalk}
use Rattle.prefix_maps.proofs.flat.Flat.longest_steps.Given as goal

abbrev pub invariant-loop-at : goal.invariant-loop-at
invariant-loop-at g l = IsWalk g.F.Family.WIDTH l.self (g.F.Family.bits l.addr) l.at l.limit l.steps l.longest

abbrev pub decreases-loop-at : goal.decreases-loop-at
decreases-loop-at g l = l.at
