use Rattle.prefix_maps.proofs.JumpLaws.{IsLimit}
use Rattle.chunked_map.proofs.chunked_map.ChunkedMapPrefixMap.longest.Given as goal

abbrev pub invariant-loop-prefix : goal.invariant-loop-prefix
invariant-loop-prefix g l = IsLimit g.F.Family.WIDTH l.self (g.F.Family.bits l.addr) l.limit

abbrev pub decreases-loop-prefix : goal.decreases-loop-prefix
decreases-loop-prefix g l = l.limit
