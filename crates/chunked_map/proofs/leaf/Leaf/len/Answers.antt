use Rattle.std.proofs.Common.{arith}
use Rattle.chunked_map.proofs.LeafLaws.{sized}
use Rattle.chunked_map.proofs.leaf.Leaf.len.Goals as goal

pub returns : goal.returns
returns g c = omega (arith, c.len.ensures, sized _ _ _ _ c.self.invariant c.self.view_is)
