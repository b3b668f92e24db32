use Rattle.std.proofs.Common.{arith}
use Rattle.chunked_map.proofs.LeafLaws.{sized, value_is}
use Rattle.chunked_map.proofs.leaf.Leaf.value_at.Goals as goal

pub index-requires : goal.index-requires
index-requires g c = omega (arith, c.requires, c.self.invariant.values, sized _ _ _ _ c.self.invariant c.self.view_is)

pub returns : goal.returns
returns g c = λ d. value_is _ _ _ _ c.self.invariant c.self.view_is c.args.at c.index.result.now d c.requires c.index.ensures
