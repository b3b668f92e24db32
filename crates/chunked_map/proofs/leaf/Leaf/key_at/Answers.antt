use Rattle.std.proofs.Common.{arith}
use Rattle.chunked_map.proofs.LeafLaws.{sized, key_is}
use Rattle.chunked_map.proofs.leaf.Leaf.key_at.Goals as goal

pub index-requires : goal.index-requires
index-requires g c = omega (arith, c.requires, sized _ _ _ _ c.self.invariant c.self.view_is)

pub returns : goal.returns
returns g c = λ d. key_is _ _ _ _ c.self.invariant c.self.view_is c.args.at c.index.result.now c.id_at.result d c.requires c.index.ensures c.id_at.ensures
