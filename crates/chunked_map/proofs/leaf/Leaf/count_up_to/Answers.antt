use Rattle.chunked_map.proofs.LeafLaws.{point_between}
use Rattle.chunked_map.proofs.leaf.Leaf.count_up_to.Goals as goal

pub returns-clause-end : goal.returns-clause-end
returns-clause-end g c = point_between c.args.self.now c.args.last.now _ _ c.requires c.loop-low.invariant c.loop-low-test.false
