use Rattle.std.proofs.Common.{arith}
use Rattle.chunked_map.proofs.LeafLaws.{sized, value_is, removed_is}
use Rattle.chunked_map.proofs.leaf.Leaf.take_at.Goals as goal

pub remove-requires : goal.remove-requires
remove-requires g c = omega (arith, c.requires, sized _ _ _ _ c.self.invariant c.self.view_is)

pub returns-clause-before : goal.returns-clause-before
returns-clause-before g c = λ d. value_is _ _ _ _ c.self.invariant c.self.view_is c.args.at c.remove-2.result d c.requires c.remove-2.ensures.value

pub returns-clause-removed : goal.returns-clause-removed
returns-clause-removed g c =
    removed_is _ _ _ _ c.self.invariant c.self.view_is c.args.at c.remove.new.self.items c.remove_id.new.ids.items c.remove-2.new.self.items c.requires c.remove.ensures.items c.remove_id.ensures c.remove-2.ensures.items
