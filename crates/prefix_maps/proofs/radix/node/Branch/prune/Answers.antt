use Rattle.prefix_maps.proofs.RemoveLaws.{only_child_under}
use Rattle.prefix_maps.proofs.radix.node.Branch.prune.Goals as goal
use Rattle.prefix_maps.proofs.radix.node.Branch.prune.Goals.{then-is_redundant, else-is_redundant}

pub returns-clause-under : goal.returns-clause-under
returns-clause-under g c = λ len bits u. elim c.if-is_redundant.branch [
  | then-is_redundant w ↦ rw (w.self-is, w.set.ensures, w.take_only_child-only_child.ensures) (only_child_under _ c.requires len bits u)
  | else-is_redundant w ↦ rw w.self-is u
]
