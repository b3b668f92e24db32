use Rattle.std.proofs.Common.{◌≡◌}
use Rattle.std.specs.FinMap.{find}
use Rattle.bgp_prefix.specs.Keys.{key_cmp}
use Rattle.prefix_maps.specs.Tries.{routes, IsTrie}
use Rattle.prefix_maps.proofs.radix.node.Branch.get.Given as goal

abbrev pub invariant-loop-at : goal.invariant-loop-at
invariant-loop-at g l = IsTrie l.at × (find key_cmp l.key (routes l.at) ≡ find key_cmp l.key (routes l.self))
