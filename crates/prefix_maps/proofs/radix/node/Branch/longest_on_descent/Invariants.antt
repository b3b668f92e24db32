use Rattle.std.proofs.Common.{◌≡◌}
use Rattle.std.specs.Option.{option_or}
use Rattle.bgp_prefix.specs.Keys.{last_match}
use Rattle.prefix_maps.specs.Tries.{routes, IsTrie}
use Rattle.prefix_maps.proofs.radix.node.Branch.longest_on_descent.Given as goal

abbrev pub invariant-loop-at : goal.invariant-loop-at
invariant-loop-at g l = IsTrie l.at × (option_or (last_match (routes l.at) (g.F.Family.bits l.addr)) l.found ≡ last_match (routes l.self) (g.F.Family.bits l.addr))
