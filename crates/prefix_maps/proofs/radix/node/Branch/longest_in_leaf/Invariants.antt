use Rattle.std.proofs.Common.{◌≡◌, Some}
use Rattle.bgp_prefix.specs.Prefixes.{IpPrefix}
use Rattle.bgp_prefix.specs.Keys.{last_match}
use Rattle.prefix_maps.specs.Tries.{routes, IsTrie}
use Rattle.prefix_maps.proofs.radix.node.Branch.longest_in_leaf.Given as goal

abbrev pub invariant-loop-at : goal.invariant-loop-at
invariant-loop-at g l = IsTrie l.at × ((p : IpPrefix) → last_match (routes l.at) (g.F.Family.bits l.addr) ≡ Some p → last_match (routes l.self) (g.F.Family.bits l.addr) ≡ Some p)
