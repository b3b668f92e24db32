use Rattle.std.proofs.Common.{◌≡◌, ℕ, ◌+◌, ◌≤◌}
use Rattle.std.specs.Option.{option_or}
use Rattle.bgp_prefix.specs.Keys.{last_match, matching_prefixes}
use Rattle.prefix_maps.specs.Tries.{routes, IsTrie, IsUnder}
use Rattle.prefix_maps.proofs.radix.node.Branch.longest_steps.Given as goal

abbrev pub invariant-loop-at : goal.invariant-loop-at
invariant-loop-at g l = IsTrie l.at × (option_or (last_match (routes l.at) (g.F.Family.bits l.addr)) l.longest ≡ last_match (routes l.self) (g.F.Family.bits l.addr)) × (matching_prefixes (routes l.self) (g.F.Family.bits l.addr) ≤ l.steps + matching_prefixes (routes l.at) (g.F.Family.bits l.addr)) × ((len : ℕ) × (bits : ℕ) × (l.steps ≤ len) × (len ≤ g.F.Family.WIDTH + 1) × IsUnder len bits l.at)
