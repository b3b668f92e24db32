use Rattle.std.proofs.Common.{◌≡◌, ◌≤◌, None, drop, length}
use Rattle.bgp_prefix.specs.Keys.{last_match}
use Rattle.prefix_maps.proofs.flat.Flat.last_match.Given as goal

-- no later key has a prefix that contains the address
abbrev pub invariant-loop-at : goal.invariant-loop-at
invariant-loop-at g l = record {
  inside : l.at ≤ length l.self;
  none : last_match (drop l.at l.self) (g.F.Family.bits l.addr) ≡ None;
}

abbrev pub decreases-loop-at : goal.decreases-loop-at
decreases-loop-at g l = l.at
