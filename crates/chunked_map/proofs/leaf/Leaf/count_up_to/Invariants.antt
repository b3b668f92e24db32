use Rattle.std.proofs.Common.{◌≡◌, ◌-◌, true, false}
use Rattle.std.specs.Ordering.{is_le}
use Rattle.bgp_prefix.specs.Prefixes.{prefix_cmp}
use Rattle.chunked_map.proofs.KeyedLists.{IsNarrowed}
use Rattle.chunked_map.proofs.leaf.Leaf.count_up_to.Given as goal

abbrev pub invariant-loop-low : goal.invariant-loop-low
invariant-loop-low g l = IsNarrowed (λ e. is_le (prefix_cmp e.0.prefix l.last) ≡ true) (λ e. is_le (prefix_cmp e.0.prefix l.last) ≡ false) l.self l.low l.high

abbrev pub decreases-loop-low : goal.decreases-loop-low
decreases-loop-low g l = l.high - l.low
