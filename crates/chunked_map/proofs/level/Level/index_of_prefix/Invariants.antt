use Rattle.std.proofs.Common.{◌≡◌, ◌-◌, true, false}
use Rattle.std.specs.Ordering.{is_le}
use Rattle.bgp_prefix.specs.Prefixes.{prefix_cmp}
use Rattle.chunked_map.proofs.KeyedLists.{IsNarrowed}
use Rattle.chunked_map.proofs.level.Level.index_of_prefix.Given as goal

abbrev pub invariant-loop-low : goal.invariant-loop-low
invariant-loop-low g l = IsNarrowed (λ k. is_le (prefix_cmp k.prefix l.last) ≡ true) (λ k. is_le (prefix_cmp k.prefix l.last) ≡ false) l.self.firsts.items l.low l.high

abbrev pub decreases-loop-low : goal.decreases-loop-low
decreases-loop-low g l = l.high - l.low
