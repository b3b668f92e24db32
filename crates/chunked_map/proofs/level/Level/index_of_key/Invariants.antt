use Rattle.std.proofs.Common.{◌≡◌, ◌≢◌, ◌-◌}
use Rattle.std.specs.declared.cmp.Ordering.TheVariants.{Greater}
use Rattle.bgp_prefix.specs.Keys.{key_cmp}
use Rattle.chunked_map.proofs.KeyedLists.{IsNarrowed}
use Rattle.chunked_map.proofs.level.Level.index_of_key.Given as goal

-- the key before is no greater, and the one at the end is
abbrev pub invariant-loop-low : goal.invariant-loop-low
invariant-loop-low g l = IsNarrowed (λ k. key_cmp k l.key ≢ Greater) (λ k. key_cmp k l.key ≡ Greater) l.self.firsts.items l.low l.high

abbrev pub decreases-loop-low : goal.decreases-loop-low
decreases-loop-low g l = l.high - l.low
