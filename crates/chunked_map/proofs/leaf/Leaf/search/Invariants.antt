use Rattle.std.proofs.Common.{◌≡◌, ◌-◌}
use Rattle.std.specs.declared.cmp.Ordering.TheVariants.{Less, Greater}
use Rattle.bgp_prefix.specs.Keys.{key_cmp}
use Rattle.chunked_map.proofs.KeyedLists.{IsNarrowed}
use Rattle.chunked_map.proofs.leaf.Leaf.search.Given as goal

-- the key before is less, and the one at the end greater
abbrev pub invariant-loop-low : goal.invariant-loop-low
invariant-loop-low g l = IsNarrowed (λ e. key_cmp e.0 l.key ≡ Less) (λ e. key_cmp e.0 l.key ≡ Greater) l.self l.low l.high

abbrev pub decreases-loop-low : goal.decreases-loop-low
decreases-loop-low g l = l.high - l.low
