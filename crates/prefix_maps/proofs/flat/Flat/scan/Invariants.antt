use Rattle.std.proofs.Common.{◌≡◌, ℕ, ◌-◌, ◌<◌, ◌≤◌, get_or, length}
use Rattle.std.specs.declared.cmp.Ordering.TheVariants.{Less}
use Rattle.bgp_prefix.specs.Keys.{key_cmp, RouteKey}
use Rattle.prefix_maps.proofs.flat.Flat.scan.Given as goal

-- each key so far is below
abbrev pub invariant-loop-at : goal.invariant-loop-at
invariant-loop-at g l = record {
  inside : l.at ≤ length l.self;
  below : (j : ℕ) (d : RouteKey × _) → j < l.at → key_cmp (get_or l.self j d).0 l.key ≡ Less;
}

abbrev pub decreases-loop-at : goal.decreases-loop-at
decreases-loop-at g l = length l.self - l.at
