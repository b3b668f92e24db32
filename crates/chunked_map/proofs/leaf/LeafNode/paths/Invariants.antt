use Rattle.std.proofs.Common.{◌≡◌, ◌-◌, ◌≤◌, ◌++◌, map, take, length}
use Rattle.bgp_prefix.specs.Maps.{paths_of}
use Rattle.chunked_map.proofs.leaf.LeafNode.paths.Given as goal

abbrev pub invariant-loop-at : goal.invariant-loop-at
invariant-loop-at g l = record {
  inside : l.at ≤ length l.self;
  listed : map (λ e. (e.0, e.1.now)) l.all.items ≡ map (λ e. (e.0, e.1.now)) l.initial.all.items ++ paths_of l.prefix (take l.at l.self);
}

abbrev pub decreases-loop-at : goal.decreases-loop-at
decreases-loop-at g l = length l.self - l.at
