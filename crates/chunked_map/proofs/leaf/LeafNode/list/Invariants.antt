use Rattle.std.proofs.Common.{◌≡◌, ◌+◌, ◌-◌, ◌≤◌, ◌++◌, map, take, length, vec_len, vec_capacity}
use Rattle.chunked_map.proofs.leaf.LeafNode.list.Given as goal

abbrev pub invariant-loop-at : goal.invariant-loop-at
invariant-loop-at g l = record {
  inside : l.at ≤ length l.self;
  listed : map (λ e. (e.0, e.1.now)) l.all.items ≡ map (λ e. (e.0, e.1.now)) l.initial.all.items ++ take l.at l.self;
  len : vec_len l.all ≡ vec_len l.initial.all + l.at;
  capacity : vec_capacity l.all ≡ vec_capacity l.initial.all;
}

abbrev pub decreases-loop-at : goal.decreases-loop-at
decreases-loop-at g l = length l.self - l.at
