use Rattle.std.proofs.Common.{◌≡◌, ◌+◌, ◌-◌, ◌≤◌, ◌++◌, map, take, length, vec_len, vec_capacity}
use Rattle.bgp_prefix.specs.Keys.{entries_now}
use Rattle.chunked_map.specs.ChunkedMaps.{in_leaves}
use Rattle.chunked_map.proofs.level.Level.list.Given as goal

abbrev pub invariant-loop-at : goal.invariant-loop-at
invariant-loop-at g l = record {
  inside : l.at ≤ length l.self.nodes.items;
  listed : entries_now l.all.items ≡ entries_now l.initial.all.items ++ in_leaves (take l.at (map g.P.Node.routes l.self.nodes.items));
  len : vec_len l.all ≡ vec_len l.initial.all + length (in_leaves (take l.at (map g.P.Node.routes l.self.nodes.items)));
  capacity : vec_capacity l.all ≡ vec_capacity l.initial.all;
}

abbrev pub decreases-loop-at : goal.decreases-loop-at
decreases-loop-at g l = length l.self.nodes.items - l.at
