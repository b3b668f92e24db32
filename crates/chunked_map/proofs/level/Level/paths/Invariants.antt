use Rattle.std.proofs.Common.{◌≡◌, ◌-◌, ◌≤◌, ◌++◌, map, take, length}
use Rattle.bgp_prefix.specs.Maps.{paths_of}
use Rattle.chunked_map.specs.ChunkedMaps.{in_leaves}
use Rattle.chunked_map.proofs.level.Level.paths.Given as goal

abbrev pub invariant-loop-at : goal.invariant-loop-at
invariant-loop-at g l = record {
  inside : l.at ≤ length l.self.nodes.items;
  listed : map (λ e. (e.0, e.1.now)) l.all.items ≡ map (λ e. (e.0, e.1.now)) l.fn.all.items ++ paths_of l.prefix (in_leaves (take l.at (map g.P.Node.routes l.self.nodes.items)));
}

abbrev pub decreases-loop-at : goal.decreases-loop-at
decreases-loop-at g l = length l.self.nodes.items - l.at
