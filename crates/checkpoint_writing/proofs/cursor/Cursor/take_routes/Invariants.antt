use Rattle.std.proofs.Common.{◌≡◌, ◌++◌, length, map, T}
use Rattle.std.specs.List.{filter, AllByRecursion}
use Rattle.std.specs.FinMap.{is_sorted}
use Rattle.bgp_prefix.specs.Keys.{key_cmp}
use Rattle.table_dumps.specs.Checkpoints.{prefix_route}
use Rattle.checkpoint_writing.specs.Merging.{AtOrAbove, has_prefix, others_of}
use Rattle.checkpoint_writing.proofs.cursor.Cursor.take_routes.Given as goal

abbrev pub invariant-loop-id : goal.invariant-loop-id
invariant-loop-id g l = record {
  sorted : T (is_sorted key_cmp l.self);
  least : AllByRecursion (AtOrAbove l.prefix) l.self;
  taken : l.routes.items ++ map (prefix_route l.peer) (filter (has_prefix l.prefix) l.self) ≡ l.initial.routes.items ++ map (prefix_route l.peer) (filter (has_prefix l.prefix) l.initial.self);
  left : others_of l.prefix l.self ≡ others_of l.prefix l.initial.self;
}

abbrev pub decreases-loop-id : goal.decreases-loop-id
decreases-loop-id g l = length l.self
