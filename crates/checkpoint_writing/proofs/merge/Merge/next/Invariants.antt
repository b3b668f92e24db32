use Rattle.std.proofs.Common.{◌≡◌, ◌++◌}
use Rattle.checkpoint_writing.specs.Merging.{IsMerge, AreAbove, entries_count, routes_among, without}
use Rattle.checkpoint_writing.proofs.merge.Merge.next.Given as goal

abbrev pub invariant-loop : goal.invariant-loop
invariant-loop g l = record {
  merge : IsMerge l.self;
  routes : l.routes.items ++ routes_among l.prefix 0 l.self.lists ≡ routes_among l.prefix 0 l.fn.self.lists;
  left : without l.prefix l.self.lists ≡ without l.prefix l.fn.self.lists;
  above : AreAbove l.prefix l.self.lists;
}

abbrev pub decreases-loop : goal.decreases-loop
decreases-loop g l = entries_count l.self.lists
