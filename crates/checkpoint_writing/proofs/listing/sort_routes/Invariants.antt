use Rattle.std.proofs.Common.{◌≡◌, ◌++◌, take}
use Rattle.std.specs.List.{flat_map}
use Rattle.checkpoint_writing.specs.Leaving.{kept_entry, left_entry}
use Rattle.checkpoint_writing.proofs.listing.sort_routes.Given as goal

abbrev pub invariant-loop-entry : goal.invariant-loop-entry
invariant-loop-entry g l = record {
  entries : l.entries.items ≡ l.fn.entries.items ++ flat_map (kept_entry g.F.Unicast.family) (take l.entry-index l.fn.listed);
  left : l.left.items ≡ l.fn.left.items ++ flat_map (left_entry g.F.Unicast.family l.fn.peer) (take l.entry-index l.fn.listed);
}
