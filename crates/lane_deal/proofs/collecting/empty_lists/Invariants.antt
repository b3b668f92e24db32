use Rattle.std.proofs.Common.{◌≡◌, length}
use Rattle.lane_deal.proofs.collecting.empty_lists.Given as goal

abbrev pub invariant-loop-made : goal.invariant-loop-made
invariant-loop-made g l = length l.lists.items ≡ l.made
