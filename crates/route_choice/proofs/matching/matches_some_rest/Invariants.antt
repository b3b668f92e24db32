use Rattle.std.proofs.Common.{◌≡◌, ◌+◌, ◌≤◌, length}
use Rattle.route_choice.specs.Masks.{some_rest, mask_matches}
use Rattle.route_choice.proofs.matching.matches_some_rest.Given as goal

abbrev pub invariant-starts : goal.invariant-starts
invariant-starts l = record {
  fewer : length l.steps ≤ length l.mask;
  same : some_rest (mask_matches l.steps) l.start ≡ some_rest (mask_matches l.fn.mask) l.fn.path;
}

abbrev pub decreases-starts : goal.decreases-starts
decreases-starts l = length l.steps + length l.start
