use Rattle.std.proofs.Common.{◌≡◌, ◌*◌, ◌≤◌, length}
use Rattle.std.specs.List.{list_any}
use Rattle.bgp_update.specs.Segments.{numbers_in}
use Rattle.route_choice.specs.Masks.{is_within}
use Rattle.route_choice.proofs.cursor.Position.has_within.Given as goal

abbrev pub invariant-loop-left : goal.invariant-loop-left
invariant-loop-left l = record {
  room : l.left * 4 ≤ length l.rest;
  same : list_any (is_within l.first l.last) (numbers_in 4 l.left l.rest) ≡ list_any (is_within l.first l.last) l.self;
}

abbrev pub decreases-loop-left : goal.decreases-loop-left
decreases-loop-left l = l.left
