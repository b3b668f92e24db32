use Rattle.std.proofs.Common.{◌≡◌, ◌*◌, ◌≤◌, length}
use Rattle.std.specs.List.{list_any}
use Rattle.bgp_update.specs.KeptAttributes.{kept_form}
use Rattle.route_choice.specs.Communities.{asks, matches_member, members, members_in}
use Rattle.route_choice.proofs.community.CommunityPattern.matches_value.Given as goal

abbrev pub invariant-loop-left : goal.invariant-loop-left
invariant-loop-left l = record {
  size : l.size ≡ (kept_form (asks l.self)).size;
  room : l.left * l.size ≤ length l.rest;
  same : list_any (matches_member l.self) (members_in l.left l.size l.rest) ≡ list_any (matches_member l.self) (members (asks l.self) l.value);
}

abbrev pub decreases-loop-left : goal.decreases-loop-left
decreases-loop-left l = l.left
