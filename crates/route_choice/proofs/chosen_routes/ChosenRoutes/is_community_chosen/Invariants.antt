use Rattle.std.proofs.Common.{◌≡◌, false, take}
use Rattle.std.specs.List.{list_any}
use Rattle.route_choice.specs.Communities.{has_community}
use Rattle.route_choice.proofs.chosen_routes.ChosenRoutes.is_community_chosen.Given as goal

abbrev pub invariant-loop-pattern : goal.invariant-loop-pattern
invariant-loop-pattern l = list_any (has_community l.route.kept) (take l.pattern-index l.self.communities) ≡ false
