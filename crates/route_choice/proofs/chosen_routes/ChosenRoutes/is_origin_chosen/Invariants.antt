use Rattle.std.proofs.Common.{◌≡◌, false, take}
use Rattle.std.specs.List.{list_any}
use Rattle.route_choice.specs.Choices.{is_same_origin, origin_of}
use Rattle.route_choice.proofs.chosen_routes.ChosenRoutes.is_origin_chosen.Given as goal

abbrev pub invariant-loop-own : goal.invariant-loop-own
invariant-loop-own l = list_any (is_same_origin (origin_of l.route)) (take l.own-index l.self.origins) ≡ false
