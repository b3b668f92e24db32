use Rattle.std.proofs.Common.{◌≡◌, false, take}
use Rattle.std.specs.List.{list_any}
use Rattle.route_choice.specs.Masks.{path_matches}
use Rattle.route_choice.proofs.chosen_routes.ChosenRoutes.is_path_chosen.Given as goal

abbrev pub invariant-loop-mask : goal.invariant-loop-mask
invariant-loop-mask l = list_any (λ mask. path_matches mask l.route.path) (take l.mask-index l.self.paths) ≡ false
