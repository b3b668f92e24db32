use Rattle.std.proofs.Common.{◌≡◌, take}
use Rattle.std.specs.List.{list_any}
use Rattle.bgp_update.specs.declared.kept_attribute.KeptAttribute.{KeptAttribute}
use Rattle.bgp_update.specs.KeptAttributes.{has}
use Rattle.route_choice.specs.Communities.{asks_for}
use Rattle.route_choice.proofs.chosen_routes.ChosenRoutes.attributes.Given as goal

abbrev pub invariant-loop-pattern : goal.invariant-loop-pattern
invariant-loop-pattern l = (a : KeptAttribute) → has l.asked a ≡ list_any (asks_for a) (take l.pattern-index l.self.communities)
