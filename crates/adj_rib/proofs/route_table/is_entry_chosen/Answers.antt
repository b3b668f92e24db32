use Rattle.std.proofs.Common.{subst}
use Rattle.route_choice.specs.Choices.{RouteChoice}
use Rattle.adj_rib.specs.Routes.{AreFound}
use Rattle.adj_rib.proofs.route_table.is_entry_chosen.Goals as goal

pub returns-then-is_id_chosen-clause-found : goal.returns-then-is_id_chosen-clause-found
returns-then-is_id_chosen-clause-found g c = subst (λ (r : RouteChoice). AreFound r c.args.routes.now c.is_id_chosen.new.found.items) c.routes.ensures c.is_id_chosen.ensures.found

pub returns-else-is_id_chosen-clause-found : goal.returns-else-is_id_chosen-clause-found
returns-else-is_id_chosen-clause-found g c = subst (λ (r : RouteChoice). AreFound r c.args.routes.now c.is_id_chosen.new.found.items) c.routes.ensures c.is_id_chosen.ensures.found
