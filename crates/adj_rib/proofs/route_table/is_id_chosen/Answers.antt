use Rattle.std.proofs.Common.{◌/◌}
use Rattle.std.proofs.lemmas.List.Elements.{All-set}
use Rattle.adj_rib.specs.Routes.{IsFound}
use Rattle.adj_rib.proofs.route_table.is_id_chosen.Goals as goal

pub returns-then-cell-len-clause-found : goal.returns-then-cell-len-clause-found
returns-then-cell-len-clause-found c =
    All-set (IsFound c.args.chosen.now c.args.routes.now) c.args.found.now.items (c.args.id.at / 16) c.find_chosen-new.result c.find_chosen-new.ensures.found c.requires.found
