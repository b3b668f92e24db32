use Rattle.adj_rib.proofs.NamedRoutes.{AreNamed-empty, named_routes-empty}
use Rattle.adj_rib.proofs.route_table.RouteTable.new.Goals as goal

pub invariant_of-result : goal.invariant_of-result
invariant_of-result g c = AreNamed-empty c.new-2.result (g.M.PrefixMap.contents c.new.result) c.new.ensures

pub returns : goal.returns
returns g c = named_routes-empty c.new-2.result (g.M.PrefixMap.contents c.new.result) c.new.ensures
