use Rattle.adj_rib.proofs.NamedRoutes.{AreNamed-empty, named_routes-empty}
use Rattle.adj_rib.proofs.route_table.RouteTable.clear.Goals as goal

pub invariant_of-self : goal.invariant_of-self
invariant_of-self g c = AreNamed-empty c.clear-2.new.self (g.M.PrefixMap.contents c.clear.new.self) c.clear.ensures

pub returns : goal.returns
returns g c = named_routes-empty c.clear-2.new.self (g.M.PrefixMap.contents c.clear.new.self) c.clear.ensures
