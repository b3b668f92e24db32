use Rattle.adj_rib.proofs.RouteBlocks.{IsNamed-grown, route_at-grown}
use Rattle.adj_rib.proofs.routes.Routes.intern.Goals as goal

pub returns-clause-stays : goal.returns-clause-stays
returns-clause-stays c = λ at named. (IsNamed-grown c.args.self.now c.intern_bytes.new.self at c.intern_bytes.ensures.grows named, route_at-grown c.args.self.now c.intern_bytes.new.self at c.intern_bytes.ensures.grows named)
