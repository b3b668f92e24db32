use Rattle.bgp_update.proofs.RouteEquality.{decides_same}
use Rattle.bgp_update.proofs.route_ref.RouteRef.is_same.Goals as goal

pub returns-clause-test : goal.returns-clause-test
returns-clause-test c = decides_same c.has_same_bytes.result c.args.self.now c.args.other.now c.has_same_bytes.ensures.0 c.has_same_bytes.ensures.1
