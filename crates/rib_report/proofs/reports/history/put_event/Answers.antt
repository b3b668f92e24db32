use Rattle.std.proofs.Common.{arith}
use Rattle.rib_report.proofs.reports.history.put_event.Goals as goal

pub put_front-requires : goal.put_front-requires
put_front-requires g c = let few = g.met.F.WrittenAddress.few in omega (arith, few)

pub returns : goal.returns
returns g c = rw (c.route_key-identifier_if_any.ensures) at c.put_front.ensures
