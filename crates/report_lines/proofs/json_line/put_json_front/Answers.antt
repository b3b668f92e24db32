use Rattle.std.proofs.Common.{arith}
use Rattle.report_lines.proofs.json_line.put_json_front.Goals as goal

pub put_front-requires : goal.put_front-requires
put_front-requires g c = let few = g.met.F.WrittenAddress.few in omega (arith, few)

pub returns : goal.returns
returns g c = rw (c.identifier_if_any-id.ensures) at c.put_front.ensures
