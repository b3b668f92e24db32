use Rattle.std.proofs.Common.{arith}
use Rattle.rib_report.proofs.reports.visibility.VisibilityRowPrefixLine.put.Goals as goal

pub put_line-requires : goal.put_line-requires
put_line-requires g c = let few = g.met.F.WrittenAddress.few in omega (arith, few)
