use Rattle.std.proofs.Common.{refl, rules}
use Rattle.rib_report.proofs.LineBlockLists.{all_waits}
use Rattle.rib_report.proofs.reports.tables.line_block.LineBlock.fill.Goals as goal

pub returns-else-has_failed-clause-filled : goal.returns-else-has_failed-clause-filled
returns-else-has_failed-clause-filled g c = record {
  from = c.put_while_fitting-self.ensures.within.0;
  to = c.put_while_fitting-self.ensures.within.1;
  within = c.requires.1;
  text = all_waits c.clear.ensures refl refl (search rules) c.put_while_fitting-self.ensures.lines;
}
