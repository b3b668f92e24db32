-- some of the later members are written
use Rattle.std.proofs.Common.{◌-◌}
use Rattle.report_lines.proofs.KeptColumns.{HasWritten}
use Rattle.report_lines.proofs.kept_columns.put_value.Given as goal

abbrev pub invariant-loop-i : goal.invariant-loop-i
invariant-loop-i g l =
    HasWritten l.quotes l.separator l.attribute (g.T.Text.state l.initial.text) (g.T.Text.state l.text) (l.count - 1) l.size l.initial.rest (l.count - l.i) l.rest
