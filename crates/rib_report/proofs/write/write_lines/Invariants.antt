-- the lines so far
use Rattle.std.proofs.Common.{take}
use Rattle.std.specs.List.{flat_map}
use Rattle.report_lines.specs.Texts.{Adds, text_state}
use Rattle.rib_report.proofs.write.write_lines.Given as goal

abbrev pub invariant-loop-at : goal.invariant-loop-at
invariant-loop-at g l =
    Adds (text_state g.W.Sink.contents g.W.Failures.failure_count l.initial.text.out l.initial.text.buffer) (text_state g.W.Sink.contents g.W.Failures.failure_count l.text.out l.text.buffer)
    (flat_map (g.L.RowList.line_of l.layout) (take l.at (g.L.RowList.rows l.rows)))
