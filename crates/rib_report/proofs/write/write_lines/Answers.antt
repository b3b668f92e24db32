use Rattle.std.proofs.Common.{◌+◌, arith, rules}
use Rattle.report_lines.proofs.TextLaws.{text_begun, output_at}
use Rattle.report_lines.proofs.JoinLaws.{Adds_items, Adds_range}
use Rattle.rib_report.proofs.write.write_lines.Goals as goal

pub loop-at-preserved : goal.loop-at-preserved
loop-at-preserved g c = Adds_range (g.L.RowList.line_of c.args.layout.now) (g.L.RowList.rows c.args.rows) c.loop-at.at (c.loop-at.at + 1) (omega arith) c.loop-at.invariant c.put.ensures

pub returns : goal.returns
returns g c =
    let lines = Adds_items (g.L.RowList.line_of c.args.layout.now) (g.L.RowList.rows c.args.rows) c.loop-at.at (omega arith) c.loop-at.invariant in
    output_at g.W.Sink.contents g.W.Failures.failure_count (search rules) (c.finish.ensures.output _ _ _ (text_begun c.new.ensures lines))
