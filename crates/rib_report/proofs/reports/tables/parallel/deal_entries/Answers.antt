use Rattle.std.proofs.Common.{◌≤◌, get_or, arith, rules, refl}
use Rattle.rib_report.specs.declared.reports.tables.line_block.LineBlock.{LineBlock}
use Rattle.rib_report.proofs.LineBlockLists.{all_set, successive_set}
use Rattle.rib_report.proofs.reports.tables.parallel.deal_entries.Goals as goal

pub loop-at-preserved : goal.loop-at-preserved
loop-at-preserved c =
    let before : LineBlock = get_or c.loop-at.line_blocks c.loop-at.at c.index-line_blocks-at.result in
    let p : LineBlock = record { start = c.loop-at.next; done = before.done; end = c.min-end.result; text = before.text } in
    record {
      from = omega arith;
      to = omega arith;
      len = search rules;
      ranges = all_set (λ (p : LineBlock). (p.start ≤ p.end) × (p.end ≤ c.args.count)) c.loop-at.line_blocks c.loop-at.at p (omega arith) c.loop-at.invariant.ranges (omega arith, omega arith);
      successive = successive_set c.args.start c.loop-at.line_blocks c.loop-at.at p c.loop-at.next (omega arith) c.loop-at.invariant.successive refl;
      some = λ _ more. omega arith;
    }
