use Rattle.std.proofs.Common.{◌≤◌, length}
use Rattle.std.proofs.lemmas.List.Elements.{All-take, All-drop}
use Rattle.rib_report.specs.declared.reports.tables.line_block.LineBlock.{LineBlock}
use Rattle.rib_report.proofs.reports.tables.parallel.+threads.Goals as goal

pub fill_and_put-fill_some_and_put-requires-clause-next : goal.fill_and_put-fill_some_and_put-requires-clause-next
fill_and_put-fill_some_and_put-requires-clause-next g t c = λ κs within. (
  rw (c.split_at_mut-some.ensures.front) (All-take (λ (p : LineBlock). (p.start ≤ p.end) × (p.end ≤ length c.args.entries.now)) _ _ c.requires.next),
  rw (c.split_at_mut-some.ensures.back) (All-drop (λ (p : LineBlock). (p.start ≤ p.end) × (p.end ≤ length c.args.entries.now)) _ _ c.requires.next),
)
