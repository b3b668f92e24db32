use Rattle.std.proofs.Common.{◌≡◌, ◌+◌, ◌∙◌, ◌∷◌, arith, sym, ap, subst, drop}
use Rattle.std.proofs.lemmas.List.{drop_more, drop_all}
use Rattle.rib_report.specs.LineBlocks.{IsFilled, lines_between}
use Rattle.report_lines.proofs.TextLaws.{Adds_as}
use Rattle.rib_report.proofs.LineBlockLists.{Adds_next, first_range, no_range}
use Rattle.rib_report.proofs.reports.tables.parallel.put_line_blocks.Goals as goal

pub loop-line_block-preserved : goal.loop-line_block-preserved
loop-line_block-preserved g c =
    let so_far = c.loop-line_block.invariant in
    let entries = c.args.entries.now in
    let line_blocks = c.args.line_blocks.now in
    let i = c.loop-line_block.line_block-index in
    let p = c.line_block-item.result in
    let more : drop i line_blocks ≡ p ∷ drop (i + 1) line_blocks = drop_more line_blocks i p c.loop-line_block-test.true ∙ ap (λ q. q ∷ drop (i + 1) line_blocks) (sym c.line_block-item.is) in
    let next = first_range so_far.0 c.args.end (drop i line_blocks) (drop (i + 1) line_blocks) p more so_far.2 in
    let filled = subst (IsFilled c.args.peer.now entries) (sym c.line_block-item.is) (c.requires.filled i p c.loop-line_block-test.true) in (
      p.end,
      omega (arith, so_far.1, next.0, filled.from, filled.to),
      next.1,
      Adds_next c.args.peer.now entries c.args.start so_far.0 p.end so_far.1 (omega (arith, next.0, filled.from, filled.to)) so_far.3
          (Adds_as (ap (λ s. lines_between c.args.peer.now s p.end entries) next.0) c.put_line_block.ensures),
    )

pub returns : goal.returns
returns g c =
    let so_far = c.loop-line_block.invariant in
    let ends = no_range so_far.0 c.args.end (drop c.loop-line_block.line_block-index c.args.line_blocks.now) (drop_all c.loop-line_block.line_block-index c.args.line_blocks.now c.loop-line_block-test.false) so_far.2 in
    Adds_as (ap (λ e. lines_between c.args.peer.now c.args.start e c.args.entries.now) ends) so_far.3
