use Rattle.std.proofs.Common.{◌∙◌, ap}
use Rattle.report_lines.proofs.TextLaws.{Adds_as}
use Rattle.rib_report.proofs.LineBlockLists.{Adds_next}
use Rattle.rib_report.proofs.reports.tables.line_block.put_line_block.Goals as goal

pub returns : goal.returns
returns g c =
    let p = c.args.line_block.now in
    let filled = c.requires in
    Adds_next c.args.peer.now c.args.entries.now p.start p.done p.end filled.from filled.to (Adds_as (c.as_slice.ensures ∙ ap (λ b. b.waiting) filled.text) c.put_text.ensures) c.put_entries.ensures
