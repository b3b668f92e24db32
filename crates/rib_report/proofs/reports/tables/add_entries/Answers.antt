use Rattle.std.proofs.Common.{◌∙◌, ap, map, ◌++◌}
use Rattle.rib_report.specs.Rows.{table_row}
use Rattle.rib_report.specs.Reports.{entry_row}
use Rattle.std.proofs.lemmas.List.{take_all}
use Rattle.rib_report.proofs.reports.tables.add_entries.Goals as goal

pub returns : goal.returns
returns g c =
    let entries = c.as_slice-entry-items.result.now in
    let seat = c.args.seat.now in
    let seen = c.as_slice-entry-items.ensures.value ∙ c.in_ok-entries.ensures ∙ c.table.ensures in
    c.loop-entry.invariant ∙ ap (λ l. map table_row c.args.rows.now.items ++ map (entry_row seat.key) l) (take_all c.loop-entry.entry-index entries c.loop-entry-test.false ∙ seen)
