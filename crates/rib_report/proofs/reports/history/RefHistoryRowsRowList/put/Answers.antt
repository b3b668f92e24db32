use Rattle.std.proofs.Common.{sym}
use Rattle.std.proofs.lemmas.Option.{get_or_from_slice_get}
use Rattle.peer_tables.specs.Histories.{RowState, row_state}
use Rattle.rib_report.specs.HistoryLines.{history_line}
use Rattle.report_lines.proofs.JoinLaws.{Adds_one}
use Rattle.rib_report.proofs.reports.history.RefHistoryRowsRowList.put.Goals as goal

pub returns : goal.returns
returns g c =
    let rows = c.args.self.now.listed in
    let row : RowState = row_state c.at.result in
    Adds_one (history_line c.args.layout.now) rows c.args.at row c.requires (sym (get_or_from_slice_get rows c.args.at row row c.at.ensures)) c.put.ensures
