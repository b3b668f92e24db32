use Rattle.std.proofs.Common.{ap, sym}
use Rattle.peer_tables.specs.Histories.{row_state}
use Rattle.report_lines.specs.LineParts.{listed_behind}
use Rattle.report_lines.proofs.TextLaws.{Adds_as, Adds_trans}
use Rattle.rib_report.proofs.HistoryParts.{history_in_parts}
use Rattle.rib_report.proofs.reports.history.HistoryRowPrefixLine.put.Goals as goal

pub returns-in-Text : goal.returns-in-Text
returns-in-Text g c =
    let layout = c.args.layout.now in
    let row = row_state c.args.self.now in
    Adds_as (history_in_parts layout.format layout row)
    (Adds_trans c.put_event.ensures (Adds_as (ap (λ f. listed_behind f layout row.route) (sym c.in-Text.is)) c.put_text_listed.ensures))

pub returns-in-Json : goal.returns-in-Json
returns-in-Json g c =
    let layout = c.args.layout.now in
    let row = row_state c.args.self.now in
    Adds_as (history_in_parts layout.format layout row)
    (Adds_trans c.put_event.ensures (Adds_as (ap (λ f. listed_behind f layout row.route) (sym c.in-Json.is)) c.put_json_listed.ensures))
