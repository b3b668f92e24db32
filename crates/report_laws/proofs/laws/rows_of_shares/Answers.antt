use Rattle.std.proofs.Common.{sym}
use Rattle.std.specs.List.{filter}
use Rattle.rib_report.specs.Rows.{TableRow}
use Rattle.rib_report.specs.Reports.{is_longest, rows_of_seat, matches_of_seat, peer_churn, peer_row}
use Rattle.rib_report.specs.declared.reports.churn.ChurnRow.{ChurnRow}
use Rattle.rib_report.specs.declared.reports.peers.PeerRow.{PeerRow}
use Rattle.rib_report.proofs.RunLaws.{filter-map}
use Rattle.report_laws.proofs.ShareLaws.{entries_alike, pieces_of_share}
use Rattle.report_laws.proofs.laws.rows_of_shares.Goals as goal

pub returns : goal.returns
returns c = record {
  tables = λ tables is_in. pieces_of_share is_in rows_of_seat (λ (row : TableRow). is_in row.peer) (λ seat. entries_alike is_in seat.key seat.session.table) tables.seats;
  matches = λ tables is_in addr. pieces_of_share is_in (matches_of_seat addr) (λ (row : TableRow). is_in row.peer)
      (λ seat. entries_alike is_in seat.key (filter (is_longest addr seat.session.table) seat.session.table)) tables.seats;
  churn = λ tables is_in. sym (filter-map (λ (row : ChurnRow). is_in row.peer) peer_churn tables.seats);
  peers = λ tables is_in. sym (filter-map (λ (row : PeerRow). is_in row.peer) peer_row tables.seats);
}
