use Rattle.rib_report.specs.Reports.{is_visible_at, is_seen_at}
use Rattle.report_laws.proofs.ShareLaws.{count_of_shares}
use Rattle.report_laws.proofs.laws.counts_are_sums_over_shares.Goals as goal

pub returns : goal.returns
returns c = record {
  visibility = λ tables is_in prefix. count_of_shares (is_visible_at prefix) (λ seat. is_in seat.key) tables.seats;
  seen = λ tables is_in prefix origin. count_of_shares (is_seen_at (prefix, origin)) (λ seat. is_in seat.key) tables.seats;
}
