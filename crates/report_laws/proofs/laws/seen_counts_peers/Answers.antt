use Rattle.rib_report.specs.Reports.{seat_prefix_origins, prefix_origin_eq}
use Rattle.rib_report.proofs.CountLaws.{entries_tell, entries_sorted}
use Rattle.rib_report.proofs.SeenLaws.{prefix_origin_total, prefix_origin_exact, prefix_origin_tied}
use Rattle.report_laws.proofs.DefinedLaws.{seen_is}
use Rattle.report_laws.proofs.laws.seen_counts_peers.Goals as goal

pub returns : goal.returns
returns c = record {
  rows = λ tables prefix origin. entries_tell prefix_origin_total prefix_origin_exact prefix_origin_eq prefix_origin_tied seat_prefix_origins tables.seats _ (seen_is tables) (prefix, origin);
  sorted = λ tables. entries_sorted prefix_origin_total prefix_origin_exact prefix_origin_eq prefix_origin_tied seat_prefix_origins tables.seats _ (seen_is tables);
}
