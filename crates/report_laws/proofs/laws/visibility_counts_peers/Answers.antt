use Rattle.bgp_prefix.specs.Prefixes.{prefix_eq}
use Rattle.bgp_prefix.proofs.KeyLaws.{prefix_cmp_total, prefix_cmp_exact, prefix_tied}
use Rattle.rib_report.specs.Reports.{seat_prefixes}
use Rattle.rib_report.proofs.CountLaws.{entries_tell, entries_sorted}
use Rattle.report_laws.proofs.DefinedLaws.{visibility_is}
use Rattle.report_laws.proofs.laws.visibility_counts_peers.Goals as goal

pub returns : goal.returns
returns c = record {
  rows = λ tables. entries_tell prefix_cmp_total prefix_cmp_exact prefix_eq prefix_tied seat_prefixes tables.seats _ (visibility_is tables);
  sorted = λ tables. entries_sorted prefix_cmp_total prefix_cmp_exact prefix_eq prefix_tied seat_prefixes tables.seats _ (visibility_is tables);
}
