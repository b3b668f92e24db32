use Rattle.std.proofs.Common.{◌≡◌, ◌∙◌, ap}
use Rattle.std.specs.List.{dedup}
use Rattle.std.specs.Ordering.{is_lt}
use Rattle.std.proofs.lemmas.List.Filters.{dedup_is}
use Rattle.std.proofs.lemmas.List.Sorted.{answers_always, ranks_by}
use Rattle.bgp_prefix.specs.Ordered.{in_order}
use Rattle.rib_report.specs.Reports.{prefix_origin_cmp, prefix_origin_eq}
use Rattle.rib_report.proofs.SeenLaws.{prefix_origin_total, deduped_prefix_origins}
use Rattle.rib_report.proofs.reports.seen.pairs_of_seat.Goals as goal

pub returns : goal.returns
returns g c =
    let sorted = c.sort_by.new.self.items in
    let up = c.in_ok-sort_by.ensures.sorted _ (ranks_by prefix_origin_total (λ e. e)) (answers_always _ _ _ (λ f a r next called. ap is_lt called.met)) in
    let left : c.dedup.new.self.items ≡ dedup prefix_origin_eq sorted = dedup_is prefix_origin_eq sorted c.dedup.new.self.items c.dedup.ensures.filtered in
    left ∙ deduped_prefix_origins sorted c.in_ok-pairs.pairs.items up c.sort_by.ensures.permutation ∙ ap (in_order prefix_origin_cmp) c.in_ok-pairs.ensures
