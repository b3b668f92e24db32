use Rattle.std.proofs.Common.{◌≡◌, ◌∙◌, ap, map, sym}
use Rattle.std.specs.List.{dedup}
use Rattle.std.specs.FinMap.{entries_sorted, is_sorted}
use Rattle.std.proofs.lemmas.List.Filters.{dedup_is}
use Rattle.bgp_prefix.specs.Keys.{RouteKey, key_cmp}
use Rattle.bgp_prefix.specs.Ordered.{in_order}
use Rattle.bgp_prefix.specs.Prefixes.{prefix_cmp, prefix_eq}
use Rattle.bgp_update.specs.declared.route.Route.{Route}
use Rattle.peer_tables.specs.Seats.{seat_of}
use Rattle.rib_report.specs.Reports.{HasOrder}
use Rattle.rib_report.proofs.CountLaws.{true_of}
use Rattle.rib_report.proofs.VisibilityLaws.{deduped_prefixes}
use Rattle.rib_report.proofs.reports.visibility.prefixes_of_seat.Goals as goal

pub returns : goal.returns
returns g c =
    let seat = seat_of {M = g.row.M.Denot} c.args.seat.now in
    let all = c.in_ok-prefixes.prefixes.items in
    let left : c.dedup.new.self.items ≡ dedup prefix_eq all = dedup_is prefix_eq all c.dedup.new.self.items c.dedup.ensures.filtered in
    let ordered : HasOrder seat = ap (is_sorted key_cmp) (sym c.table.ensures) ∙ true_of _ (entries_sorted c.table.result.now) in
    left ∙ ap (dedup prefix_eq) (c.in_ok-prefixes.ensures ∙ ap (map (λ (e : RouteKey × Route). e.0.prefix)) c.table.ensures) ∙ deduped_prefixes seat ordered
