use Rattle.std.proofs.Common.{◌≡◌, ◌∙◌, ap, sym, ◌++◌, append-nil}
use Rattle.std.specs.List.{dedup}
use Rattle.std.proofs.lemmas.List.Filters.{dedup_is}
use Rattle.bgp_prefix.specs.Ordered.{in_order}
use Rattle.peer_tables.specs.Seats.{seat_of}
use Rattle.rib_report.specs.Reports.{seat_origins, pair_cmp, pair_eq}
use Rattle.rib_report.proofs.OriginLaws.{deduped_pairs}
use Rattle.rib_report.proofs.reports.origins.Tuple2PrefixU32ListedSeated.list_of_seat.Goals as goal

pub returns : goal.returns
returns g c =
    let sorted = c.sort.new.self.items in
    let left : c.dedup.new.self.items ≡ dedup pair_eq sorted = dedup_is pair_eq sorted c.dedup.new.self.items c.dedup.ensures.filtered in
    let pairs = c.add_origins.new.pairs.items in
    let own = seat_origins (seat_of {M = g.row.M.Denot} c.args.seat.now) in
    left ∙ deduped_pairs sorted pairs c.in_ok-sort.ensures.sorted c.sort.ensures.permutation ∙ ap (in_order pair_cmp) (c.in_ok-add_origins.ensures ∙ ap (λ l. l ++ own) c.in_ok-pairs.ensures.items ∙ sym (append-nil own))
