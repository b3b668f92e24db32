use Rattle.std.proofs.Common.{◌≡◌, ◌∙◌, [], ◌∷◌, map}
use Rattle.std.proofs.lemmas.Result.{IfOk-weaker}
use Rattle.peer_tables.specs.Seats.{seat_of}
use Rattle.rib_report.specs.Reports.{visible_among}
use Rattle.rib_report.proofs.VisibilityLaws.{visible_at_one}
use Rattle.rib_report.proofs.reports.visibility.Tuple2PrefixUsizeListedSeated.list_of_seat.Goals as goal

pub returns : goal.returns
returns g c =
    let seat = seat_of {M = g.row.M.Denot} c.args.seat.now in
    IfOk-weaker c.count_once.result (λ counts. counts.items ≡ map (λ p. (p, 1)) c.as_slice.result.now) (λ counts. counts.items ≡ visible_among (seat ∷ []))
    (λ counts h. h ∙ visible_at_one seat c.as_slice.result.now (c.as_slice.ensures.value ∙ c.in_ok-prefixes.ensures)) c.count_once.ensures
