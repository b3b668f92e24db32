use Rattle.std.proofs.Common.{◌∙◌, sym, ap, map, take, take_all, max, length}
use Rattle.std.specs.FinMap as finite
use Rattle.peer_tables.specs.Seats.{seat_of}
use Rattle.rib_report.specs.Listings.{most_entries}
use Rattle.rib_report.proofs.LineBlockLaws.{most_more}
use Rattle.rib_report.proofs.reports.tables.max_entries.Goals as goal

pub loop-seat-preserved : goal.loop-seat-preserved
loop-seat-preserved g c =
    let seats = c.args.seats.now in
    let seat = c.seat-item.result in
    let most = most_entries (map seat_of (take c.loop-seat.seat-index seats)) in
    c.max-most.ensures ∙ ap (λ n. max n c.len.result) c.loop-seat.invariant ∙ ap (max most) (c.len.ensures ∙ finite.len-entries c.table.result.now ∙ ap length c.table.ensures)
    ∙ sym (most_more seats c.loop-seat.seat-index seat c.loop-seat-test.true c.seat-item.is)

pub returns : goal.returns
returns g c = c.loop-seat.invariant ∙ ap (λ l. most_entries (map seat_of l)) (take_all c.loop-seat.seat-index c.args.seats.now c.loop-seat-test.false)
