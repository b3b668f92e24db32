use Rattle.std.proofs.Common.{◌∙◌, ap, arith, length}
use Rattle.std.specs.FinMap as finite
use Rattle.peer_tables.specs.Seats.{seat_of}
use Rattle.peer_tables.proofs.RowLaws.{flat_map_twice}
use Rattle.rib_report.specs.Listings.{reached_lines, seat_lines}
use Rattle.report_lines.proofs.TextLaws.{Adds_as}
use Rattle.report_lines.proofs.JoinLaws.{Adds_item, Adds_items}
use Rattle.rib_report.proofs.LineBlockLaws.{lines_of_seat, most_at}
use Rattle.rib_report.proofs.reports.tables.put_tables.Goals as goal

pub list-requires-clause-ids : goal.list-requires-clause-ids
list-requires-clause-ids g c =
    let most = most_at c.args.seats.now c.loop-seat.seat-index c.seat-item.result c.loop-seat-test.true c.seat-item.is in
    let listed = finite.len-entries c.table.result.now ∙ ap length c.table.ensures in
    omega (arith, listed, most, c.loop-seat.invariant.ids)

pub list-requires-clause-all : goal.list-requires-clause-all
list-requires-clause-all g c =
    let most = most_at c.args.seats.now c.loop-seat.seat-index c.seat-item.result c.loop-seat-test.true c.seat-item.is in
    let listed = finite.len-entries c.table.result.now ∙ ap length c.table.ensures in
    omega (arith, listed, most, c.loop-seat.invariant.all)

pub loop-seat-preserved : goal.loop-seat-preserved
loop-seat-preserved g c =
    let seat = seat_of c.seat-item.result in
    let layout = c.args.layout.now in
    let whole = c.list.ensures.entries ∙ c.table.ensures in
    let own = ap (reached_lines (record { key = seat.key; layout = layout })) c.as_slice.ensures.value ∙ lines_of_seat layout seat c.list.new.all.items whole in
    record {
      ids = omega (arith, c.loop-seat.invariant.ids, c.list.ensures.ids);
      all = omega (arith, c.loop-seat.invariant.all, c.list.ensures.all);
      written = Adds_item (λ s. seat_lines layout (seat_of s)) c.args.seats.now c.loop-seat.seat-index c.seat-item.result c.loop-seat-test.true c.seat-item.is c.loop-seat.invariant.written (Adds_as own c.put_all_entries.ensures);
    }

pub returns : goal.returns
returns g c =
    let seats = c.args.seats.now in
    Adds_as (flat_map_twice seat_of (seat_lines c.args.layout.now) seats) (Adds_items (λ s. seat_lines c.args.layout.now (seat_of s)) seats c.loop-seat.seat-index c.loop-seat-test.false c.loop-seat.invariant.written)
