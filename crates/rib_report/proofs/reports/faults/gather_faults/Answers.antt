use Rattle.std.proofs.Common.{◌∙◌, ap, ◌++◌}
use Rattle.peer_tables.specs.Tables.{Seat}
use Rattle.peer_tables.specs.Seats.{seat_of}
use Rattle.peer_tables.proofs.RowLaws.{pieces_of_all}
use Rattle.rib_report.proofs.reports.faults.gather_faults.Goals as goal

pub returns : goal.returns
returns g c = c.loop-seat.invariant ∙ ap (λ l. c.args.tables.now.refused ++ l) (pieces_of_all seat_of (λ (s : Seat). s.session.faults) c.seats-seat-items.result.now c.args.tables.now.seats c.loop-seat.seat-index c.loop-seat-test.false c.seats-seat-items.ensures)
