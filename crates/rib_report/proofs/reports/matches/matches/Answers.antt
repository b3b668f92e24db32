use Rattle.std.proofs.Common.{◌∙◌}
use Rattle.rib_report.specs.Reports.{matches_of_seat}
use Rattle.peer_tables.specs.Seats.{seat_of}
use Rattle.peer_tables.proofs.RowLaws.{pieces_of_all}
use Rattle.rib_report.proofs.reports.matches.matches.Goals as goal

pub returns : goal.returns
returns g c = c.loop-seat.invariant ∙ pieces_of_all seat_of (matches_of_seat (g.F.Family.bits c.args.addr)) c.seats-seat-items.result.now c.args.tables.now.seats c.loop-seat.seat-index c.loop-seat-test.false c.seats-seat-items.ensures
