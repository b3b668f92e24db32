use Rattle.std.proofs.Common.{◌∙◌}
use Rattle.rib_report.specs.Reports.{peer_row}
use Rattle.peer_tables.specs.Seats.{seat_of}
use Rattle.peer_tables.proofs.RowLaws.{rows_of_all}
use Rattle.rib_report.proofs.reports.peers.peers.Goals as goal

pub returns : goal.returns
returns g c = c.loop-seat.invariant ∙ rows_of_all seat_of peer_row c.seats-seat-items.result.now c.args.tables.now.seats c.loop-seat.seat-index c.loop-seat-test.false c.seats-seat-items.ensures
