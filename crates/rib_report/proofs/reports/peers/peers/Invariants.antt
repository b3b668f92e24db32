-- the rows of the seats so far
use Rattle.std.proofs.Common.{◌≡◌, map, take}
use Rattle.rib_report.specs.Reports.{peer_row}
use Rattle.peer_tables.specs.Seats.{seat_of}
use Rattle.rib_report.proofs.reports.peers.peers.Given as goal

abbrev pub invariant-loop-seat : goal.invariant-loop-seat
invariant-loop-seat g l = l.rows.items ≡ map (λ s. peer_row (seat_of s)) (take l.seat-index l.seat-items)
