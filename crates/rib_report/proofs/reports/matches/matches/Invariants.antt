-- the rows of the seats so far
use Rattle.std.proofs.Common.{◌≡◌, map, take}
use Rattle.std.specs.List.{flat_map}
use Rattle.rib_report.specs.Rows.{table_row}
use Rattle.rib_report.specs.Reports.{matches_of_seat}
use Rattle.peer_tables.specs.Seats.{seat_of}
use Rattle.rib_report.proofs.reports.matches.matches.Given as goal

abbrev pub invariant-loop-seat : goal.invariant-loop-seat
invariant-loop-seat g l = map table_row l.rows.items ≡ flat_map (λ s. matches_of_seat (g.F.Family.bits l.addr) (seat_of s)) (take l.seat-index l.seat-items)
