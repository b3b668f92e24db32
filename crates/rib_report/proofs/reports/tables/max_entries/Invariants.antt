-- the greatest number so far
use Rattle.std.proofs.Common.{◌≡◌, map, take}
use Rattle.peer_tables.specs.Seats.{seat_of}
use Rattle.rib_report.specs.Listings.{most_entries}
use Rattle.rib_report.proofs.reports.tables.max_entries.Given as goal

abbrev pub invariant-loop-seat : goal.invariant-loop-seat
invariant-loop-seat g l = l.most ≡ most_entries (map seat_of (take l.seat-index l.seats))
