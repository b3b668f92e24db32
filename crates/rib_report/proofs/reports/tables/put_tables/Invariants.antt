-- the tables so far, and the room of the lists
use Rattle.std.proofs.Common.{◌≤◌, map, take}
use Rattle.std.specs.Prelude.{vec_capacity}
use Rattle.std.specs.List.{flat_map}
use Rattle.peer_tables.specs.Seats.{seat_of}
use Rattle.report_lines.specs.Texts.{Adds}
use Rattle.rib_report.specs.Listings.{seat_lines, most_entries}
use Rattle.rib_report.proofs.reports.tables.put_tables.Given as goal

abbrev pub invariant-loop-seat : goal.invariant-loop-seat
invariant-loop-seat g l = record {
  ids : most_entries (map seat_of l.seats) ≤ vec_capacity l.ids;
  all : most_entries (map seat_of l.seats) ≤ vec_capacity l.all;
  written : Adds (g.T.Text.state l.initial.text) (g.T.Text.state l.text) (flat_map (λ s. seat_lines l.layout (seat_of s)) (take l.seat-index l.seats));
}
