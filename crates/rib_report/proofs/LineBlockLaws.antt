-- The lines of entries.
use Rattle.std.proofs.Common.{◌≡◌, ℕ, ◌+◌, ◌<◌, ◌≤◌, List, [], ◌∷◌, ◌++◌, refl, sym, ap, ◌∙◌, subst, map, length, get_or, take, max}
use Rattle.std.specs.List.{flat_map}
use Rattle.std.proofs.lemmas.List.{take_more}
use Rattle.std.proofs.lemmas.List.Concat.{flat_map-append}
use Rattle.std.proofs.lemmas.List.Recursion.{max_push, max_bounds}
use Rattle.bgp_prefix.specs.Keys.{RouteKey}
use Rattle.bgp_update.specs.declared.route.Route.{Route}
use Rattle.peer_tables.specs.declared.tables.Seated.{Seated}
use Rattle.peer_tables.specs.Tables.{Seat}
use Rattle.peer_tables.specs.Seats.{seat_of}
use Rattle.peer_tables.proofs.RowLaws.{flat_map_twice}
use Rattle.report_request.specs.Plain.{Layout}
use Rattle.rib_report.specs.Reports.{entry_row, rows_of_seat}
use Rattle.rib_report.specs.Lines.{route_line}
use Rattle.rib_report.specs.Listings.{reached_lines, seat_lines, most_entries}

-- a list of all entries of a peer's table
pub lines_of_seat : (layout : Layout) (seat : Seat) (entries : List (RouteKey × Route)) → entries ≡ seat.session.table → reached_lines (record { key = seat.key; layout = layout }) entries ≡ seat_lines layout seat
lines_of_seat layout seat entries whole =
    flat_map_twice (entry_row seat.key) (route_line layout) entries ∙ ap (λ (es : List (RouteKey × Route)). flat_map (route_line layout) (map (entry_row seat.key) es)) whole

-- the rows of every table
pub lines_of_seats : (layout : Layout) (seats : List Seat) → flat_map (seat_lines layout) seats ≡ flat_map (route_line layout) (flat_map rows_of_seat seats)
lines_of_seats layout [] = refl
lines_of_seats layout (seat ∷ seats) = ap (λ l. seat_lines layout seat ++ l) (lines_of_seats layout seats) ∙ sym (flat_map-append (route_line layout) (rows_of_seat seat) (flat_map rows_of_seat seats))

-- a loop's step: the greatest number of one table more
pub most_more : {M A : Type 0} (seats : List (Seated M A)) (i : ℕ) (seat : Seated M A) → i < length seats → seat ≡ get_or seats i seat
    → most_entries (map seat_of (take (i + 1) seats)) ≡ max (most_entries (map seat_of (take i seats))) (length (seat_of seat).session.table)
most_more {M = M} {A = A} seats i seat below at =
    ap (λ l. most_entries (map seat_of l)) (take_more seats i seat below ∙ ap (λ s. take i seats ++ s ∷ []) (sym at))
    ∙ max_push (λ (l : List (Seated M A)). most_entries (map seat_of l)) (λ s. length (seat_of s).session.table) refl (λ s l. refl) (take i seats) seat

-- no table has more
pub most_at : {M A : Type 0} (seats : List (Seated M A)) (i : ℕ) (seat : Seated M A) → i < length seats → seat ≡ get_or seats i seat
    → length (seat_of seat).session.table ≤ most_entries (map seat_of seats)
most_at {M = M} {A = A} seats i seat below at =
    subst (λ (s : Seated M A). length (seat_of s).session.table ≤ most_entries (map seat_of seats)) (sym at)
    (max_bounds (λ (l : List (Seated M A)). most_entries (map seat_of l)) (λ s. length (seat_of s).session.table) refl (λ s l. refl) seats i seat below)
