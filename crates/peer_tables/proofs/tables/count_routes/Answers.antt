use Rattle.std.proofs.Common.{◌≡◌, ◌+◌, ◌-◌, ◌^◌, ◌++◌, ◌∙◌, refl, sym, ap, length, map, take, length-append, arith}
use Rattle.std.specs.Prelude.{min}
use Rattle.std.specs.List.{flat_map}
use Rattle.std.specs.FinMap.{len-entries}
use Rattle.peer_tables.specs.Tables.{Seat}
use Rattle.peer_tables.specs.Seats.{seat_of}
use Rattle.peer_tables.proofs.RowLaws.{pieces_of_all, pieces_more}
use Rattle.peer_tables.proofs.tables.count_routes.Goals as goal

pub loop-seat-preserved : goal.loop-seat-preserved
loop-seat-preserved g c =
    let seat = c.seat-item.result in
    let before = flat_map (λ s. s.session.table) (take c.loop-seat.seat-index c.args.seats.now) in
    let own = seat.session.table in
    let size : length own ≡ c.len.result = ap length (sym c.table.ensures) ∙ sym (len-entries c.table.result.now) ∙ sym c.len.ensures in
    let more = pieces_more (λ s. s.session.table) c.args.seats.now c.loop-seat.seat-index seat before (before ++ own) c.loop-seat-test.true c.seat-item.is refl refl in
    let counted : min (c.loop-seat.count + c.len.result) (2 ^ 64 - 1) ≡ min (length (before ++ own)) (2 ^ 64 - 1) = omega (arith, c.loop-seat.invariant, length-append before own, size) in
    c.saturating_add-count.ensures ∙ counted ∙ ap (λ routes. min (length routes) (2 ^ 64 - 1)) more

pub returns : goal.returns
returns g c =
    c.loop-seat.invariant
    ∙ ap (λ routes. min (length routes) (2 ^ 64 - 1)) (pieces_of_all seat_of (λ (s : Seat). s.session.table) c.args.seats.now (map seat_of c.args.seats.now) c.loop-seat.seat-index c.loop-seat-test.false refl)
