use Rattle.std.proofs.Common.{◌+◌, ◌-◌, ◌^◌, ◌∙◌, sym, ap, length, length-append}
use Rattle.std.specs.Prelude.{min}
use Rattle.std.specs.List.{flat_map}
use Rattle.peer_tables.specs.Tables.{Seat}
use Rattle.peer_tables.specs.Seats.{seat_of}
use Rattle.peer_tables.proofs.RowLaws.{pieces_of_all}
use Rattle.peer_tables.proofs.tables.Tables.damaged.Goals as goal

pub returns : goal.returns
returns g c =
    let tables = c.args.self.now in
    let all = pieces_of_all seat_of (λ (s : Seat). s.session.faults) c.seats-seat-items.result.now tables.seats c.loop-seat.seat-index c.loop-seat-test.false c.seats-seat-items.ensures in
    c.loop-seat.invariant ∙ ap (λ n. min n (2 ^ 64 - 1)) (ap (λ l. length tables.refused + length l) all ∙ sym (length-append tables.refused (flat_map (λ (s : Seat). s.session.faults) tables.seats)))
