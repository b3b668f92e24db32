use Rattle.std.proofs.Common.{List, map, sym, ap, ◌∙◌, arith}
use Rattle.std.proofs.lemmas.List.{with_items_is}
use Rattle.std.proofs.lemmas.Result.{on_ok_weaker}
use Rattle.peer_tables.specs.Tables.{Seat, TablesState, chosen_seat, chosen_tables}
use Rattle.peer_tables.specs.Seats.{seat_of}
use Rattle.peer_tables.proofs.ChosenLaws.{open_where}
use Rattle.peer_tables.proofs.Retained.{chosen_seats}
use Rattle.peer_tables.proofs.tables.Tables.retain.Goals as goal

pub returns-then-is_open : goal.returns-then-is_open
returns-then-is_open g c = open_where c.args.chosen.now c.args.self.now (sym c.is_open.ensures ∙ c.if-is_open.true)

pub returns : goal.returns
returns g c =
    let choices = c.args.chosen.now in
    let of_seat = seat_of {M = g.row.M.Denot} in
    let whole : List Seat → TablesState = λ l. record { seats = l; refused = c.self.inside.refused.items } in
    let same = with_items_is c.self.inside.seats c.retain_all.new.seats (let now = c.retain_all.auto.seats in let was = c.deref_mut.ensures.len in omega (arith, now, was, c.self.inside.seats.ok.0)) in
    on_ok_weaker c.retain_all.result
    (λ left.
    ap (λ l. whole (map of_seat l)) same
    ∙ ap whole (chosen_seats of_seat choices c.deref_mut.result.now c.retain_all.new.seats left ∙ ap (λ l. map (chosen_seat choices) (map of_seat l)) c.deref_mut.ensures.value)
    ∙ ap (chosen_tables choices) c.self.view_is)
    c.retain_all.ensures
