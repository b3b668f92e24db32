use Rattle.std.proofs.Common.{map, sym, ap, ◌∙◌}
use Rattle.peer_tables.specs.Seats.{seat_of}
use Rattle.lane_deal.proofs.SeatLists.{HoldsUnits-none}
use Rattle.lane_deal.proofs.seats.SeatsSessions.fresh.Goals as goal

pub returns : goal.returns
returns g c number a = HoldsUnits-none number a ∙ ap (map seat_of) (sym c.new.ensures.items)
