use Rattle.lane_deal.proofs.SeatIndexes.{not_there}
use Rattle.lane_deal.proofs.seats.Seats.find.Goals as goal

pub returns-then-self : goal.returns-then-self
returns-then-self g c =
    not_there c.args.self.now.positions.items c.args.self.now.seats.items c.args.number (c.args.self.now.indexed c.if-self.true)
    (λ at known here. let found = c.remembered.ensures.all at known here in let none = c.in_default.is in cc)
