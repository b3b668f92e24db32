use Rattle.std.proofs.Common.{sym, ap, ◌∙◌, subst}
use Rattle.lane_deal.specs.Seating.{AreIndexed}
use Rattle.lane_deal.proofs.SeatLists.{TakenAt-from, numbers_stay_at}
use Rattle.lane_deal.proofs.seats.Seats.take_at.Goals as goal

pub returns : goal.returns
returns g c = λ unit means.
    let is = c.index_mut.ensures.value in
    rw is (TakenAt-from c.take_event.result c.args.self.now.seats.items c.args.at unit c.index_mut.result.now c.take_event.new.self c.requires (λ before h. c.take_event.ensures.stands before unit (ap (λ s. s.session) is ∙ h) means))

pub invariant_of-self : goal.invariant_of-self
invariant_of-self g c =
    let is = c.index_mut.ensures.value in
    let same = rw (← is) at (numbers_stay_at c.args.self.now.seats.items c.args.at c.index_mut.result.now c.take_event.new.self c.requires) in
    record { indexed = λ h. subst (AreIndexed c.args.self.now.positions.items) (sym same) (c.args.self.now.indexed h) }
