use Rattle.lane_deal.proofs.Working.{TakesAhead-all}
use Rattle.lane_deal.proofs.alone.Alone.take_waiting.Goals as goal

pub returns : goal.returns
returns g c = (
  (λ before items ahead.
      TakesAhead-all g.S.Sessions.stands_for before c.args.self.now.worker c.take_decoded.new.self c.args.self.now.waiting items ahead c.in_ok-take_decoded.ensures),
  c.clear.ensures,
)
