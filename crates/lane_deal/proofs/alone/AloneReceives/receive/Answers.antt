use Rattle.std.proofs.lemmas.Result.{on_ok_weaker}
use Rattle.lane_deal.proofs.Working.{TakesAhead-more, TakesAhead-from}
use Rattle.lane_deal.proofs.alone.AloneReceives.receive.Goals as goal

pub returns-clause-received : goal.returns-clause-received
returns-clause-received g c =
    on_ok_weaker c.take_waiting.result
    (λ took lane_of at before given ahead.
    TakesAhead-from g.S.Sessions.stands_for before c.take_waiting.new.self.worker c.take_waiting.new.self.waiting _
    (took.0 before _ (TakesAhead-more g.S.Sessions.stands_for before c.args.self.now.worker c.args.self.now.waiting c.push.new.self given (record { number = c.args.number; unit = c.args.unit.now }) ahead c.in_ok-push.ensures.heads c.in_ok-push.ensures.events)) took.1)
    c.take_waiting.ensures
