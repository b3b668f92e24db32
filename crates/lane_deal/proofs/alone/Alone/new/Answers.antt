use Rattle.std.proofs.Common.{arith}
use Rattle.lane_deal.proofs.Working.{TakesAhead-none}
use Rattle.lane_deal.proofs.alone.Alone.new.Goals as goal

pub returns-clause-none : goal.returns-clause-none
returns-clause-none g c = TakesAhead-none g.S.Sessions.stands_for c.args.worker c.new.result (omega arith) c.new.ensures
