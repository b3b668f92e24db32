use Rattle.lane_deal.proofs.Working.{TookSome-more}
use Rattle.lane_deal.proofs.worker.Worker+S+Prefix+F+Rules+F.poll.Goals as goal

pub loop-empty-preserved : goal.loop-empty-preserved
loop-empty-preserved g c = TookSome-more g.S.Sessions.stands_for c.args.self.now c.loop-empty.self c.take_found.new.self c.loop-empty.invariant c.in_ok-take_found.ensures.took

pub returns-then-last : goal.returns-then-last
returns-then-last g c = TookSome-more g.S.Sessions.stands_for c.args.self.now c.loop-empty.self c.take_found.new.self c.loop-empty.invariant c.in_ok-take_found.ensures.took

pub loop-empty-preserved-then-branch : goal.loop-empty-preserved-then-branch
loop-empty-preserved-then-branch g c = TookSome-more g.S.Sessions.stands_for c.args.self.now c.loop-empty.self c.take_found.new.self c.loop-empty.invariant c.in_ok-take_found.ensures.took
