use Rattle.lane_deal.proofs.Working.{TookKnown-more}
use Rattle.lane_deal.proofs.worker.Worker+S+Prefix+F+Rules+F.take_all_known.Goals as goal

pub loop-alloc-preserved : goal.loop-alloc-preserved
loop-alloc-preserved g c = TookKnown-more g.S.Sessions.stands_for c.args.self.now c.loop-alloc.self c.take_list.new.self c.loop-alloc.invariant c.in_ok-take_list.ensures
