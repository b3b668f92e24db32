use Rattle.std.proofs.lemmas.Result.{on_ok_weaker}
use Rattle.lane_deal.proofs.Working.{Worked-both}
use Rattle.lane_deal.proofs.worker.WorkerPrefixRulesWorks.run.Goals as goal

pub returns : goal.returns
returns g c = on_ok_weaker _ (λ some. Worked-both g.S.Sessions.stands_for _ _ _ c.in_ok-take_all_known.ensures some) c.poll.ensures
