use Rattle.std.proofs.Common.{[]}
use Rattle.lane_deal.proofs.Asking.{answered_as}
use Rattle.lane_deal.proofs.DealerLaws.{DealsTo-as}
use Rattle.lane_deal.proofs.round.deal_alone.Goals as goal

pub returns-in-Ok-clause-deals : goal.returns-in-Ok-clause-deals
returns-in-Ok-clause-deals g c =
    let took = rw c.in-Ok.is at c.into_worker-worker.ensures in
    answered_as c.deal-step.result _ _
    (DealsTo-as _ _ _ _ _ _ _ c.args.worker c.into_worker-worker.result.0 _ _ _ _ _ _ _
    (λ items gets. took c.args.worker items (gets c.args.worker [] c.new-alone.ensures.none)))
    c.deal-step.ensures.deals
