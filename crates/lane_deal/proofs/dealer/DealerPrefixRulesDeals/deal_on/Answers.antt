use Rattle.lane_deal.specs.LaneSenders.{Dealt}
use Rattle.lane_deal.proofs.Asking.{answered_as}
use Rattle.lane_deal.proofs.DealerLaws.{DealsTo-as}
use Rattle.lane_deal.proofs.dealer.DealerPrefixRulesDeals.deal_on.Goals as goal

pub returns : goal.returns
returns g c = record {
  lanes = c.deal.ensures.lanes;
  reads = c.deal.ensures.reads;
  at_end = c.deal.ensures.at_end;
  deals = answered_as c.deal.result _ _ (DealsTo-as _ (Dealt _) _ _ _ _ _ c.args.senders.now.items c.deal.new.to.items _ _ _ _ _ _ _ (λ items p. p)) c.deal.ensures.deals;
}
