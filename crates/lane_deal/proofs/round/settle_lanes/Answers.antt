use Rattle.std.proofs.lemmas.Result.{on_ok_weaker}
use Rattle.lane_deal.proofs.LaneRounds.{lanes_stay, Settled-from}
use Rattle.lane_deal.proofs.Deals.{Dealt-none}
use Rattle.lane_deal.proofs.round.settle_lanes.Goals as goal

pub renew_all-requires-clause-pairs : goal.renew_all-requires-clause-pairs
renew_all-requires-clause-pairs g c =
    lanes_stay g.S.Sessions.stands_for c.args.capacity (λ n. n) _ _ _ _ _ c.requires.ready (Dealt-none (λ n. n) _) c.in_ok-run_all.ensures

pub returns : goal.returns
returns g c =
    on_ok_weaker _ (λ renewed. Settled-from g.S.Sessions.stands_for c.args.capacity _ _ _ _ _ c.requires.ready c.in_ok-run_all.ensures renewed) c.renew_all.ensures
