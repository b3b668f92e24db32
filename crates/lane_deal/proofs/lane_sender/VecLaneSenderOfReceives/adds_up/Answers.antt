use Rattle.lane_deal.proofs.Deals.{Dealt-room}
use Rattle.lane_deal.proofs.lane_sender.VecLaneSenderOfReceives.adds_up.Goals as goal

pub returns-clause-spent : goal.returns-clause-spent
returns-clause-spent g c = λ lane_of a b xs lane l p. Dealt-room lane_of a.items b.items xs lane l p
