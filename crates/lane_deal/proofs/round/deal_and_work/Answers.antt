use Rattle.std.proofs.Common.{sym}
use Rattle.lane_deal.proofs.round.deal_and_work.Goals as goal

-- what the dealing closure was lent is what it gives back
pub returns-clause-deals : goal.returns-clause-deals
returns-clause-deals g c =
    let dealt = c.join_mut-worked.ensures.1.met in
    let held = dealt.0 in
    rw (c.senders-1.given.1 (sym held.8), c.units-1.given.1 (sym held.6), c.files-1.given.1.1 (sym held.7), c.dealer-1.given.1 (sym held.0)) dealt.1
