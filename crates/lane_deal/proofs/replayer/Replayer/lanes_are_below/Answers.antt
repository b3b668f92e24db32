use Rattle.std.proofs.Common.{◌≡◌, ◌<◌, length, sym, ◌∙◌, subst, arith}
use Rattle.lane_deal.proofs.Bridges.{length-lane_states}
use Rattle.lane_deal.proofs.replayer.Replayer.lanes_are_below.Goals as goal

pub returns : goal.returns
returns g c =
    let self = c.args.self.now in
    let count = length-lane_states self.senders.items self.workers.items (self.ready c.requires).0 in
    let lanes : c.len-lanes.result ≡ length self.senders.items = omega arith in
    λ n. subst (λ m. g.D.Dealing.lane_of self.dealer.dealing n m < m) (lanes ∙ sym count) (c.lanes_are_below.ensures n)
