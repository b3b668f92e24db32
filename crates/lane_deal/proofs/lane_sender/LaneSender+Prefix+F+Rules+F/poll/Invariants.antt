use Rattle.std.proofs.Common.{◌≡◌, []}
use Rattle.lane_deal.specs.LaneSenders.{Pushed}
use Rattle.lane_deal.proofs.lane_sender.LaneSender+Prefix+F+Rules+F.poll.Given as goal

abbrev pub invariant-loop-look : goal.invariant-loop-look
invariant-loop-look g l = Pushed l.initial.self l.self [] × (l.self.dealt ≡ l.initial.self.dealt)
