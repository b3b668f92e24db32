use Rattle.std.proofs.Common.{◌≡◌, None}
use Rattle.lane_deal.proofs.DealerLaws.{Taken}
use Rattle.lane_deal.proofs.dealer.Dealer+D+Prefix+F+Rules+F.deal_lent.Given as goal

abbrev pub invariant-loop-taken : goal.invariant-loop-taken
invariant-loop-taken g l =
    record {
      lanes : g.K.Receives.count l.to ≡ g.K.Receives.count l.fn.to;
      dealing : l.self.dealing ≡ l.fn.self.dealing;
      none : l.self.blocked_unit ≡ None;
      far : Taken (g.K.Receives.received (λ number. g.D.Dealing.lane_of l.fn.self.dealing number (g.K.Receives.count l.fn.to))) l.fn.to l.to l.fn.self l.self l.initial.entries l.entries l.taken;
    }
