use Rattle.std.proofs.Common.{◌≡◌, ◌≤◌, ◌-◌, None, map}
use Rattle.lane_deal.proofs.DealerLaws.{SoFar}
use Rattle.lane_deal.proofs.dealer.Dealer+D+Prefix+F+Rules+F.deal.Given as goal

abbrev pub invariant-loop-left : goal.invariant-loop-left
invariant-loop-left g l =
    record {
      count : l.units.count ≡ l.fn.units.count;
      lanes : g.K.Receives.count l.to ≡ g.K.Receives.count l.fn.to;
      sound : map g.R.Failures.failure_count l.files ≡ map g.R.Failures.failure_count l.fn.files;
      none : l.self.blocked_unit ≡ None;
      within : l.left ≤ l.fn.batch;
      far : SoFar (g.K.Receives.received (λ number. g.D.Dealing.lane_of l.fn.self.dealing number (g.K.Receives.count l.fn.to))) l.fn.to l.to l.fn.self l.self l.fn.units (map g.R.Source.remaining l.fn.files) l.units (map g.R.Source.remaining l.files) (l.fn.batch - l.left);
    }

abbrev pub decreases-loop-left : goal.decreases-loop-left
decreases-loop-left g l = l.left
