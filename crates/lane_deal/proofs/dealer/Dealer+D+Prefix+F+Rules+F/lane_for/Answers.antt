use Rattle.std.proofs.Common.{ap}
use Rattle.std.proofs.Props.{props}
use Rattle.std.specs.Option.{ForSome}
use Rattle.peer_units.specs.Payloads.{IsSmallUnit}
use Rattle.lane_deal.proofs.dealer.Dealer+D+Prefix+F+Rules+F.lane_for.Goals as goal

-- what is known of the kept unit has one proof
pub returns-in_err-number-clause-same : goal.returns-in_err-number-clause-same
returns-in_err-number-clause-same g c =
    let one : IsProp (ForSome c.args.self.now.blocked_unit IsSmallUnit) = hlevel props in
    ap (λ s. record c.args.self.now { peers = c.number_of.new.self; small = s }) (one _ _)

pub returns-clause-same : goal.returns-clause-same
returns-clause-same g c =
    let one : IsProp (ForSome c.args.self.now.blocked_unit IsSmallUnit) = hlevel props in
    ap (λ s. record c.args.self.now { peers = c.number_of.new.self; small = s }) (one _ _)
