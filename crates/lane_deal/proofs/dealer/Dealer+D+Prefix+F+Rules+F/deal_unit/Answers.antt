use Rattle.std.proofs.Common.{◌≡◌, ℕ, ◌+◌, ◌-◌, ◌^◌, [], ◌∷◌, ◌∙◌, ap}
use Rattle.std.specs.Prelude.{min}
use Rattle.lane_deal.proofs.dealer.Dealer+D+Prefix+F+Rules+F.deal_unit.Goals as goal

pub returns-clause-deals : goal.returns-clause-deals
returns-clause-deals g c =
    let lane_of : ℕ → ℕ = λ number. g.D.Dealing.lane_of c.args.self.now.dealing number (g.K.Receives.count c.args.to.now) in
    let same = c.lane_for.ensures.same in
    let number = c.in_ok-number.number in
    let lane : lane_of number ≡ c.in_ok-number.lane = (let l = c.in_ok-number.ensures.lane in let n = c.lanes.ensures in cc) in
    record {
      number = number;
      numbers = c.in_ok-number.ensures.numbers;
      dealing = ap (λ o. o.dealing) same;
      blocked_unit = ap (λ o. o.blocked_unit) same;
      refused = ap (λ o. o.refused) same;
      counted = c.saturating_add-self.ensures ∙ ap (λ n. min (n + 1) (2 ^ 64 - 1)) (ap (λ o. o.dealt) same);
      received = c.adds_up.ensures.joined lane_of c.args.to.now c.has_room.new.self c.receive.new.self [] (record { number = number; unit = c.args.unit.now } ∷ []) (c.if-not-has_room.ensures.looked lane_of) (c.in_ok-receive.ensures.received lane_of lane);
      full = λ clash. absurd (cc);
    }
