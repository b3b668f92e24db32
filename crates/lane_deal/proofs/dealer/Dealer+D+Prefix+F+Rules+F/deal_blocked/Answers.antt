use Rattle.std.proofs.Common.{◌≡◌, ℕ, [], ◌∷◌, ◌∙◌, refl, sym, ap, arith}
use Rattle.peer_units.specs.declared.unit.Found.TheVariants as found
use Rattle.lane_deal.specs.ToDeal.{to_deal}
use Rattle.lane_deal.proofs.DealerLaws.{Handles-kept, HandsOn-blocked, HandsOn-dealt, IsFull-blocked, if_none}
use Rattle.lane_deal.proofs.dealer.Dealer+D+Prefix+F+Rules+F.deal_blocked.Goals as goal

pub returns-in_default-clause-deals : goal.returns-in_default-clause-deals
returns-in_default-clause-deals g c =
    let lane_of : ℕ → ℕ = λ number. g.D.Dealing.lane_of c.args.self.now.dealing number (g.K.Receives.count c.args.to.now) in
    let none = sym c.take.ensures.value ∙ c.in_default.is in
    record {
      done = [];
      dealt_is = refl;
      few = omega arith;
      hands = record { handles = Handles-kept c.args.self.now _ refl refl (c.take.ensures.after ∙ sym none) refl refl c.is_counted.ensures; received = c.adds_up.ensures.nothing lane_of c.args.to.now };
      full = if_none _ c.take.new.self c.take.ensures.after;
    }

pub returns-then-not-branch-clause-deals : goal.returns-then-not-branch-clause-deals
returns-then-not-branch-clause-deals g c =
    let lane_of : ℕ → ℕ = λ number. g.D.Dealing.lane_of c.args.self.now.dealing number (g.K.Receives.count c.args.to.now) in
    let room = g.K.Receives.room c.args.to.now in
    let deals = rw c.if-not-branch.true at c.in_ok-deal_unit.ensures.deals in
    let unit = c.as_ref.result in
    let order : to_deal c.args.self.now.blocked_unit [] ≡ found.Unit unit ∷ [] = ap (λ o. to_deal o []) (sym c.take.ensures.value ∙ c.in-Some.is) ∙ ap (λ u. found.Unit u ∷ []) (sym c.as_ref.ensures) in
    record {
      done = [];
      dealt_is = refl;
      few = omega arith;
      hands = HandsOn-blocked _ lane_of room c.args.to.now c.deal_unit.new.to c.args.self.now c.deal_unit.new.self [] unit order _ _ deals refl refl refl refl refl refl refl refl c.in-Some.unit refl (sym c.as_ref.ensures) c.is_counted.ensures;
      full = IsFull-blocked _ lane_of room c.args.to.now c.deal_unit.new.to c.args.self.now c.deal_unit.new.self [] unit order _ _ deals refl c.in-Some.unit refl (sym c.as_ref.ensures);
    }

pub returns-clause-deals : goal.returns-clause-deals
returns-clause-deals g c =
    let lane_of : ℕ → ℕ = λ number. g.D.Dealing.lane_of c.args.self.now.dealing number (g.K.Receives.count c.args.to.now) in
    let room = g.K.Receives.room c.args.to.now in
    let deals = rw c.if-not-branch.false at c.in_ok-deal_unit.ensures.deals in
    let unit = c.as_ref.result in
    let order : to_deal c.args.self.now.blocked_unit [] ≡ found.Unit unit ∷ [] = ap (λ o. to_deal o []) (sym c.take.ensures.value ∙ c.in-Some.is) ∙ ap (λ u. found.Unit u ∷ []) (sym c.as_ref.ensures) in
    record {
      done = unit ∷ [];
      dealt_is = refl;
      few = omega arith;
      hands = HandsOn-dealt _ lane_of room c.args.to.now c.deal_unit.new.to c.args.self.now c.deal_unit.new.self [] unit order _ deals refl refl refl refl c.take.ensures.after;
      full = if_none _ c.deal_unit.new.self.blocked_unit (deals.blocked_unit ∙ c.take.ensures.after);
    }
