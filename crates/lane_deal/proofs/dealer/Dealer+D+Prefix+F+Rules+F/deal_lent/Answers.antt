use Rattle.std.proofs.Common.{◌≡◌, ℕ, true, false, [], ◌∷◌, ◌∙◌, refl, ap, subst, arith}
use Rattle.mrt_body.specs.Pending.{units_lent}
use Rattle.peer_units.specs.declared.unit.Found.TheVariants as found
use Rattle.lane_deal.specs.DealerSteps.{DealsUnit}
use Rattle.lane_deal.specs.ToDeal.{to_deal}
use Rattle.lane_deal.proofs.DealerLaws.{HandsOn-none, HandsOn-blocked, HandsOn-dealt, IsFull-blocked, if_none, Taken-none, Taken-more, DealsFront-blocked}
use Rattle.lane_deal.proofs.dealer.Dealer+D+Prefix+F+Rules+F.deal_lent.Goals as goal

pub returns-in-None-clause-deals : goal.returns-in-None-clause-deals
returns-in-None-clause-deals g c =
    record {
      given = [];
      rest = [];
      done = [];
      parts = ap units_lent c.in-None.is;
      taken_is = refl;
      hands = HandsOn-none _ c.args.to.now c.args.self.now c.is_counted.ensures (c.adds_up.ensures.nothing _ c.args.to.now);
      full = if_none _ c.args.self.now.blocked_unit c.requires.free;
    }

pub returns-in_ok-to_unit-in-Unit-clause-deals : goal.returns-in_ok-to_unit-in-Unit-clause-deals
returns-in_ok-to_unit-in-Unit-clause-deals g c =
    let lane_of : ℕ → ℕ = λ number. g.D.Dealing.lane_of c.args.self.now.dealing number (g.K.Receives.count c.args.to.now) in
    let room = g.K.Receives.room c.args.to.now in
    let unit = c.in-Unit.unit in
    let deals = rw c.if-not-branch.true at c.in_ok-deal_unit-in-Unit.ensures.deals in
    let order : to_deal c.args.self.now.blocked_unit (found.Unit unit ∷ []) ≡ found.Unit unit ∷ [] = ap (λ o. to_deal o (found.Unit unit ∷ [])) c.requires.free in
    record {
      given = unit ∷ [];
      rest = [];
      done = [];
      parts = ap units_lent c.in-Unit.is;
      taken_is = refl;
      hands = HandsOn-blocked _ lane_of room c.args.to.now c.deal_unit.new.to c.args.self.now c.deal_unit.new.self (found.Unit unit ∷ []) unit order c.args.self.now _ deals refl refl refl refl refl refl refl refl c.in_ok-to_unit-in-Unit.field-0 refl c.in_ok-to_unit-in-Unit.ensures.copies c.is_counted.ensures;
      full = IsFull-blocked _ lane_of room c.args.to.now c.deal_unit.new.to c.args.self.now c.deal_unit.new.self (found.Unit unit ∷ []) unit order c.args.self.now _ deals refl c.in_ok-to_unit-in-Unit.field-0 refl c.in_ok-to_unit-in-Unit.ensures.copies;
    }

pub returns-else-not-branch-clause-deals : goal.returns-else-not-branch-clause-deals
returns-else-not-branch-clause-deals g c =
    let lane_of : ℕ → ℕ = λ number. g.D.Dealing.lane_of c.args.self.now.dealing number (g.K.Receives.count c.args.to.now) in
    let room = g.K.Receives.room c.args.to.now in
    let unit = c.in-Unit.unit in
    let deals = rw c.if-not-branch.false at c.in_ok-deal_unit-in-Unit.ensures.deals in
    let order : to_deal c.args.self.now.blocked_unit (found.Unit unit ∷ []) ≡ found.Unit unit ∷ [] = ap (λ o. to_deal o (found.Unit unit ∷ [])) c.requires.free in
    record {
      given = unit ∷ [];
      rest = [];
      done = unit ∷ [];
      parts = ap units_lent c.in-Unit.is;
      taken_is = refl;
      hands = HandsOn-dealt _ lane_of room c.args.to.now c.deal_unit.new.to c.args.self.now c.deal_unit.new.self (found.Unit unit ∷ []) unit order c.args.self.now deals refl refl refl refl c.requires.free;
      full = if_none _ c.deal_unit.new.self.blocked_unit (deals.blocked_unit ∙ c.requires.free);
    }

-- ---- entries

pub loop-taken-init : goal.loop-taken-init
loop-taken-init g c = record { lanes = refl; dealing = refl; none = c.requires.free; far = Taken-none _ c.args.to.now c.args.self.now c.in-Entries.entries (omega arith) (c.adds_up.ensures.nothing _ c.args.to.now) }

pub returns-then-not-branch-2-clause-deals : goal.returns-then-not-branch-2-clause-deals
returns-then-not-branch-2-clause-deals g c =
    let lane_of : ℕ → ℕ = λ number. g.D.Dealing.lane_of c.args.self.now.dealing number (g.K.Receives.count c.args.to.now) in
    let i = c.loop-taken.invariant in
    let room = g.K.Receives.room c.loop-taken.to in
    let unit = c.in-Some.unit in
    let deals = subst (λ m. DealsUnit (g.K.Receives.received (λ number. g.D.Dealing.lane_of c.args.self.now.dealing number m)) (λ number. g.D.Dealing.lane_of c.args.self.now.dealing number m) room c.loop-taken.to c.deal_unit-in-loop-taken.new.to c.loop-taken.self c.deal_unit-in-loop-taken.new.self unit false) i.lanes
    (subst (λ d. DealsUnit (g.K.Receives.received (λ number. g.D.Dealing.lane_of d number (g.K.Receives.count c.loop-taken.to))) (λ number. g.D.Dealing.lane_of d number (g.K.Receives.count c.loop-taken.to)) room c.loop-taken.to c.deal_unit-in-loop-taken.new.to c.loop-taken.self c.deal_unit-in-loop-taken.new.self unit false) i.dealing
    (rw c.if-not-branch-2.true at c.in_ok-deal_unit-in-Entries.ensures.deals)) in
    let order : to_deal c.loop-taken.self.blocked_unit (found.Unit unit ∷ []) ≡ found.Unit unit ∷ [] = ap (λ o. to_deal o (found.Unit unit ∷ [])) i.none in
    let counted = i.far.hands.handles.counted in
    rw c.in-Entries.is
    (DealsFront-blocked _ (c.adds_up.ensures.joined lane_of) c.args.to.now c.loop-taken.to c.deal_unit-in-loop-taken.new.to c.args.self.now c.loop-taken.self _ c.in-Entries.entries c.loop-taken.entries c.next.new.self c.loop-taken.taken unit c.in-Some.ensures.lends i.far lane_of room (g.K.Receives.room c.args.to.now)
    (HandsOn-blocked _ lane_of room c.loop-taken.to c.deal_unit-in-loop-taken.new.to c.loop-taken.self c.deal_unit-in-loop-taken.new.self (found.Unit unit ∷ []) unit order c.loop-taken.self _ deals refl refl refl refl refl refl refl refl c.in_ok-to_unit-in-Entries.field-0 refl c.in_ok-to_unit-in-Entries.ensures.copies (omega (arith, counted)))
    (IsFull-blocked _ lane_of room c.loop-taken.to c.deal_unit-in-loop-taken.new.to c.loop-taken.self c.deal_unit-in-loop-taken.new.self (found.Unit unit ∷ []) unit order c.loop-taken.self _ deals refl c.in_ok-to_unit-in-Entries.field-0 refl c.in_ok-to_unit-in-Entries.ensures.copies)
    (λ n. c.adds_up.ensures.spent lane_of c.args.to.now c.loop-taken.to _ (lane_of n) (g.met.D.Dealing.is_below c.args.self.now.dealing n (g.K.Receives.count c.args.to.now) c.requires.lanes) i.far.hands.received))

pub loop-taken-preserved : goal.loop-taken-preserved
loop-taken-preserved g c =
    let lane_of : ℕ → ℕ = λ number. g.D.Dealing.lane_of c.args.self.now.dealing number (g.K.Receives.count c.args.to.now) in
    let i = c.loop-taken.invariant in
    let room = g.K.Receives.room c.loop-taken.to in
    let unit = c.in-Some.unit in
    let deals = subst (λ m. DealsUnit (g.K.Receives.received (λ number. g.D.Dealing.lane_of c.args.self.now.dealing number m)) (λ number. g.D.Dealing.lane_of c.args.self.now.dealing number m) room c.loop-taken.to c.deal_unit-in-loop-taken.new.to c.loop-taken.self c.deal_unit-in-loop-taken.new.self unit true) i.lanes
    (subst (λ d. DealsUnit (g.K.Receives.received (λ number. g.D.Dealing.lane_of d number (g.K.Receives.count c.loop-taken.to))) (λ number. g.D.Dealing.lane_of d number (g.K.Receives.count c.loop-taken.to)) room c.loop-taken.to c.deal_unit-in-loop-taken.new.to c.loop-taken.self c.deal_unit-in-loop-taken.new.self unit true) i.dealing
    (rw c.if-not-branch-2.false at c.in_ok-deal_unit-in-Entries.ensures.deals)) in
    let order : to_deal c.loop-taken.self.blocked_unit (found.Unit unit ∷ []) ≡ found.Unit unit ∷ [] = ap (λ o. to_deal o (found.Unit unit ∷ [])) i.none in
    record {
      lanes = c.in_ok-deal_unit-in-Entries.ensures.lanes ∙ i.lanes;
      dealing = deals.dealing ∙ i.dealing;
      none = deals.blocked_unit ∙ i.none;
      far = Taken-more _ (c.adds_up.ensures.joined lane_of) c.args.to.now c.loop-taken.to c.deal_unit-in-loop-taken.new.to c.args.self.now c.loop-taken.self c.deal_unit-in-loop-taken.new.self c.in-Entries.entries c.loop-taken.entries c.next.new.self c.loop-taken.taken unit c.in-Some.ensures.lends i.far
          (HandsOn-dealt _ lane_of room c.loop-taken.to c.deal_unit-in-loop-taken.new.to c.loop-taken.self c.deal_unit-in-loop-taken.new.self (found.Unit unit ∷ []) unit order c.loop-taken.self deals refl refl refl refl i.none);
    }
