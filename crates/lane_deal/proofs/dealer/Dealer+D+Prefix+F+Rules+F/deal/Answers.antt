use Rattle.std.proofs.Common.{◌≡◌, ℕ, length, ◌+◌, ◌-◌, ◌≤◌, ◌∙◌, refl, sym, ap, subst, arith}
use Rattle.std.proofs.lemmas.Result.{err_from_is_err_and}
use Rattle.mrt_body.specs.Pending.{units_lent}
use Rattle.mrt_body.specs.ToCome.{UnitsState}
use Rattle.lane_deal.specs.Asking.{as_refused}
use Rattle.lane_deal.specs.DealerSteps.{IsFull}
use Rattle.lane_deal.proofs.Asking.{all_units, all_more_given}
use Rattle.lane_deal.proofs.DealerLaws.{SoFar, SoFar-none, SoFar-blocked, SoFar-listed, SoFar-front, DealsFront-lanes, DealsTo-full, DealsTo-blocked, DealsTo-end, DealsTo-full_lane, DealsTo-failed, all_dealt, is_none, where_some}
use Rattle.lane_deal.proofs.dealer.Dealer+D+Prefix+F+Rules+F.deal.Goals as goal

pub returns-then-batch-eq0-clause-deals : goal.returns-then-batch-eq0-clause-deals
returns-then-batch-eq0-clause-deals g c =
    DealsTo-full _ _ _ c.args.batch c.args.to.now c.args.to.now c.args.self.now c.args.self.now _ _ _ _ 0 (sym c.if-batch-eq0.true) (SoFar-none _ c.args.to.now c.args.self.now _ _ c.is_counted.ensures (c.adds_up.ensures.nothing _ c.args.to.now))

-- ---- the unit that was blocked

pub returns-then-is_some-clause-deals : goal.returns-then-is_some-clause-deals
unfolding SoFar-blocked SoFar-none
returns-then-is_some-clause-deals g c =
    let lane_of : ℕ → ℕ = λ number. g.D.Dealing.lane_of c.args.self.now.dealing number (g.K.Receives.count c.args.to.now) in
    let p = c.in_ok-left.ensures.deals in
    let room = g.K.Receives.room c.args.to.now in
    let few = p.few in
    let some = c.if-batch-eq0.false in
    let within : 0 + c.in_ok-left.field-0 ≤ c.args.batch = omega (arith, few, some) in
    let far = SoFar-blocked _ (c.adds_up.ensures.joined lane_of) c.args.to.now c.args.to.now c.args.self.now c.args.self.now c.args.units.now c.args.units.now _ _ 0 (SoFar-none _ c.args.to.now c.args.self.now _ _ c.is_counted.ensures (c.adds_up.ensures.nothing lane_of c.args.to.now)) c.deal_blocked.new.to c.deal_blocked.new.self lane_of room c.in_ok-left.field-0 p in
    DealsTo-blocked _ lane_of room c.args.batch c.args.to.now c.deal_blocked.new.to c.args.self.now c.deal_blocked.new.self c.args.units.now c.args.units.now _ _ (0 + c.in_ok-left.field-0) within far
    (subst (IsFull lane_of room c.deal_blocked.new.self) (sym (all_units p.done)) (where_some c.deal_blocked.new.self.blocked_unit (sym c.if-is_some.true ∙ c.is_some.ensures) p.full))

pub loop-left-init : goal.loop-left-init
loop-left-init g c =
    let lane_of : ℕ → ℕ = λ number. g.D.Dealing.lane_of c.args.self.now.dealing number (g.K.Receives.count c.args.to.now) in
    let p = c.in_ok-left.ensures.deals in
    let few = p.few in
    let some = c.if-batch-eq0.false in
    let count : 0 + c.in_ok-left.field-0 ≡ c.args.batch - (c.args.batch - c.in_ok-left.field-0) = omega (arith, few, some) in
    record {
      count = refl;
      lanes = c.in_ok-left.ensures.lanes;
      sound = refl;
      none = is_none c.deal_blocked.new.self.blocked_unit (sym c.if-is_some.false ∙ c.is_some.ensures);
      within = omega arith;
      far = subst (SoFar (g.K.Receives.received lane_of) c.args.to.now c.deal_blocked.new.to c.args.self.now c.deal_blocked.new.self c.args.units.now _ c.args.units.now _) count
          (SoFar-blocked _ (c.adds_up.ensures.joined lane_of) c.args.to.now c.args.to.now c.args.self.now c.args.self.now c.args.units.now c.args.units.now _ _ 0 (SoFar-none _ c.args.to.now c.args.self.now _ _ c.is_counted.ensures (c.adds_up.ensures.nothing lane_of c.args.to.now)) c.deal_blocked.new.to c.deal_blocked.new.self lane_of (g.K.Receives.room c.args.to.now) c.in_ok-left.field-0 p);
    }

-- ---- a record after the other

pub returns-in_err-list_refusals-clause-deals : goal.returns-in_err-list_refusals-clause-deals
returns-in_err-list_refusals-clause-deals g c =
    let p = err_from_is_err_and c.from_residual-in_err-list_refusals.result c.from_residual-in_err-list_refusals.ensures.1 in
    let lane_of : ℕ → ℕ = λ number. g.D.Dealing.lane_of c.args.self.now.dealing number (g.K.Receives.count c.args.to.now) in
    let i = c.loop-left.invariant in
    let within : c.args.batch - c.loop-left.left ≤ c.args.batch = omega arith in
    rw (p.1, p.2) (λ file e. DealsTo-failed _ (c.adds_up.ensures.joined lane_of) c.args.to.now c.loop-left.to c.args.self.now c.loop-left.self c.args.units.now c.loop-left.units _ _ (c.args.batch - c.loop-left.left) i.far _ _ _ lane_of _ c.args.batch _ within (c.adds_up.ensures.nothing lane_of c.loop-left.to) (c.in_err-list_refusals.ensures.asked file e) i.none i.none refl refl refl)

pub returns-then-taken-eq0-clause-deals : goal.returns-then-taken-eq0-clause-deals
unfolding SoFar-listed
returns-then-taken-eq0-clause-deals g c =
    let lane_of : ℕ → ℕ = λ number. g.D.Dealing.lane_of c.args.self.now.dealing number (g.K.Receives.count c.args.to.now) in
    let i = c.loop-left.invariant in
    let joined = c.adds_up.ensures.joined lane_of in
    let asked = c.in_ok-list_refusals.ensures.asked in
    let units = units_lent c.lend-lent.result in
    let deals = DealsFront-lanes g.K.Receives.received g.D.Dealing.lane_of c.loop-left.self.dealing c.args.self.now.dealing (g.K.Receives.count c.loop-left.to) (g.K.Receives.count c.args.to.now) i.far.hands.handles.dealing i.lanes (g.K.Receives.room c.loop-left.to) c.loop-left.to c.deal_lent.new.to _ c.deal_lent.new.self units c.in_ok-taken.taken c.in_ok-taken.ensures.deals in
    let count = c.args.batch - c.loop-left.left in
    let far = SoFar-listed _ joined c.args.to.now c.loop-left.to c.args.self.now c.loop-left.self c.args.units.now c.loop-left.units _ _ count i.far _ c.list_refusals.new.units _ (c.adds_up.ensures.nothing lane_of c.loop-left.to) asked i.none i.none refl refl refl in
    let within : count ≤ c.args.batch = omega arith in
    let empty = c.lend-lent.ensures.none (c.in_ok-taken.ensures.some c.if-taken-eq0.true) asked.state in
    DealsTo-end _ joined c.args.to.now c.loop-left.to c.args.self.now _ c.args.units.now c.list_refusals.new.units _ _ count far c.deal_lent.new.to c.deal_lent.new.self lane_of (g.K.Receives.room c.loop-left.to) units c.in_ok-taken.taken deals (g.K.Receives.room c.args.to.now) c.args.batch within c.if-taken-eq0.true i.none
    (all_more_given c.args.units.now c.loop-left.units _ _ i.far.given (as_refused asked.listed) i.far.takes (asked.ended empty))

pub returns-then-is_some-2-clause-deals : goal.returns-then-is_some-2-clause-deals
unfolding SoFar-listed
returns-then-is_some-2-clause-deals g c =
    let lane_of : ℕ → ℕ = λ number. g.D.Dealing.lane_of c.args.self.now.dealing number (g.K.Receives.count c.args.to.now) in
    let i = c.loop-left.invariant in
    let joined = c.adds_up.ensures.joined lane_of in
    let asked = c.in_ok-list_refusals.ensures.asked in
    let units = units_lent c.lend-lent.result in
    let deals = DealsFront-lanes g.K.Receives.received g.D.Dealing.lane_of c.loop-left.self.dealing c.args.self.now.dealing (g.K.Receives.count c.loop-left.to) (g.K.Receives.count c.args.to.now) i.far.hands.handles.dealing i.lanes (g.K.Receives.room c.loop-left.to) c.loop-left.to c.deal_lent.new.to _ c.deal_lent.new.self units c.in_ok-taken.taken c.in_ok-taken.ensures.deals in
    let count = c.args.batch - c.loop-left.left in
    let far = SoFar-listed _ joined c.args.to.now c.loop-left.to c.args.self.now c.loop-left.self c.args.units.now c.loop-left.units _ _ count i.far _ c.list_refusals.new.units _ (c.adds_up.ensures.nothing lane_of c.loop-left.to) asked i.none i.none refl refl refl in
    let few = c.in_ok-taken.ensures.few in
    let left = i.within in
    let within : count + c.in_ok-taken.taken ≤ c.args.batch = omega (arith, few, left) in
    DealsTo-full_lane _ joined c.args.to.now c.loop-left.to c.args.self.now _ c.args.units.now c.list_refusals.new.units _ _ count far c.deal_lent.new.to c.deal_lent.new.self lane_of (g.K.Receives.room c.loop-left.to) units c.in_ok-taken.taken deals c.consume.new.self (g.K.Receives.room c.args.to.now) c.args.batch within i.none c.lend-lent.ensures.lends asked.state c.consume.ensures.consumes
    (sym c.if-is_some-2.true ∙ c.is_some-in-loop-left.ensures)
    (λ n. c.adds_up.ensures.spent lane_of c.args.to.now c.loop-left.to _ (lane_of n) (g.met.D.Dealing.is_below c.args.self.now.dealing n (g.K.Receives.count c.args.to.now) c.requires.lanes) far.hands.received)

pub loop-left-preserved : goal.loop-left-preserved
unfolding SoFar-listed
loop-left-preserved g c =
    let lane_of : ℕ → ℕ = λ number. g.D.Dealing.lane_of c.args.self.now.dealing number (g.K.Receives.count c.args.to.now) in
    let i = c.loop-left.invariant in
    let joined = c.adds_up.ensures.joined lane_of in
    let asked = c.in_ok-list_refusals.ensures.asked in
    let units = units_lent c.lend-lent.result in
    let deals = DealsFront-lanes g.K.Receives.received g.D.Dealing.lane_of c.loop-left.self.dealing c.args.self.now.dealing (g.K.Receives.count c.loop-left.to) (g.K.Receives.count c.args.to.now) i.far.hands.handles.dealing i.lanes (g.K.Receives.room c.loop-left.to) c.loop-left.to c.deal_lent.new.to _ c.deal_lent.new.self units c.in_ok-taken.taken c.in_ok-taken.ensures.deals in
    let count = c.args.batch - c.loop-left.left in
    let far = SoFar-listed _ joined c.args.to.now c.loop-left.to c.args.self.now c.loop-left.self c.args.units.now c.loop-left.units _ _ count i.far _ c.list_refusals.new.units _ (c.adds_up.ensures.nothing lane_of c.loop-left.to) asked i.none i.none refl refl refl in
    let few = c.in_ok-taken.ensures.few in
    let left = i.within in
    let none = is_none c.deal_lent.new.self.blocked_unit (sym c.if-is_some-2.false ∙ c.is_some-in-loop-left.ensures) in
    let dealt = all_dealt _ joined c.args.to.now c.loop-left.to c.args.self.now _ c.args.units.now c.list_refusals.new.units _ _ count far c.deal_lent.new.to c.deal_lent.new.self lane_of (g.K.Receives.room c.loop-left.to) units c.in_ok-taken.taken deals i.none none in
    let more : count + length deals.done ≡ c.args.batch - (c.loop-left.left - c.in_ok-taken.taken) = omega (arith, few, left, dealt) in
    record {
      count = ap (λ (v : UnitsState). v.count) c.consume.ensures.consumes.0 ∙ c.in_ok-list_refusals.ensures.reads.count ∙ i.count;
      lanes = c.in_ok-taken.ensures.lanes ∙ i.lanes;
      sound = c.in_ok-list_refusals.ensures.reads.sound ∙ i.sound;
      none = none;
      within = omega (arith, left);
      far = subst (SoFar (g.K.Receives.received lane_of) c.args.to.now c.deal_lent.new.to c.args.self.now c.deal_lent.new.self c.args.units.now _ c.consume.new.self _) more
          (SoFar-front _ joined c.args.to.now c.loop-left.to c.args.self.now _ c.args.units.now c.list_refusals.new.units _ _ count far c.deal_lent.new.to c.deal_lent.new.self lane_of (g.K.Receives.room c.loop-left.to) units c.in_ok-taken.taken deals c.consume.new.self c.lend-lent.ensures.lends asked.state c.consume.ensures.consumes);
    }

pub returns-clause-deals : goal.returns-clause-deals
returns-clause-deals g c =
    let none = c.loop-left-test.false in
    let all : c.args.batch - c.loop-left.left ≡ c.args.batch = omega (arith, none) in
    DealsTo-full _ _ _ c.args.batch c.args.to.now c.loop-left.to c.args.self.now c.loop-left.self _ _ _ _ (c.args.batch - c.loop-left.left) all c.loop-left.invariant.far
