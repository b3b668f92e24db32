use Rattle.std.proofs.Common.{false, length, refl, ap, arith}
use Rattle.std.proofs.lemmas.List.{with_items_is}
use Rattle.lane_deal.proofs.Plays.{ready_same, Settles-of, some_settled}
use Rattle.lane_deal.proofs.replayer.Replayer.settle.Goals as goal

pub settle_lanes-settled-requires-clause-ready : goal.settle_lanes-settled-requires-clause-ready
settle_lanes-settled-requires-clause-ready g c κs within =
    rw (c.deref_mut.ensures.value, c.deref_mut-2.ensures.value) (c.args.self.now.ready c.in_default.not-Spent)

pub invariant_of-self-in-Ok : goal.invariant_of-self-in-Ok
invariant_of-self-in-Ok g c =
    let fe = with_items_is c.args.self.now.senders c.settle_lanes-settled.new.senders (omega arith) in
    let we = with_items_is c.args.self.now.workers c.settle_lanes-settled.new.workers (omega arith) in
    let settled = rw (c.deref_mut.ensures.value, c.deref_mut-2.ensures.value) at c.in-Ok.ensures in
    let some = c.args.self.now.lanes in
    record {
      lanes = omega (arith, ap length fe);
      ready = λ ne. ready_same _ _ _ _ _ fe we settled.ready;
      stands = λ ne.
          some_settled _ _ _ _
          (Settles-of (g.D.Dealing.lane_of c.args.self.now.dealer.dealing) c.args.self.now.plan.ring _ _ _ _ _ _ c.args.self.now.dealer false (c.args.self.now.ready c.in_default.not-Spent) fe we settled)
          (c.args.self.now.stands c.in_default.not-Spent);
    }

pub returns : goal.returns
returns g c =
    let fe = with_items_is c.args.self.now.senders c.settle_lanes-settled.new.senders (omega arith) in
    let we = with_items_is c.args.self.now.workers c.settle_lanes-settled.new.workers (omega arith) in
    let settled = rw (c.deref_mut.ensures.value, c.deref_mut-2.ensures.value) at c.in-Ok.ensures in
    record {
      forks = λ ne. c.saturating_add-self.ensures;
      memory = λ ne. tt;
      settled = Settles-of (g.D.Dealing.lane_of c.args.self.now.dealer.dealing) c.args.self.now.plan.ring _ _ _ _ _ _ c.args.self.now.dealer _ (c.args.self.now.ready c.in_default.not-Spent) fe we settled;
      kept = (refl, refl);
      same = refl;
      spent = tt;
      idle = λ s. absurd (c.in_default.not-Spent s);
    }
