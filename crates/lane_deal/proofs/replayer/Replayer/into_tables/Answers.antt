use Rattle.std.proofs.Common.{◌≡◌, ◌<◌, ℕ, false, length, refl, sym, subst, arith}
use Rattle.lane_deal.specs.Results.{is_spent}
use Rattle.lane_deal.specs.Replayers.{StandsForSome}
use Rattle.lane_deal.proofs.AllTables.{numbers_differ, tables_dealt, ready_back, state_back}
use Rattle.lane_deal.proofs.replayer.Replayer.into_tables.Goals as goal

pub collect_lanes-requires : goal.collect_lanes-requires
collect_lanes-requires g c =
    let lane_of = g.D.Dealing.lane_of c.args.self.dealer.dealing in
    let lanes : c.len-lanes.result ≡ length c.args.self.senders.items = omega arith in
    let below : (n : ℕ) → lane_of n (length c.args.self.senders.items) < length c.args.self.senders.items = λ n. subst (λ m. lane_of n m < m) lanes (c.lanes_are_below.ensures n) in
    numbers_differ lane_of c.args.self.plan.ring c.args.self.dealer c.args.self.senders.items c.args.self.workers.items (c.args.self.ready c.in_default.not-Spent).0 below (is_spent c.args.self.state)
    (c.args.self.stands c.in_default.not-Spent) (c.requires c.in_default.not-Spent)

pub invariant_of-back : goal.invariant_of-back
invariant_of-back g c =
    let back = c.in-Err.ensures.back in
    record {
      lanes = c.args.self.lanes;
      ready = λ ne. ready_back c.args.self.plan.ring c.args.self.senders.items _ _ back.0 (c.args.self.ready ne);
      stands = λ ne.
          subst (λ r. ∥ StandsForSome (g.D.Dealing.lane_of c.args.self.dealer.dealing) c.args.self.plan.ring r ∥₁)
          (sym (state_back c.args.self.dealer c.args.self.senders.items c.args.self.workers.items c.in-Err.workers.items c.in-Err.refused.items false back.1 back.0)) (c.args.self.stands ne);
    }

pub returns-in-Ok : goal.returns-in-Ok
returns-in-Ok g c =
    let lane_of = g.D.Dealing.lane_of c.args.self.dealer.dealing in
    let lanes : c.len-lanes.result ≡ length c.args.self.senders.items = omega arith in
    let below : (n : ℕ) → lane_of n (length c.args.self.senders.items) < length c.args.self.senders.items = λ n. subst (λ m. lane_of n m < m) lanes (c.lanes_are_below.ensures n) in
    record {
      tables = λ units refused stands.
          tables_dealt lane_of c.args.self.plan.ring c.args.self.dealer c.args.self.senders.items c.args.self.workers.items (c.args.self.ready c.in_default.not-Spent).0 below (is_spent c.args.self.state)
          units refused c.in-Ok.tables (c.requires c.in_default.not-Spent) stands c.in-Ok.ensures.only;
      back = tt;
      memory = λ ne. tt;
      spent = λ e. absurd (c.in_default.not-Spent e);
    }

pub returns-in-Err : goal.returns-in-Err
returns-in-Err g c =
    let back = c.in-Err.ensures.back in
    record {
      tables = λ units refused stands. tt;
      back = (state_back c.args.self.dealer c.args.self.senders.items c.args.self.workers.items c.in-Err.workers.items c.in-Err.refused.items (is_spent c.args.self.state) back.1 back.0, refl, refl, refl, refl, refl);
      memory = λ ne. refl;
      spent = λ e. absurd (c.in_default.not-Spent e);
    }
