use Rattle.std.proofs.Common.{◌≡◌, ◌≢◌, ◌<◌, ℕ, length, subst, arith}
use Rattle.mrt_frame.specs.declared.read_state.ReadState.TheVariants.{Spent}
use Rattle.lane_deal.proofs.Plays.{answered, answers_follow, PlaysOn-of, some_after}
use Rattle.lane_deal.proofs.replayer.Replayer.round.Goals as goal

pub run_round-answer-requires-clause-ready : goal.run_round-answer-requires-clause-ready
run_round-answer-requires-clause-ready g c κs within = c.args.self.now.ready (λ e. let is = c.in-Reading.is in cc)

pub invariant_of-self-2 : goal.invariant_of-self-2
invariant_of-self-2 g c =
    let plays = c.run_round-answer.ensures.plays in
    let some = c.args.self.now.lanes in
    let lanes : c.len-lanes.result ≡ length c.args.self.now.senders.items = omega arith in
    let below : (n : ℕ) → g.D.Dealing.lane_of c.args.self.now.dealer.dealing n (length c.args.self.now.senders.items) < length c.args.self.now.senders.items =
    λ n. subst (λ m. g.D.Dealing.lane_of c.args.self.now.dealer.dealing n m < m) lanes (c.lanes_are_below.ensures n) in
    let running : c.args.self.now.state ≢ Spent = λ e. (let is = c.in-Reading.is in cc) in
    record {
      lanes = (let same = c.run_round-answer.ensures.lanes in omega (arith, some, same));
      ready = λ ne. (answered _ _ c.state_after-self.ensures ne plays).rounded.ready;
      stands = λ ne.
          some_after g.D.Dealing.lane_of c.args.self.now.plan _ _ _ _ _ _ _ _ _ _ _ _ (c.args.self.now.ready running) below c.limits-limits.ensures
          (answered _ _ c.state_after-self.ensures ne plays) (c.args.self.now.stands running);
    }

pub returns-clause-played : goal.returns-clause-played
returns-clause-played g c running =
    let plays = c.run_round-answer.ensures.plays in
    let lanes : c.len-lanes.result ≡ length c.args.self.now.senders.items = omega arith in
    let below : (n : ℕ) → g.D.Dealing.lane_of c.args.self.now.dealer.dealing n (length c.args.self.now.senders.items) < length c.args.self.now.senders.items =
    λ n. subst (λ m. g.D.Dealing.lane_of c.args.self.now.dealer.dealing n m < m) lanes (c.lanes_are_below.ensures n) in
    answers_follow _ _ c.state_after-self.ensures
    (λ unspent p.
    PlaysOn-of (g.D.Dealing.lane_of c.args.self.now.dealer.dealing) c.args.self.now.plan _ _ _ _ _ _ _ _ _ _ _ _ _ _ (c.args.self.now.ready (λ e. let is = c.in-Reading.is in cc))
    below c.limits-limits.ensures unspent p)
    plays
