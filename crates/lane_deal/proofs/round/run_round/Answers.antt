use Rattle.std.proofs.Common.{ℕ, ◌<◌, ◌≡◌, ◌^◌, ◌++◌, ◌∷◌, [], length, sym, ◌∙◌, arith}
use Rattle.std.proofs.lemmas.List.{with_items_is}
use Rattle.lane_deal.proofs.Asking.{answered_as}
use Rattle.lane_deal.proofs.LaneRounds.{alone_plays, lanes_stay, lanes_rounded, written, PlaysLanes-as}
use Rattle.lane_deal.proofs.Plays.{ready_same}
use Rattle.lane_deal.proofs.round.run_round.Goals as goal

-- ---- a single worker in this thread

pub settle_lanes-requires-clause-ready : goal.settle_lanes-requires-clause-ready
settle_lanes-requires-clause-ready g c κs within = ready_same c.args.capacity _ _ _ _ c.deref_mut.ensures.value c.deref_mut-then-is_none.ensures.value c.requires.ready

pub returns-then-is_none-clause-plays : goal.returns-then-is_none-clause-plays
returns-then-is_none-clause-plays g c =
    let lane_of : ℕ → ℕ = λ number. g.D.Dealing.lane_of c.args.dealer.now.dealing number 1 in
    let settled = rw (c.deref_mut.ensures.value, c.deref_mut-then-is_none.ensures.value) at c.in_ok-settle_lanes.ensures in
    let senders = with_items_is c.args.senders.now c.settle_lanes.new.senders (omega arith) in
    let workers = with_items_is c.args.workers.now c.settle_lanes.new.workers (omega arith) in
    let is : c.settle_lanes.new.workers ≡ c.pop.new.self.items ++ c.in-Some.worker ∷ [] = sym workers ∙ c.in-Some.ensures.items in
    let below : (number : ℕ) → lane_of number < 1 = c.lanes_are_below.ensures in
    let count = c.requires.ready.0 in
    let one : length c.args.senders.now.items ≡ 1 = omega (arith, count, c.requires.lanes) in
    rw (one, senders, c.push_reserved.ensures.items)
    (answered_as c.deal_alone-worker.result.1 _ _
    (alone_plays g.S.Sessions.stands_for c.args.capacity lane_of c.args.limits.batch (2 ^ 64) c.args.senders.now.items c.settle_lanes.new.senders c.args.workers.now.items c.settle_lanes.new.workers c.pop.new.self.items c.in-Some.worker c.deal_alone-worker.result.0 _ _ _ _ _ _ _ (omega arith) one below settled is)
    c.deal_alone-worker.ensures.deals)

-- ---- workers in threads of their own

pub renew_all-requires-clause-pairs : goal.renew_all-requires-clause-pairs
renew_all-requires-clause-pairs g c =
    let kept = with_items_is c.args.workers.now c.deal_and_work-step.new.workers (omega arith) in
    let worked = rw (c.in-Ok.is, c.deref_mut-2.ensures.value) at c.deal_and_work-step.ensures.worked in
    let deals = rw c.in-Ok-step.is at c.deal_and_work-step.ensures.deals.deals in
    rw (c.deref_mut-in-Ok-step.ensures.value, c.deref_mut-in-Ok-step-2.ensures.value ∙ kept)
    (lanes_stay g.S.Sessions.stands_for c.args.capacity _ _ _ _ _ _ c.requires.ready deals.received worked)

pub returns-in_ok-renew_all-in-Ok-step-clause-plays : goal.returns-in_ok-renew_all-in-Ok-step-clause-plays
returns-in_ok-renew_all-in-Ok-step-clause-plays g c =
    let senders_size : length c.deal_and_work-step.new.senders.items ≡ c.deal_and_work-step.new.senders.len = omega arith in
    let workers_size : length c.deal_and_work-step.new.workers ≡ c.args.workers.now.len = omega arith in
    let kept = with_items_is c.args.workers.now c.deal_and_work-step.new.workers (omega arith) in
    let worked = rw (c.in-Ok.is, c.deref_mut-2.ensures.value) at c.deal_and_work-step.ensures.worked in
    let deals = rw c.in-Ok-step.is at c.deal_and_work-step.ensures.deals.deals in
    let renewed = rw (c.deref_mut-in-Ok-step.ensures.value, c.deref_mut-in-Ok-step-2.ensures.value ∙ kept) at c.in_ok-renew_all-in-Ok-step.ensures in
    PlaysLanes-as g.S.Sessions.stands_for _ c.args.capacity c.args.limits.batch c.args.senders.now.items c.renew_all.new.senders _ c.args.workers.now.items c.renew_all.new.workers _ _ _ _ _ _ _ _ (written _ _ _ (renewed.firsts_count ∙ senders_size)) (written _ _ _ (renewed.seconds_count ∙ workers_size))
    (record {
      deals = deals.deals;
      rounded = lanes_rounded g.S.Sessions.stands_for c.args.capacity _ _ _ _ _ _ c.requires.ready deals.received worked _ _ renewed;
    })

pub renew_all-requires-in-Err-clause-pairs : goal.renew_all-requires-in-Err-clause-pairs
renew_all-requires-in-Err-clause-pairs g c =
    let kept = with_items_is c.args.workers.now c.deal_and_work-step.new.workers (omega arith) in
    let worked = rw (c.in-Ok.is, c.deref_mut-2.ensures.value) at c.deal_and_work-step.ensures.worked in
    let deals = rw c.in-Err.is at c.deal_and_work-step.ensures.deals.deals in
    rw (c.deref_mut-in-Err.ensures.value, c.deref_mut-in-Err-2.ensures.value ∙ kept)
    (lanes_stay g.S.Sessions.stands_for c.args.capacity _ _ _ _ _ _ c.requires.ready (deals c.in-Read.file c.in-Read.is).received worked)

pub returns-in_ok-renew_all-in-Err-clause-plays : goal.returns-in_ok-renew_all-in-Err-clause-plays
returns-in_ok-renew_all-in-Err-clause-plays g c = λ file e.
    let senders_size : length c.deal_and_work-step.new.senders.items ≡ c.deal_and_work-step.new.senders.len = omega arith in
    let workers_size : length c.deal_and_work-step.new.workers ≡ c.args.workers.now.len = omega arith in
    let kept = with_items_is c.args.workers.now c.deal_and_work-step.new.workers (omega arith) in
    let worked = rw (c.in-Ok.is, c.deref_mut-2.ensures.value) at c.deal_and_work-step.ensures.worked in
    let deals = rw c.in-Err.is at c.deal_and_work-step.ensures.deals.deals in
    let renewed = rw (c.deref_mut-in-Err.ensures.value, c.deref_mut-in-Err-2.ensures.value ∙ kept) at c.in_ok-renew_all-in-Err.ensures in
    rw (← c.in-Read.is)
    (PlaysLanes-as g.S.Sessions.stands_for _ c.args.capacity c.args.limits.batch c.args.senders.now.items c.renew_all-in-Err.new.senders _ c.args.workers.now.items c.renew_all-in-Err.new.workers _ _ _ _ _ _ _ _ (written _ _ _ (renewed.firsts_count ∙ senders_size)) (written _ _ _ (renewed.seconds_count ∙ workers_size))
    (record {
      deals = (deals c.in-Read.file c.in-Read.is).deals;
      rounded = lanes_rounded g.S.Sessions.stands_for c.args.capacity _ _ _ _ _ _ c.requires.ready (deals c.in-Read.file c.in-Read.is).received worked _ _ renewed;
    }))
