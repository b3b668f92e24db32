use Rattle.std.proofs.Common.{[], sym, ◌∙◌, arith}
use Rattle.lane_deal.proofs.Bridges.{length-lane_states}
use Rattle.lane_deal.proofs.Plays.{ready_fresh, settled_fresh, stands_fresh}
use Rattle.lane_deal.proofs.replayer.Replayer.new.Goals as goal

pub invariant_of-result : goal.invariant_of-result
invariant_of-result g c =
    let made = c.in_ok-senders.ensures in
    let senders = made.senders_count in
    let some = c.requires.workers in
    let d = c.in_ok-new.ensures in
    record {
      lanes = omega arith;
      ready = λ ne. ready_fresh _ _ _ _ made;
      stands = λ ne. ∣ record { units = []; refused = []; stands = stands_fresh _ _ c.args.plan.workers (omega arith) _ _ c.in_ok-new.field-0 made d.1 d.2 d.3 d.4 } ∣₁;
    }

pub returns-clause-lanes : goal.returns-clause-lanes
returns-clause-lanes g c =
    let made = c.in_ok-senders.ensures in length-lane_states _ _ (made.workers_count ∙ sym made.senders_count) ∙ made.senders_count

pub returns-clause-settled : goal.returns-clause-settled
returns-clause-settled g c = settled_fresh _ _ _ _ c.in_ok-senders.ensures

pub returns-clause-stands : goal.returns-clause-stands
returns-clause-stands g c =
    let d = c.in_ok-new.ensures in let some = c.requires.workers in stands_fresh _ _ c.args.plan.workers (omega arith) _ _ c.in_ok-new.field-0 c.in_ok-senders.ensures d.1 d.2 d.3 d.4
