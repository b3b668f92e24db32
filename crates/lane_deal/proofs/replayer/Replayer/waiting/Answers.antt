use Rattle.std.proofs.Common.{length, ap, arith}
use Rattle.lane_deal.proofs.Bridges.{lane_at, length-lane_states}
use Rattle.lane_deal.proofs.Plays.{waits_at}
use Rattle.lane_deal.proofs.replayer.Replayer.waiting.Goals as goal

pub returns-clause-waiting : goal.returns-clause-waiting
returns-clause-waiting g c unspent state is =
    waits_at _ _ _ (c.args.self.now.ready unspent) c.args.lane state is c.index-senders-lane.result c.waiting.result (rw c.as_slice-senders.ensures.value at c.waiting.ensures)

pub returns-then-lane-senders-clause-waiting : goal.returns-then-lane-senders-clause-waiting
returns-then-lane-senders-clause-waiting g c unspent state is =
    let within = (lane_at _ _ c.args.lane state is).within in
    let past = c.if-lane-senders.true in
    let same = ap length c.as_slice-senders.ensures.value in absurd (omega arith)

pub returns-clause-past : goal.returns-clause-past
returns-clause-past g c unspent past =
    let count = length-lane_states c.args.self.now.senders.items c.args.self.now.workers.items (c.args.self.now.ready unspent).0 in
    let same = ap length c.as_slice-senders.ensures.value in
    absurd (omega arith)
