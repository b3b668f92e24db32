use Rattle.std.proofs.Common.{length, ap, arith}
use Rattle.lane_deal.proofs.Bridges.{lane_at, length-lane_states}
use Rattle.lane_deal.proofs.Plays.{took_at}
use Rattle.lane_deal.proofs.replayer.Replayer.took.Goals as goal

pub returns-clause-took : goal.returns-clause-took
returns-clause-took g c unspent state is =
    rw (← c.as_slice-workers.ensures.value) at (took_at c.args.self.now.plan.ring c.args.self.now.senders.items c.args.self.now.workers.items (c.args.self.now.ready unspent) c.args.lane state is c.index-workers-lane.result)

pub returns-clause-past : goal.returns-clause-past
returns-clause-past g c unspent past =
    let count = length-lane_states c.args.self.now.senders.items c.args.self.now.workers.items (c.args.self.now.ready unspent).0 in
    let same = ap length c.as_slice-workers.ensures.value in
    let ready = (c.args.self.now.ready unspent).0 in
    absurd (omega arith)

pub returns-then-lane-workers-clause-took : goal.returns-then-lane-workers-clause-took
returns-then-lane-workers-clause-took g c unspent state is =
    let within = (lane_at _ _ c.args.lane state is).within in
    let count = (c.args.self.now.ready unspent).0 in
    let past = c.if-lane-workers.true in
    let same = ap length c.as_slice-workers.ensures.value in absurd (omega arith)
