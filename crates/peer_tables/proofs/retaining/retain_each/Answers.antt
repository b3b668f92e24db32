use Rattle.std.proofs.Common.{◌+◌, refl, arith}
use Rattle.peer_tables.proofs.Retained.{changed_all, changed_more}
use Rattle.peer_tables.proofs.retaining.retain_each.Goals as goal

pub loop-at-init : goal.loop-at-init
loop-at-init g c = refl

pub loop-at-preserved : goal.loop-at-preserved
loop-at-preserved g c =
    changed_more (g.S.Retains.retained c.args.chosen.now) c.loop-at.at (c.loop-at.at + 1) c.args.seats.now c.loop-at.seats c.index-seats-at.result c.retain.new.self c.loop-at.invariant c.loop-at-test.true refl c.in_ok-retain.ensures

pub returns : goal.returns
returns g c =
    let end = c.loop-at.auto.at-end in
    let done = c.loop-at-test.false in
    changed_all (g.S.Retains.retained c.args.chosen.now) c.loop-at.at c.args.seats.now c.loop-at.seats c.loop-at.invariant (omega (arith, done, end))
