use Rattle.std.proofs.Common.{arith}
use Rattle.mrt_body.specs.Indexes.{peer_at}
use Rattle.mrt_body.specs.Many.{many}
use Rattle.bgp_update.proofs.Readings.{push}
use Rattle.mrt_body.proofs.ManyLaws.{no_minus, starts, goes_on, fails}
use Rattle.mrt_body.proofs.peer_index.peers_of.Goals as goal

pub loop-init : goal.loop-init
loop-init c = rw no_minus (starts (many peer_at c.args.count c.args.bytes.now) c.new-peers.result.items c.new-peers.ensures.items)

pub loop-preserved : goal.loop-preserved
loop-preserved c =
    rw c.in_ok-push-in-Ok.ensures.items (goes_on peer_at push c.loop.peers.items c.args.count c.loop.counter c.loop.rest.now c.in-Ok.peer c.in-Ok.after.now (many peer_at c.args.count c.args.bytes.now) (omega arith) c.in-Ok.ensures c.loop.invariant)

pub returns-in-Err : goal.returns-in-Err
returns-in-Err c = fails peer_at push c.loop.peers.items c.args.count c.loop.counter c.loop.rest.now c.in-Err.fault (many peer_at c.args.count c.args.bytes.now) (omega arith) c.in-Err.ensures c.loop.invariant
