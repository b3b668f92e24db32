use Rattle.checkpoint_writing.specs.Leaving.{update_bytes_of}
use Rattle.checkpoint_writing.proofs.DumpLaws.{grows_next, grows_all}
use Rattle.checkpoint_writing.proofs.peer_records.put_route_updates.Goals as goal

pub loop-entry-preserved : goal.loop-entry-preserved
loop-entry-preserved g c =
    let l = c.loop-entry in
    let contents = g.W.Sink.contents in
    grows_next c.args.listed.now (update_bytes_of g.F.Unicast.family c.args.seconds c.args.peer.now) l.entry-index c.entry-item.result (contents c.args.out.now) (contents l.out) (contents c.put_update.new.out) c.args.waiting.now.items l.waiting.items c.put_update.new.waiting.items c.loop-entry-test.true c.entry-item.is l.invariant c.in_ok-put_update.ensures

pub returns : goal.returns
returns g c =
    let l = c.loop-entry in
    let contents = g.W.Sink.contents in
    grows_all c.args.listed.now (update_bytes_of g.F.Unicast.family c.args.seconds c.args.peer.now) l.entry-index (contents c.args.out.now) (contents l.out) c.args.waiting.now.items l.waiting.items c.loop-entry-test.false l.invariant
