use Rattle.peer_tables.specs.Seats.{seat_of}
use Rattle.checkpoint_writing.specs.Leaving.{state_bytes}
use Rattle.checkpoint_writing.proofs.DumpLaws.{grows_next, grows_all}
use Rattle.checkpoint_writing.proofs.peer_records.put_states.Goals as goal

pub loop-seat-preserved : goal.loop-seat-preserved
loop-seat-preserved g c =
    let l = c.loop-seat in
    let contents = g.W.Sink.contents in
    grows_next c.args.seats.now (λ s. state_bytes c.args.rule g.F.Unicast.family c.args.seconds (seat_of s)) l.seat-index c.seat-item.result (contents c.args.out.now) (contents l.out) (contents c.put_state.new.out) c.args.waiting.now.items l.waiting.items c.put_state.new.waiting.items c.loop-seat-test.true c.seat-item.is l.invariant c.in_ok-put_state.ensures

pub returns : goal.returns
returns g c =
    let l = c.loop-seat in
    let contents = g.W.Sink.contents in
    grows_all c.args.seats.now (λ s. state_bytes c.args.rule g.F.Unicast.family c.args.seconds (seat_of s)) l.seat-index (contents c.args.out.now) (contents l.out) c.args.waiting.now.items l.waiting.items c.loop-seat-test.false l.invariant
