use Rattle.std.proofs.Common.{◌++◌}
use Rattle.mrt_writing.specs.Records.{record_bytes}
use Rattle.mrt_writing.specs.Dumps.{of_kind}
use Rattle.checkpoint_writing.proofs.DumpLaws.{grows_after, record_put}
use Rattle.checkpoint_writing.proofs.waiting.put_record.Goals as goal

pub returns : goal.returns
returns g c =
    let family = g.F.Unicast.family in
    let front = c.args.front.now in
    let back = c.args.back.now in
    let waiting = c.args.waiting.now.items in
    let all = c.extend_from_slice-2.new.self.items in
    let put =
    record_put family c.args.seconds c.args.kind c.in-Ok.len waiting c.push_record_head.new.out.items c.extend_from_slice.new.self.items all front back c.in-Ok.ensures.1
    c.in_ok-push_record_head.ensures c.in_ok-extend_from_slice.ensures.items c.in_ok-extend_from_slice-2.ensures.items in
    grows_after (g.W.Sink.contents c.args.out.now) (g.W.Sink.contents c.send_long.new.out) waiting all c.send_long.new.waiting.items (record_bytes (of_kind family c.args.seconds c.args.kind (front ++ back))) put c.in_ok-send_long.ensures
