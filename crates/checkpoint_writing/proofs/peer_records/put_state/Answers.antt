use Rattle.std.proofs.Common.{◌++◌, ℕ, List, ap, ◌∙◌}
use Rattle.peer_tables.specs.Seats.{seat_of}
use Rattle.mrt_writing.specs.declared.record_kind.RecordKind.TheVariants.{StateChange}
use Rattle.mrt_writing.specs.Heads.{change_bytes}
use Rattle.mrt_writing.specs.Records.{record_bytes}
use Rattle.mrt_writing.specs.Dumps.{of_kind}
use Rattle.checkpoint_writing.specs.Leaving.{state_bytes}
use Rattle.checkpoint_writing.proofs.DumpLaws.{grows_as}
use Rattle.checkpoint_writing.proofs.peer_records.put_state.Goals as goal

pub returns : goal.returns
returns g c =
    let family = g.F.Unicast.family in
    let contents = g.W.Sink.contents in
    let key = c.args.seat.now.key in
    let body = c.as_slice.ensures.value ∙ c.in_ok-push_state_change.ensures ∙ ap (λ (l : List ℕ). l ++ change_bytes key c.is_as.result) c.clear.ensures.items ∙ ap (change_bytes key) c.is_as.ensures in
    grows_as (contents c.args.out.now) (contents c.put_record.new.out) c.args.waiting.now.items c.put_record.new.waiting.items
    (record_bytes (of_kind family c.args.seconds StateChange c.as_slice.result.now)) (state_bytes c.args.rule family c.args.seconds (seat_of c.args.seat.now))
    (ap (λ (l : List ℕ). record_bytes (of_kind family c.args.seconds StateChange l)) body) c.in_ok-put_record.ensures
