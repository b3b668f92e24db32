use Rattle.std.proofs.Common.{◌≡◌, ◌++◌, ℕ, Bool, List, [], cond, sym, ap, ◌∙◌}
use Rattle.mrt_writing.specs.declared.record_kind.RecordKind.TheVariants.{Message}
use Rattle.mrt_writing.specs.Records.{record_bytes}
use Rattle.mrt_writing.specs.Updates.{update_field, update_of, message_body}
use Rattle.mrt_writing.specs.Dumps.{has_identifier, of_kind}
use Rattle.checkpoint_writing.specs.Leaving.{update_bytes_of}
use Rattle.checkpoint_writing.proofs.DumpLaws.{grows_as}
use Rattle.checkpoint_writing.proofs.LeavingLaws.{update_is}
use Rattle.checkpoint_writing.proofs.peer_records.put_update.Goals as goal

pub returns : goal.returns
returns g c =
    let family = g.F.Unicast.family in
    let contents = g.W.Sink.contents in
    let peer = c.args.peer.now in
    let e = c.args.entry.now in
    let kind = Message (has_identifier e.0) in
    let all = update_field family (has_identifier e.0) e.0 e.1 in
    let within = c.in_ok-push_update_attributes.ensures in
    let fits = c.in_ok-push_update_attributes.field-0 in
    let field : c.as_slice.result.now ≡ all = c.as_slice.ensures.value ∙ within.bytes ∙ ap (λ (l : List ℕ). l ++ cond fits all []) c.clear.ensures.items ∙ ap (λ (b : Bool). cond b all []) c.if-not-branch.false in
    let body : c.as_slice-2.result.now ≡ message_body peer (update_of c.as_slice.result.now) = c.as_slice-2.ensures.value ∙ c.in_ok-push_update.ensures ∙ ap (λ (l : List ℕ). l ++ message_body peer (update_of c.as_slice.result.now)) c.clear-2.ensures.items in
    grows_as (contents c.args.out.now) (contents c.put_record.new.out) c.args.waiting.now.items c.put_record.new.waiting.items
    (record_bytes (of_kind family c.args.seconds kind c.as_slice-2.result.now)) (update_bytes_of family c.args.seconds peer e)
    (ap (λ (l : List ℕ). record_bytes (of_kind family c.args.seconds kind l)) body
    ∙ update_is family c.args.seconds peer e c.as_slice.result.now fits (sym c.is_entry.ensures ∙ c.if-is_entry.false) within.test c.if-not-branch.false field) c.in_ok-put_record.ensures
