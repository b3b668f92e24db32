use Rattle.std.proofs.Common.{◌≡◌, ◌++◌, List, ℕ, map, length, sym, ap, ◌∙◌}
use Rattle.mrt_writing.specs.RibRecords.{rib_head}
use Rattle.mrt_writing.specs.declared.record_kind.RecordKind.TheVariants.{Rib}
use Rattle.mrt_writing.specs.Records.{record_bytes}
use Rattle.mrt_writing.specs.Dumps.{of_kind}
use Rattle.table_dumps.specs.Checkpoints.{closed}
use Rattle.checkpoint_writing.specs.Dumping.{part_of, parts_bytes}
use Rattle.checkpoint_writing.proofs.DumpLaws.{grows_as, part_put, not_empty}
use Rattle.checkpoint_writing.proofs.prefix_records.PrefixRecords.close.Goals as goal

pub returns-clause-records : goal.returns-clause-records
returns-clause-records g c =
    let family = g.F.Unicast.family in
    let seconds = c.args.self.now.seconds in
    let sequence = c.args.self.now.sequence in
    let prefix = c.args.prefix.now in
    let part = c.args.part.now in
    let head : c.as_slice.result.now ≡ rib_head sequence prefix (length part) =
    c.as_slice.ensures.value ∙ c.in_ok-push_rib_head.ensures ∙ ap (λ (l : List ℕ). l ++ rib_head c.in-Ok.sequence prefix (length part)) c.clear.ensures.items ∙ ap (λ (n : ℕ). rib_head n prefix (length part)) c.in-Ok.ensures.1 in
    let entries = c.as_slice-2.ensures.value ∙ c.requires.entries_are in
    grows_as (g.W.Sink.contents c.args.out.now) (g.W.Sink.contents c.put_record.new.out) c.args.self.now.waiting.items c.put_record.new.waiting.items
    (record_bytes (of_kind family seconds (Rib c.args.add_path) (c.as_slice.result.now ++ c.as_slice-2.result.now)))
    (parts_bytes family seconds sequence (map (part_of c.args.add_path prefix) (closed part)))
    (part_put family c.args.add_path seconds sequence prefix part c.as_slice.result.now c.as_slice-2.result.now (not_empty part (sym c.is_empty.ensures ∙ c.if-is_empty.false)) head entries)
    c.in_ok-put_record.ensures
