use Rattle.std.proofs.Common.{◌≡◌}
use Rattle.table_dumps.specs.Checkpoints.{record_split}
use Rattle.checkpoint_writing.specs.Merging.{IsMerge, parts_among, entries_count}
use Rattle.checkpoint_writing.specs.Dumping.{GrowsTo, parts_bytes}
use Rattle.checkpoint_writing.specs.Leaving.{AreListsShort}
use Rattle.checkpoint_writing.proofs.prefixes.put_prefixes.Given as goal

abbrev pub invariant-loop-routes : goal.invariant-loop-routes
invariant-loop-routes g l =
    let family = g.F.Unicast.family in
    let before = l.fn.records in
    record {
      merge : IsMerge l.merge;
      short : AreListsShort family l.merge.lists;
      seconds : l.records.seconds ≡ before.seconds;
      records : GrowsTo (g.W.Sink.contents l.fn.out) before.waiting.items (g.W.Sink.contents l.out) l.records.waiting.items
          (parts_bytes family before.seconds before.sequence (parts_among (record_split family) l.fn.merge.lists))
          (parts_bytes family before.seconds l.records.sequence (parts_among (record_split family) l.merge.lists));
    }

abbrev pub decreases-loop-routes : goal.decreases-loop-routes
decreases-loop-routes g l = entries_count l.merge.lists
