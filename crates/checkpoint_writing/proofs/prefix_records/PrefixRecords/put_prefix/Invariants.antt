use Rattle.std.proofs.Common.{◌≡◌, ◌+◌, ◌≤◌, [], length, map, drop}
use Rattle.std.specs.List.{between}
use Rattle.table_dumps.specs.Checkpoints.{split_after, fits_record}
use Rattle.checkpoint_writing.specs.Dumping.{GrowsTo, IsOpenPart, part_of, parts_bytes}
use Rattle.checkpoint_writing.proofs.prefix_records.PrefixRecords.put_prefix.Given as goal

abbrev pub invariant-loop-at : goal.invariant-loop-at
invariant-loop-at g l =
    let family = g.F.Unicast.family in
    let fits = fits_record family l.add_path l.prefix in
    record {
      within : l.from ≤ l.at;
      seconds : l.self.seconds ≡ l.fn.self.seconds;
      begun : IsOpenPart family l.add_path l.fn.self.seconds (between l.from l.at l.routes) l.self.entries.items;
      records : GrowsTo (g.W.Sink.contents l.fn.out) l.fn.self.waiting.items (g.W.Sink.contents l.out) l.self.waiting.items
          (parts_bytes family l.fn.self.seconds l.fn.self.sequence (map (part_of l.add_path l.prefix) (split_after fits [] l.routes)))
          (parts_bytes family l.fn.self.seconds l.self.sequence (map (part_of l.add_path l.prefix) (split_after fits (between l.from l.at l.routes) (drop l.at l.routes))));
      sequence : l.self.sequence + length (split_after fits (between l.from l.at l.routes) (drop l.at l.routes)) ≡ l.fn.self.sequence + length (split_after fits [] l.routes);
    }
