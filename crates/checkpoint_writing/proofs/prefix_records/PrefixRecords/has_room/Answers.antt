use Rattle.std.proofs.Common.{length, ap, arith}
use Rattle.checkpoint_writing.proofs.DumpLaws.{room_is}
use Rattle.checkpoint_writing.proofs.prefix_records.PrefixRecords.has_room.Goals as goal

pub returns-then-part-lt-ENTRIES_MOST : goal.returns-then-part-lt-ENTRIES_MOST
returns-then-part-lt-ENTRIES_MOST g c =
    room_is g.F.Unicast.family c.args.add_path c.args.self.now.seconds c.args.prefix.now c.args.part.now c.args.route.now _ c.len.ensures.known.short c.if-part-lt-ENTRIES_MOST.true
    (omega (
      arith,
      c.div_ceil.ensures,
      c.len.ensures.len,
      c.len-2.ensures,
      c.len-then-part-lt-ENTRIES_MOST.ensures,
      c.entry_size-entry.ensures,
      ap length c.requires.begun.entries_are,
      ap length c.requires.attributes,
      c.args.self.now.entries.ok.0,
      c.args.self.now.attributes.ok.0,
    ))
