use Rattle.std.specs.Io.KnownBytes.{Keeps}
use Rattle.packed_io.specs.Ahead.{WaitsForMore, reader_remaining}
use Rattle.packed_io.proofs.packed_reader.PackedReader.advance.Given as goal

abbrev pub invariant-loop-looks : goal.invariant-loop-looks
invariant-loop-looks g l = record {
  waits : WaitsForMore l.self;
  kept : Keeps (reader_remaining g.D.Read.remaining l.fn.self) (reader_remaining g.D.Read.remaining l.self);
}
