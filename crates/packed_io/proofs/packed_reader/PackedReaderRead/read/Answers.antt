use Rattle.std.proofs.Common.{sym, subst}
use Rattle.std.specs.Io.KnownBytes.{Keeps, ReadConsumes}
use Rattle.packed_io.specs.Ahead.{reader_remaining}
use Rattle.packed_io.proofs.HeadLaws.{kept_consumes}
use Rattle.packed_io.proofs.packed_reader.PackedReaderRead.read.Goals as goal
use Rattle.packed_io.proofs.packed_reader.PackedReaderRead.read.Goals.{then-waits+in_ok-advance, else-waits}

pub returns-clause-bytes : goal.returns-clause-bytes
returns-clause-bytes g c =
    let remaining = g.D.Read.remaining in
    let old = reader_remaining remaining c.args.self.now in
    let new = reader_remaining remaining c.read_on.new.self in
    elim c.if-waits.branch [
      | then-waits+in_ok-advance w ↦ kept_consumes old (reader_remaining remaining c.if-waits.self) new c.read_on.result c.read_on.new.buf (subst (λ r. Keeps old (reader_remaining remaining r)) (sym w.self-is) w.advance.ensures.kept) c.read_on.ensures.bytes
      | else-waits w ↦ subst (λ r. ReadConsumes (reader_remaining remaining r) new c.read_on.result c.read_on.new.buf) w.self-is c.read_on.ensures.bytes
    ]
