use Rattle.std.proofs.Common.{arith}
use Rattle.packed_io.proofs.HeadLaws.{none_consumes}
use Rattle.replay_io.proofs.input.DumpRead.read.Goals as goal

pub returns-clause-bytes : goal.returns-clause-bytes
returns-clause-bytes g c =
    none_consumes _ _ _ c.take_held-count.result c.take_held-count.new.buf c.read_on.new.buf c.read_on.result c.take_held-count.ensures.bytes (omega (arith, c.if-count-gt0.false)) c.read_on.ensures.bytes
