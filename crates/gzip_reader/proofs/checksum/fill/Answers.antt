use Rattle.std.proofs.Common.{refl, arith}
use Rattle.gzip_reader.proofs.CrcLaws.{table_first, table_more, table_next}
use Rattle.gzip_reader.proofs.checksum.fill.Goals as goal

pub loop-n-preserved : goal.loop-n-preserved
loop-n-preserved c = table_more c.loop-n.table c.loop-n.n _ (omega arith) c.loop-n.invariant (table_first c.loop-n.n _ (omega arith) c.remainder.ensures)

pub loop-i-preserved : goal.loop-i-preserved
loop-i-preserved c = table_more c.loop-i.table c.loop-i.i _ (omega arith) c.loop-i.invariant (table_next c.loop-i.table c.loop-i.i _ (omega arith) (omega arith) c.loop-i.invariant refl)
