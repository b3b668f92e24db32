use Rattle.std.proofs.Common.{rules}
use Rattle.std.proofs.KnownBytes.{Keeps-trans}
use Rattle.packed_io.proofs.packed_reader.PackedReader.advance.Goals as goal

pub returns-then-is_none-clause-kept : goal.returns-then-is_none-clause-kept
returns-then-is_none-clause-kept g c = search (rules, Keeps-trans)

pub returns-else-is_none-clause-kept : goal.returns-else-is_none-clause-kept
returns-else-is_none-clause-kept g c = search (rules, Keeps-trans)

pub returns-in_err-help-clause-kept : goal.returns-in_err-help-clause-kept
returns-in_err-help-clause-kept g c = search (rules, Keeps-trans)

pub loop-looks-preserved : goal.loop-looks-preserved
loop-looks-preserved g c = record { waits = c.take_piece.ensures.none c.if-take_piece.false; kept = search (rules, Keeps-trans) }
