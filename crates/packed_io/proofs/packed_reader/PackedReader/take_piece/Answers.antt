use Rattle.std.proofs.Common.{◌≡◌, [], ◌∷◌, ◌++◌, Some, sym, subst, ap, ◌∙◌}
use Rattle.std.specs.Io.KnownBytes.{Keeps, prepend_known}
use Rattle.rtrb.specs.Ring.{received}
use Rattle.packed_io.specs.Ahead.{not_given, unless_ended}
use Rattle.packed_io.specs.Pieces.{IsNext, coming_behind}
use Rattle.packed_io.specs.declared.pieces.Piece.{Piece}
use Rattle.packed_io.specs.declared.pieces.Piece.TheVariants.{End}
use Rattle.packed_io.proofs.PieceLaws.{end_taken, waits}
use Rattle.packed_io.proofs.packed_reader.PackedReader.take_piece.Goals as goal

pub returns-in-Ok-End-clause-kept : goal.returns-in-Ok-End-clause-kept
returns-in-Ok-End-clause-kept g c =
    let remaining = g.D.Read.remaining in
    let r = c.args.self.now in
    let before = received r.pieces.receiver in
    let ok = c.in-Ok-End.ensures.ok in
    let ended = end_taken remaining before (received c.pop.new.self) c.in-Ok-End.ending (not_given r) (subst (IsNext remaining before) c.in-Ok-End.field-0-is ok.2) (ok.0 ∙ ap (λ (piece : Piece _). before ++ piece ∷ []) c.in-Ok-End.field-0-is) c.requires.0 in
    subst (λ known. Keeps known (unless_ended (Some c.in-Ok-End.ending) (prepend_known (not_given r) (coming_behind remaining (received c.pop.new.self))))) (sym (waits r.ending (not_given r) (coming_behind remaining before) c.requires.0 c.requires.1)) ended
