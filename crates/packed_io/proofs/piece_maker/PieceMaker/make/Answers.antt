use Rattle.std.proofs.Common.{subst, sym, ◌∙◌}
use Rattle.std.specs.Prelude.{IfSome}
use Rattle.std.specs.Io.KnownBytes.{Keeps}
use Rattle.std.proofs.KnownBytes.{Keeps-trans}
use Rattle.rtrb.specs.Ring.{sent}
use Rattle.packed_io.specs.Making.{with_kept}
use Rattle.packed_io.specs.Pieces.{coming_behind}
use Rattle.packed_io.specs.Reading.{unpacked_remaining}
use Rattle.packed_io.proofs.PieceLaws.{made}
use Rattle.packed_io.proofs.piece_maker.PieceMaker.make.Goals as goal

pub invariant_of-self-in_err-piece : goal.invariant_of-self-in_err-piece
invariant_of-self-in_err-piece g c =
    let remaining = g.D.Read.remaining in
    let coming = coming_behind remaining (with_kept (sent c.self.inside.sender) c.self.inside.kept) in
    let known : Keeps coming (unpacked_remaining remaining c.in-Some.contents) = subst (λ o. IfSome o (λ u. Keeps coming (unpacked_remaining remaining u))) c.in-Some.is c.self.invariant.2 in
    (c.self.invariant.0, c.self.invariant.1, Keeps-trans coming (unpacked_remaining remaining c.in-Some.contents) (unpacked_remaining remaining c.next_piece.new.contents) known c.in_err-piece.ensures.kept)

pub invariant_of-self-2 : goal.invariant_of-self-2
invariant_of-self-2 g c =
    let remaining = g.D.Read.remaining in
    let coming = coming_behind remaining (with_kept (sent c.self.inside.sender) c.self.inside.kept) in
    let known : Keeps coming (unpacked_remaining remaining c.in-Some.contents) = subst (λ o. IfSome o (λ u. Keeps coming (unpacked_remaining remaining u))) c.in-Some.is c.self.invariant.2 in
    let next = made remaining (sent c.self.inside.sender) c.self.inside.kept c.in-Some.contents c.next_piece.new.contents c.drop_at_end.new.contents c.in_ok-piece.piece c.self.invariant.0 (sym c.is_some.ensures ∙ c.if-is_some.false) known c.in_ok-piece.ensures.given c.drop_at_end.ensures in
    (c.self.invariant.0, next.0, next.1)
