use Rattle.std.proofs.Common.{◌+◌, List, ℕ, ◌∷◌, take, sym, ap, ◌∙◌}
use Rattle.command_line.specs.FileLists.{pieces_of}
use Rattle.command_line.proofs.Pieces.{piece_before, piece_alone}
use Rattle.command_line.proofs.Points.{to_the_end}
use Rattle.command_line.proofs.file_list.first_piece.Goals as goal

pub returns-in-Some-clause-more : goal.returns-in-Some-clause-more
returns-in-Some-clause-more c =
    let text = c.args.text.now in
    let at = c.in-Some.at in
    piece_before c.args.end text at (sym c.in-Some.ensures) ∙ ap (λ (l : List ℕ). take at text ∷ pieces_of c.args.end l) (sym (to_the_end (at + 1) text))

pub returns-in-None-clause-last : goal.returns-in-None-clause-last
returns-in-None-clause-last c = piece_alone c.args.end c.args.text.now (sym c.in-None.ensures)
