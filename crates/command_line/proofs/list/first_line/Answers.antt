use Rattle.std.proofs.Common.{◌+◌, List, ℕ, ◌∷◌, take, sym, ap, ◌∙◌}
use Rattle.command_line.specs.Lists.{lines_of}
use Rattle.command_line.proofs.Lines.{line_before, line_alone}
use Rattle.command_line.proofs.Points.{to_the_end}
use Rattle.command_line.proofs.list.first_line.Goals as goal

pub returns-in-Some-clause-more : goal.returns-in-Some-clause-more
returns-in-Some-clause-more c =
    let text = c.args.text.now in
    let feed = c.in-Some.feed in
    line_before text feed (sym c.in-Some.ensures) ∙ ap (λ (l : List ℕ). take feed text ∷ lines_of l) (sym (to_the_end (feed + 1) text))

pub returns-in-None-clause-last : goal.returns-in-None-clause-last
returns-in-None-clause-last c = line_alone c.args.text.now (sym c.in-None.ensures)
