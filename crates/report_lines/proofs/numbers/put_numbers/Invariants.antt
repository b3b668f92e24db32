-- the numbers so far, each behind a separator
use Rattle.std.proofs.Common.{◌∷◌, take, decimal}
use Rattle.std.specs.List.{flat_map}
use Rattle.report_lines.specs.Texts.{Adds}
use Rattle.report_lines.proofs.numbers.put_numbers.Given as goal

abbrev pub invariant-loop-number : goal.invariant-loop-number
invariant-loop-number g l =
    Adds (g.T.Text.state l.initial.text) (g.T.Text.state l.text) (flat_map (λ n. l.separator ∷ decimal n) (take l.number-index l.rest))
