-- the numbers so far but for the first ones, each behind a separator
use Rattle.std.proofs.Common.{◌≤◌, ◌-◌, ◌∷◌, length, decimal}
use Rattle.std.specs.List.{flat_map, between}
use Rattle.report_lines.specs.Texts.{Adds}
use Rattle.report_lines.proofs.numbers.put_segment_numbers.Given as goal

abbrev pub invariant-loop-done : goal.invariant-loop-done
invariant-loop-done g l = record {
  begun : l.initial.done ≤ l.done;
  within : l.done ≤ length l.segment.numbers;
  written : Adds (g.T.Text.state l.initial.text) (g.T.Text.state l.text) (flat_map (λ n. l.separator ∷ decimal n) (between l.initial.done l.done l.segment.numbers));
}

abbrev pub decreases-loop-done : goal.decreases-loop-done
decreases-loop-done g l = length l.segment.numbers - l.done
