-- the numbers so far, each behind a separator
use Rattle.std.proofs.Common.{◌+◌, ◌-◌, ◌*◌, ◌∷◌, decimal}
use Rattle.std.specs.List.{flat_map, between}
use Rattle.ip_text.specs.Formats.{Formats}
use Rattle.report_lines.proofs.numbers.format_numbers.Given as goal

abbrev pub invariant-loop-i : goal.invariant-loop-i
invariant-loop-i l =
    Formats l.initial.bytes l.initial.end l.bytes l.end (13 * (l.i - (l.fn.from + 1))) (flat_map (λ n. l.separator ∷ decimal n) (between (l.fn.from + 1) l.i l.segment.numbers))
