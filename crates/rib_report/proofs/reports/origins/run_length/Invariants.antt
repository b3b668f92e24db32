-- the pairs so far have the prefix
use Rattle.std.proofs.Common.{◌≡◌}
use Rattle.std.specs.List.{AllWithin}
use Rattle.rib_report.proofs.reports.origins.run_length.Given as goal

abbrev pub invariant-loop-i : goal.invariant-loop-i
invariant-loop-i g l = AllWithin (λ e. e.0 ≡ l.first) l.pairs 0 l.i
