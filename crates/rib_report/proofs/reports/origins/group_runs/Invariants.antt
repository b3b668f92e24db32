-- the rows so far, and those of the rest
use Rattle.std.proofs.Common.{◌≡◌, ◌++◌, length}
use Rattle.std.specs.List.{filter}
use Rattle.std.specs.List.Sorted.{IsStrictlySortedBy}
use Rattle.rib_report.specs.Reports.{has_several, grouped_origins, pair_cmp}
use Rattle.rib_report.proofs.reports.origins.group_runs.Given as goal

abbrev pub invariant-loop-rest : goal.invariant-loop-rest
invariant-loop-rest g l = record {
  sorted : IsStrictlySortedBy pair_cmp l.rest;
  rows : l.rows.items ++ filter has_several (grouped_origins l.rest) ≡ filter has_several (grouped_origins l.pairs);
}

abbrev pub decreases-loop-rest : goal.decreases-loop-rest
decreases-loop-rest g l = length l.rest
