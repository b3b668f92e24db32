-- the pairs of the entries so far
use Rattle.std.proofs.Common.{◌≡◌, ◌++◌, take}
use Rattle.std.specs.List.{filter_map}
use Rattle.rib_report.specs.Reports.{origin_pair}
use Rattle.rib_report.proofs.reports.origins.add_origins.Given as goal

abbrev pub invariant-loop-entry : goal.invariant-loop-entry
invariant-loop-entry g l = l.pairs.items ≡ l.initial.pairs.items ++ filter_map origin_pair (take l.entry-index l.entry-items)
