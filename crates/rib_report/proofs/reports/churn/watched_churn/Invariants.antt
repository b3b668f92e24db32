-- the rows of the watches so far
use Rattle.std.proofs.Common.{◌≡◌, map, take}
use Rattle.peer_tables.specs.Watching.{watch_in}
use Rattle.rib_report.specs.Reports.{watch_churn}
use Rattle.rib_report.proofs.reports.churn.watched_churn.Given as goal

abbrev pub invariant-loop-watched : goal.invariant-loop-watched
invariant-loop-watched g l = l.rows.items ≡ map (λ w. watch_churn (watch_in w)) (take l.watched-index l.watches)
