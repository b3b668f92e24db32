use Rattle.std.proofs.Common.{map, refl, ◌∙◌}
use Rattle.peer_tables.specs.Watching.{watch_in}
use Rattle.peer_tables.proofs.RowLaws.{rows_of_all}
use Rattle.rib_report.specs.Reports.{watch_churn}
use Rattle.rib_report.proofs.reports.churn.watched_churn.Goals as goal

pub returns : goal.returns
returns g c = c.loop-watched.invariant ∙ rows_of_all watch_in watch_churn c.args.watches.now (map watch_in c.args.watches.now) c.loop-watched.watched-index c.loop-watched-test.false refl
