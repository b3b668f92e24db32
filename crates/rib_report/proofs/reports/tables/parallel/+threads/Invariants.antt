use Rattle.std.proofs.Common.{◌+◌, ◌-◌, ◌*◌, length}
use Rattle.rib_report.proofs.reports.tables.parallel.+threads.Given as goal

-- some blocks aren't none, so a call for both lies between that for all and that for the others
abbrev pub decreases-fill_and_put : goal.decreases-fill_and_put
decreases-fill_and_put g l = 4 * length l.filling.now

abbrev pub decreases-fill_some_and_put : goal.decreases-fill_some_and_put
decreases-fill_some_and_put g l = 4 * (length l.some.now + length l.others.now) - 1

abbrev pub decreases-fill_some_and_put-put : goal.decreases-fill_some_and_put-put
decreases-fill_some_and_put-put g l = 4 * length l.others.now + 1
