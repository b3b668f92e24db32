use Rattle.history_replay.proofs.CountedRoutes.{count_more}
use Rattle.history_replay.proofs.history.count_chosen.Goals as goal

pub loop-entry-preserved : goal.loop-entry-preserved
loop-entry-preserved g c =
    count_more c.args.routes.now c.args.entries.now c.loop-entry.entry-index c.entry-item.result c.loop-entry.count c.one_if-one.result c.saturating_add-count.result c.is_chosen-is_chosen.result c.loop-entry-test.true c.entry-item.is c.is_chosen-is_chosen.ensures c.one_if-one.ensures c.loop-entry.invariant c.saturating_add-count.ensures
