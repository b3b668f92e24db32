use Rattle.std.proofs.Common.{◌∙◌}
use Rattle.adj_rib.proofs.WatchLaws.{seen_as, watch_at_start}
use Rattle.adj_rib.specs.Histories.{with_outcomes}
use Rattle.adj_rib.proofs.watch.Watch.new.Goals as goal

pub returns : goal.returns
returns g c = λ since choices. (λ i. seen_as (c.new.ensures i) (with_outcomes (c.new.ensures i).churn (c.new-2.ensures i))) ∙ watch_at_start since choices
