use Rattle.adj_rib.proofs.WindowLaws.{churn_within-all}
use Rattle.adj_rib.proofs.laws.counts_are_of_all_units.Goals as goal

pub returns : goal.returns
returns c = churn_within-all
