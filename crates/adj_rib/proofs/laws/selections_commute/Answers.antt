use Rattle.adj_rib.proofs.Selected.{table_of-selected, outcomes_of-selected}
use Rattle.adj_rib.proofs.laws.selections_commute.Goals as goal

pub returns : goal.returns
returns c = record { tables = table_of-selected; outcomes = outcomes_of-selected }
