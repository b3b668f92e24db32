use Rattle.adj_rib.proofs.Selected.{is_up-concerned, is_established-concerned, table_of-concerned, outcomes_of-concerned}
use Rattle.adj_rib.proofs.laws.early_is_late.Goals as goal

pub returns : goal.returns
returns c = record { state = is_up-concerned; established = is_established-concerned; routes = table_of-concerned; outcomes = outcomes_of-concerned }
