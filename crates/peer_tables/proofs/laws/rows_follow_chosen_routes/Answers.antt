use Rattle.std.proofs.Common.{refl}
use Rattle.peer_tables.proofs.HistoryLaws.{rows_of_choice}
use Rattle.peer_tables.proofs.laws.rows_follow_chosen_routes.Goals as goal

pub returns : goal.returns
returns c = record { rows = rows_of_choice; unnamed = λ note. refl }
