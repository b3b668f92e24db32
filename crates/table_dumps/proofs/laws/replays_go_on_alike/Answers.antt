use Rattle.table_dumps.proofs.ResumingLaws.{go_on_alike, clear_of_nothing, down_has_none}
use Rattle.table_dumps.proofs.laws.replays_go_on_alike.Goals as goal

pub returns : goal.returns
returns c = record { more = go_on_alike; cleared = clear_of_nothing; down = down_has_none }
