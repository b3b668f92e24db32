use Rattle.table_dumps.proofs.CutLaws.{peers_go_on_as, tables_go_on_as}
use Rattle.table_dumps.proofs.laws.replays_can_be_cut.Goals as goal

pub returns : goal.returns
returns c = record { peers = peers_go_on_as; tables = tables_go_on_as }
