use Rattle.table_dumps.proofs.PlaceLaws.{files_alike}
use Rattle.table_dumps.proofs.laws.files_give_units_alike.Goals as goal

pub returns : goal.returns
returns c = files_alike
