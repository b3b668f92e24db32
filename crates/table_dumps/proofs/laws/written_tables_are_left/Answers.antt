use Rattle.table_dumps.proofs.DumpLaws.{table_left, state_left}
use Rattle.table_dumps.proofs.laws.written_tables_are_left.Goals as goal

pub returns : goal.returns
returns c = record { table = table_left; up = state_left }
