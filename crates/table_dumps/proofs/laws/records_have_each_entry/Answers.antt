use Rattle.table_dumps.proofs.MergeLaws.{parts_have, records_split}
use Rattle.table_dumps.proofs.laws.records_have_each_entry.Goals as goal

pub returns : goal.returns
returns c = record { split = records_split; entries = parts_have }
