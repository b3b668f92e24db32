use Rattle.table_dumps.proofs.FitLaws.{dump_fits}
use Rattle.table_dumps.proofs.laws.tables_that_fit_are_written.Goals as goal

pub returns : goal.returns
returns c = dump_fits
