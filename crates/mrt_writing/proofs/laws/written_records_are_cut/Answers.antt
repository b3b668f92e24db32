use Rattle.mrt_writing.proofs.RecordLaws.{cuts-written, records-cut}
use Rattle.mrt_writing.proofs.laws.written_records_are_cut.Goals as goal

pub returns : goal.returns
returns c = record { first = cuts-written; all = records-cut }
