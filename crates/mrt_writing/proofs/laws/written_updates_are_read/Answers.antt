use Rattle.mrt_writing.proofs.UpdateLaws.{update_again}
use Rattle.mrt_writing.proofs.laws.written_updates_are_read.Goals as goal

pub returns : goal.returns
returns c = update_again
