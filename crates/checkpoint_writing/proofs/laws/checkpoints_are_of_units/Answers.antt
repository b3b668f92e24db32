use Rattle.checkpoint_writing.proofs.UnitsLaws.{written_is}
use Rattle.checkpoint_writing.proofs.laws.checkpoints_are_of_units.Goals as goal

pub returns : goal.returns
returns c = written_is
