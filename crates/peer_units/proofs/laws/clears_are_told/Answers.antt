use Rattle.peer_units.proofs.EventLaws.{recorded_told}
use Rattle.peer_units.proofs.laws.clears_are_told.Goals as goal

pub returns : goal.returns
returns c = recorded_told
