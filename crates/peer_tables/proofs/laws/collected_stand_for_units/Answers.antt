use Rattle.peer_tables.proofs.StandingLaws.{AreTablesOf-collected}
use Rattle.peer_tables.proofs.laws.collected_stand_for_units.Goals as goal

pub returns : goal.returns
returns c = AreTablesOf-collected
