use Rattle.peer_tables.proofs.StandingLaws.{AreTablesOf-only, AreTablesOf-tables_of}
use Rattle.peer_tables.proofs.laws.tables_are_of_units.Goals as goal

pub returns : goal.returns
returns c = record { only = AreTablesOf-only; stand = AreTablesOf-tables_of }
