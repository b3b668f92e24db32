use Rattle.std.proofs.Common.{sym, subst}
use Rattle.peer_tables.specs.Tables.{IsCollected}
use Rattle.peer_tables.specs.Gathers.{gathered_seats}
use Rattle.peer_tables.proofs.StandingLaws.{collected_alike}
use Rattle.peer_tables.proofs.laws.lanes_make_no_difference.Goals as goal

pub returns : goal.returns
returns g c = λ gathered others tables other same refused one two.
    collected_alike (gathered_seats gathered) (gathered_seats others) gathered.refused tables other same one
    (subst (λ kept. IsCollected (gathered_seats others) kept other) (sym refused) two)
