use Rattle.peer_tables.proofs.PeerPositions.{stands_at}
use Rattle.peer_tables.proofs.peer_numbers.Peers.find.Goals as goal

pub returns-in-Some-clause-found : goal.returns-in-Some-clause-found
returns-in-Some-clause-found c = stands_at _ _ _ _ c.in-Some.ensures

pub returns-clause-found : goal.returns-clause-found
returns-clause-found c = stands_at _ _ _ _ c.in_ok-number.ensures
