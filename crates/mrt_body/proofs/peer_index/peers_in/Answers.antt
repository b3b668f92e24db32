use Rattle.mrt_body.proofs.PeerLaws.{peers_in-is}
use Rattle.mrt_body.proofs.peer_index.peers_in.Goals as goal

pub returns-in-Ok : goal.returns-in-Ok
returns-in-Ok c = rw (peers_in-is, c.in-Ok.ensures) c.peers_of.ensures

pub returns-in-Err : goal.returns-in-Err
returns-in-Err c = rw (peers_in-is, c.in-Err.ensures)
