use Rattle.peer_tables.proofs.ShareLaws.{peers_of-where, units_of_peer-where}
use Rattle.peer_tables.proofs.laws.shares_keep_peers.Goals as goal

pub returns : goal.returns
returns c = record { peers = peers_of-where; units = units_of_peer-where }
