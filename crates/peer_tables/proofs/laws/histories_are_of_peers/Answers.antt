use Rattle.peer_tables.proofs.HistoryLaws.{history_of-peer, history_of-where}
use Rattle.peer_tables.proofs.laws.histories_are_of_peers.Goals as goal

pub returns : goal.returns
returns c = record { one = λ units q. history_of-peer q units; some = history_of-where }
