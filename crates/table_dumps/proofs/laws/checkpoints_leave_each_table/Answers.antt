use Rattle.std.proofs.Common.{refl}
use Rattle.table_dumps.specs.Checkpoints.{keys_of}
use Rattle.table_dumps.proofs.PeersLaws.{peers_again, table_again, state_again}
use Rattle.table_dumps.proofs.laws.checkpoints_leave_each_table.Goals as goal

pub returns : goal.returns
returns c = record {
  peers = λ split rules rule file offset seconds peers apart fit. peers_again rules rule file seconds (keys_of peers) split offset peers refl apart fit;
  table = table_again;
  up = state_again;
}
