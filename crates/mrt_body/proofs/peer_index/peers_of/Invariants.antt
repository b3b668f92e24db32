use Rattle.std.proofs.Common.{◌≡◌, ◌-◌}
use Rattle.mrt_frame.proofs.Items.{still}
use Rattle.mrt_body.specs.Indexes.{peer_at}
use Rattle.mrt_body.specs.Many.{many}
use Rattle.bgp_update.proofs.Readings.{push}
use Rattle.mrt_body.proofs.peer_index.peers_of.Given as goal

abbrev pub invariant-loop : goal.invariant-loop
invariant-loop l = still push l.peers.items (many peer_at (l.count - l.counter) l.rest) ≡ many peer_at l.count l.bytes
