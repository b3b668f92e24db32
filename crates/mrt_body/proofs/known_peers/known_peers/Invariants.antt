use Rattle.std.proofs.Common.{◌≡◌}
use Rattle.mrt_body.specs.KnownPeers.{is_meant, known_where}
use Rattle.mrt_body.proofs.KnownLaws.{found_and_left}
use Rattle.mrt_body.proofs.known_peers.known_peers.Given as goal

abbrev pub invariant-loop-peer : goal.invariant-loop-peer
invariant-loop-peer l = found_and_left (is_meant l.meant) l.told.items l.peer-iterator ≡ known_where (is_meant l.meant) l.known.keys
