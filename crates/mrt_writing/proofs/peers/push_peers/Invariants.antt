-- the peers so far
use Rattle.std.proofs.Common.{◌≡◌, ◌++◌, take}
use Rattle.std.specs.List.{flat_map}
use Rattle.mrt_body.specs.Indexes.{peer_bytes}
use Rattle.mrt_writing.specs.Heads.{written_peer}
use Rattle.mrt_writing.proofs.peers.push_peers.Given as goal

abbrev pub invariant-loop-peer : goal.invariant-loop-peer
invariant-loop-peer l =
    l.out.items ≡ l.fn.out.items ++ flat_map (λ p. peer_bytes (written_peer p)) (take l.peer-index l.fn.peers)
