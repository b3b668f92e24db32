use Rattle.std.proofs.Common.{◌≡◌, take}
use Rattle.std.specs.List.{fold}
use Rattle.mrt_body.specs.RibDumps.{hear}
use Rattle.mrt_body.proofs.rib_dumps.insert_all.Given as goal

abbrev pub invariant-loop-peer : goal.invariant-loop-peer
invariant-loop-peer l = l.set.keys ≡ fold hear l.initial.set.keys (take l.peer-index l.peers)
