use Rattle.std.proofs.Common.{◌≡◌, ◌++◌, length}
use Rattle.mrt_body.proofs.rib_dumps.listed.Given as goal

abbrev pub invariant-loop-peer : goal.invariant-loop-peer
invariant-loop-peer l = l.list.items ++ l.left.keys ≡ l.initial.left.keys

abbrev pub decreases-loop-peer : goal.decreases-loop-peer
decreases-loop-peer l = length l.left.keys
