use Rattle.std.proofs.Common.{◌≡◌, false, take}
use Rattle.table_dumps.specs.Checkpoints.{have_identifiers}
use Rattle.checkpoint_writing.proofs.prefix_records.have_identifiers.Given as goal

abbrev pub invariant-loop-route : goal.invariant-loop-route
invariant-loop-route l = have_identifiers (take l.route-index l.fn.routes) ≡ false
