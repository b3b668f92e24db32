use Rattle.std.proofs.Common.{◌≡◌, ◌+◌, drop}
use Rattle.unit_rings.specs.UnitLists.{total}
use Rattle.unit_rings.proofs.unit_producer.take_sum.Given as goal

abbrev pub invariant-loop-taken : goal.invariant-loop-taken
invariant-loop-taken l = (l.lengths.items ≡ drop l.taken l.initial.lengths.items) × (l.sum + total l.lengths.items ≡ total l.initial.lengths.items)
