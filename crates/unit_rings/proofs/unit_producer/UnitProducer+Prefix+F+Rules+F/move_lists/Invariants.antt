use Rattle.std.proofs.Common.{◌≡◌, take, drop}
use Rattle.unit_rings.specs.UnitRings.{known_lists}
use Rattle.unit_rings.proofs.MovedLists.{MovedLists}
use Rattle.unit_rings.proofs.unit_producer.UnitProducer+Prefix+F+Rules+F.move_lists.Given as goal

abbrev pub invariant-loop-moved : goal.invariant-loop-moved
invariant-loop-moved g l =
    let waiting = known_lists l.initial.from in
    MovedLists l.initial.self l.self (take l.moved waiting) × (known_lists l.from ≡ drop l.moved waiting)
