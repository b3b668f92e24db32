use Rattle.peer_tables.proofs.Retained.{AreChanged}
use Rattle.peer_tables.proofs.retaining.retain_each.Given as goal

abbrev pub invariant-loop-at : goal.invariant-loop-at
invariant-loop-at g l = AreChanged (g.S.Retains.retained l.chosen) l.at l.initial.seats l.seats
