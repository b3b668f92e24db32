use Rattle.std.proofs.Common.{◌≡◌, false, take}
use Rattle.peer_units.specs.Selections.{has_chosen}
use Rattle.peer_units.proofs.selection.has_chosen.Given as goal

abbrev pub invariant-loop-key : goal.invariant-loop-key
invariant-loop-key g l = has_chosen l.chosen (take l.key-index l.keys) ≡ false
