use Rattle.std.proofs.Common.{◌≡◌, false, take}
use Rattle.std.specs.List.{list_any}
use Rattle.peer_units.specs.Choices.{names_peer}
use Rattle.peer_units.proofs.choice.is_chosen_peer.Given as goal

abbrev pub invariant-loop-choice : goal.invariant-loop-choice
invariant-loop-choice l = list_any (λ choice. names_peer choice l.peer) (take l.choice-index l.choices) ≡ false
