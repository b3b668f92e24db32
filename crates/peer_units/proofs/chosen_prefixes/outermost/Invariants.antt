use Rattle.peer_units.proofs.NamedLaws.{Keeps}
use Rattle.peer_units.proofs.chosen_prefixes.outermost.Given as goal

abbrev pub invariant-loop-prefix : goal.invariant-loop-prefix
invariant-loop-prefix g l = Keeps l.names l.prefix-index l.kept.items
