use Rattle.std.proofs.Common.{◌≡◌, take}
use Rattle.std.specs.List.{All}
use Rattle.bgp_prefix.specs.Prefixes.{IsIpPrefix}
use Rattle.peer_units.specs.Named.{named_as}
use Rattle.peer_units.proofs.chosen_prefixes.named_as.Given as goal

abbrev pub invariant-loop-choice : goal.invariant-loop-choice
invariant-loop-choice g l = record {
  names : l.names.items ≡ named_as l.reach (take l.choice-index l.choices);
  known : All IsIpPrefix l.names.items;
}
