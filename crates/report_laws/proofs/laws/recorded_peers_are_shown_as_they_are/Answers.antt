use Rattle.std.proofs.lemmas.List.Elements.{All-filter}
use Rattle.peer_units.specs.States.{IsByRule}
use Rattle.peer_units.specs.declared.state_rule.StateRule.TheVariants.{Recorded}
use Rattle.peer_units.specs.Plain.{Unit as ReplayUnit}
use Rattle.adj_rib.proofs.StateLaws.{established_if_up}
use Rattle.peer_tables.specs.Peers.{peer_eq, units_of_peer}
use Rattle.report_laws.proofs.laws.recorded_peers_are_shown_as_they_are.Goals as goal

pub returns : goal.returns
returns c = λ units q recorded. established_if_up (units_of_peer units q) (All-filter (λ (u : ReplayUnit). peer_eq u.peer q) (λ (u : ReplayUnit). IsByRule Recorded u.payload) units recorded)
