-- The rules by which dumps are read that depend on who wrote them.
use Rattle.std.specs.Prelude.{Option, Some, None}
use Rattle.std.specs.Option.{unwrap_or}
use Rattle.peer_units.specs.declared.rib_rule.RibRule.TheVariants.{Add, Replace}
use Rattle.peer_units.specs.declared.state_peers.StatePeers.TheVariants as peers
use Rattle.peer_units.specs.declared.state_rule.StateRule.TheVariants.{Recorded, Established}
use Rattle.command_line.specs.declared.written_by.Daemon.{Daemon}
use Rattle.command_line.specs.declared.written_by.Daemon.TheVariants.{Bird, Frr, Openbgpd, Gobgp}
use Rattle.command_line.specs.declared.written_by.DumpRules.{DumpRules}
use Rattle.command_line.specs.declared.written_by.NamedRules.{NamedRules}

-- where no daemon is named: what is recorded is taken so
abbrev pub rules_of_none : DumpRules
rules_of_none = record { states = Recorded; state_peers = peers.Recorded; ribs = Add }

-- BIRD writes changes between other states, and none of the session's address where the connection is gone; FRR writes
-- the former; OpenBGPD puts itself in the peer's place; GoBGP appends RIB dumps to one file
abbrev pub rules_for : Daemon → DumpRules
rules_for Bird = record { states = Established; state_peers = peers.ByAs; ribs = Add }
rules_for Frr = record { states = Established; state_peers = peers.Recorded; ribs = Add }
rules_for Openbgpd = record { states = Recorded; state_peers = peers.Local; ribs = Add }
rules_for Gobgp = record { states = Recorded; state_peers = peers.Recorded; ribs = Replace }

abbrev pub fitting : Option Daemon → DumpRules
fitting None = rules_of_none
fitting (Some daemon) = rules_for daemon

-- what is named over what fits
abbrev pub named_over : NamedRules → DumpRules → DumpRules
named_over named rules = record {
  states = unwrap_or named.states rules.states;
  state_peers = unwrap_or named.state_peers rules.state_peers;
  ribs = unwrap_or named.ribs rules.ribs;
}

abbrev pub rules_by : Option Daemon → NamedRules → DumpRules
rules_by daemon named = named_over named (fitting daemon)
