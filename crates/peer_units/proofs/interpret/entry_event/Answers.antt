use Rattle.std.proofs.Common.{arith}
use Rattle.bgp_update.specs.Families.{route_rules}
use Rattle.peer_units.specs.Events.{IsEntryEvent, entry_event_in}
use Rattle.peer_units.proofs.EventLaws.{given_is, entry_event_takes, entry_event_again}
use Rattle.peer_units.proofs.interpret.entry_event.Goals as goal

pub returns-clause-found : goal.returns-clause-found
returns-clause-found g c =
    let rules = c.args.rules in
    given_is c.read_entry.result (entry_event_in rules.errors (route_rules rules) rules.entry_width c.args.key c.args.attrs.now)
    (IsEntryEvent rules.errors (route_rules rules) rules.entry_width c.args.key c.args.attrs.now)
    (λ e. entry_event_takes rules.errors (route_rules rules) rules.entry_width c.args.key c.args.attrs.now e (λ i. omega (arith, c.type_inv.attrs i)))
    c.read_entry.ensures.exact

pub returns-clause-only : goal.returns-clause-only
returns-clause-only g c e h =
    let rules = c.args.rules in
    rw (entry_event_again rules.errors (route_rules rules) rules.entry_width c.args.key c.args.attrs.now e h) at c.read_entry.ensures.exact
