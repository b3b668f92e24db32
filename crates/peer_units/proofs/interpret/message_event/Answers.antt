use Rattle.std.proofs.Common.{arith}
use Rattle.bgp_update.specs.Families.{route_rules}
use Rattle.peer_units.specs.Events.{IsMessageEvent, message_event_in}
use Rattle.peer_units.proofs.EventLaws.{given_is, message_event_takes, message_event_again}
use Rattle.peer_units.proofs.interpret.message_event.Goals as goal

pub returns-clause-found : goal.returns-clause-found
returns-clause-found g c =
    let rules = c.args.rules in
    given_is c.read_message.result (message_event_in rules.errors (route_rules rules) c.args.width c.args.add_path c.args.bytes.now)
    (IsMessageEvent rules.errors (route_rules rules) c.args.width c.args.add_path c.args.bytes.now)
    (λ e. message_event_takes rules.errors (route_rules rules) c.args.width c.args.add_path c.args.bytes.now e (λ i. omega (arith, c.type_inv.bytes i)))
    c.read_message.ensures.exact

pub returns-clause-only : goal.returns-clause-only
returns-clause-only g c e h =
    let rules = c.args.rules in
    rw (message_event_again rules.errors (route_rules rules) c.args.width c.args.add_path c.args.bytes.now e h) at c.read_message.ensures.exact
