use Rattle.std.proofs.Common.{rules, ◌≡◌}
use Rattle.std.proofs.lemmas.Result.{on_ok_weaker}
use Rattle.peer_units.specs.DecodedEvents.{event_at}
use Rattle.peer_units.specs.Events.{event_in}
use Rattle.peer_units.proofs.DecodedLaws.{one_more}
use Rattle.peer_units.proofs.decoded_events.keep_asked.Goals as goal

pub returns-in-Ok-clause-kept : goal.returns-in-Ok-clause-kept
unfolding event_in
returns-in-Ok-clause-kept g c =
    let new = c.decode_asked_message.new in
    let own : event_at new.keys.items new.bytes.items c.in-Ok.event ≡ event_in c.args.payload.now = search rules in
    on_ok_weaker c.keep-in-Ok.result (one_more c.args.keys.now.items new.keys.items c.args.bytes.now.items new.bytes.items c.args.events.now.items c.keep-in-Ok.new.events.items c.in-Ok.event (event_in c.args.payload.now) c.in-Ok.ensures.keys c.in-Ok.ensures.bytes own c.in-Ok.ensures.there)
    c.keep-in-Ok.ensures.kept
