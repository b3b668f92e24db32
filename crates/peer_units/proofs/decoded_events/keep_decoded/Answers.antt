use Rattle.std.proofs.Common.{rules, ◌≡◌, subst}
use Rattle.std.proofs.lemmas.Result.{on_ok_weaker}
use Rattle.bgp_update.specs.Values.{plain_rules}
use Rattle.bgp_update.specs.declared.error_rule.ErrorRule.TheVariants.{Skip}
use Rattle.bgp_update.specs.declared.width.Width.TheVariants.{Four}
use Rattle.peer_units.specs.DecodedEvents.{IsOneMore, event_at}
use Rattle.peer_units.specs.Events.{entry_event_in, event_in}
use Rattle.peer_units.proofs.DecodedLaws.{one_more}
use Rattle.peer_units.proofs.decoded_events.keep_decoded.Goals as goal

pub returns-in-Ok-clause-kept : goal.returns-in-Ok-clause-kept
unfolding event_in
returns-in-Ok-clause-kept g c =
    let new = c.decode_message.new in
    let own : event_at new.keys.items new.bytes.items c.in-Ok.event ≡ event_in c.args.payload.now = search rules in
    on_ok_weaker c.keep-in-Ok.result (one_more c.args.keys.now.items new.keys.items c.args.bytes.now.items new.bytes.items c.args.events.now.items c.keep-in-Ok.new.events.items c.in-Ok.event (event_in c.args.payload.now) c.in-Ok.ensures.keys c.in-Ok.ensures.bytes own c.in-Ok.ensures.there)
    c.keep-in-Ok.ensures.kept

pub returns-else-not-is_plain-2-clause-kept : goal.returns-else-not-is_plain-2-clause-kept
unfolding event_in
returns-else-not-is_plain-2-clause-kept g c =
    let keys = c.args.keys.now.items in
    let own : entry_event_in Skip (plain_rules g.F.Unicast.family) Four c.in-Entry.key c.as_slice.result.now ≡ event_in c.args.payload.now = search rules in
    on_ok_weaker c.keep_entry.result (λ kept. subst (IsOneMore keys c.args.bytes.now.items c.args.events.now.items keys c.keep_entry.new.bytes.items c.keep_entry.new.events.items) own (kept keys))
    c.keep_entry.ensures.kept
