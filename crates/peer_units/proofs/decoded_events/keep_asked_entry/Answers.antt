use Rattle.std.proofs.Common.{rules, ◌≡◌, refl}
use Rattle.std.proofs.lemmas.Result.{on_ok_weaker}
use Rattle.bgp_update.specs.Decoded.{IsGrown}
use Rattle.bgp_update.specs.Families.{route_rules}
use Rattle.bgp_update.proofs.Spans.{IsGrown-trans, grown_same}
use Rattle.peer_units.specs.declared.decoded_events.DecodedEvent.TheVariants as decoded
use Rattle.peer_units.specs.DecodedEvents.{event_at}
use Rattle.peer_units.specs.Events.{entry_event_in}
use Rattle.peer_units.proofs.DecodedLaws.{one_more}
use Rattle.peer_units.proofs.decoded_events.keep_asked_entry.Goals as goal

pub returns-in-Ok-clause-kept : goal.returns-in-Ok-clause-kept
returns-in-Ok-clause-kept g c =
    let keys = c.args.keys.now.items in
    let bytes = c.decode_asked_entry.new.bytes.items in
    let is = entry_event_in c.args.rules.errors (route_rules c.args.rules) c.args.rules.entry_width c.args.key c.args.attrs.now in
    let grown : IsGrown c.args.bytes.now.items bytes = search rules in
    let own : event_at keys bytes (decoded.Rib c.args.key c.in-Ok.route) ≡ is = search rules in
    on_ok_weaker c.keep.result (one_more keys keys c.args.bytes.now.items bytes c.args.events.now.items c.keep.new.events.items (decoded.Rib c.args.key c.in-Ok.route) is (grown_same keys keys refl) grown own c.in-Ok.ensures.there)
    c.keep.ensures.kept

pub returns-in-Ok-decode_damaged_entry-clause-kept : goal.returns-in-Ok-decode_damaged_entry-clause-kept
returns-in-Ok-decode_damaged_entry-clause-kept g c =
    let new = c.decode_damaged_entry.new in
    let event = c.in-Ok-decode_damaged_entry.event in
    let is = entry_event_in c.args.rules.errors (route_rules c.args.rules) c.args.rules.entry_width c.args.key c.args.attrs.now in
    let read = c.decode_asked_entry.new.bytes.items in
    let first : IsGrown c.args.bytes.now.items read = search rules in
    let grown = IsGrown-trans c.args.bytes.now.items read new.bytes.items first c.in-Ok-decode_damaged_entry.ensures.bytes in
    let own : event_at new.keys.items new.bytes.items event ≡ is = search rules in
    on_ok_weaker c.keep-in-Ok-decode_damaged_entry.result (one_more c.args.keys.now.items new.keys.items c.args.bytes.now.items new.bytes.items c.args.events.now.items c.keep-in-Ok-decode_damaged_entry.new.events.items event is c.in-Ok-decode_damaged_entry.ensures.keys grown own c.in-Ok-decode_damaged_entry.ensures.there)
    c.keep-in-Ok-decode_damaged_entry.ensures.kept
