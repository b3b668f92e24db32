use Rattle.std.proofs.Common.{rules, ◌≡◌, List, refl}
use Rattle.std.proofs.lemmas.Result.{on_ok_weaker}
use Rattle.bgp_prefix.specs.Keys.{RouteKey as Key}
use Rattle.bgp_update.specs.Decoded.{IsGrown}
use Rattle.bgp_update.proofs.Spans.{grown_same}
use Rattle.peer_units.specs.declared.decoded_events.DecodedEvent.TheVariants as decoded
use Rattle.bgp_update.specs.Values.{plain_rules}
use Rattle.bgp_update.specs.declared.error_rule.ErrorRule.TheVariants.{Skip}
use Rattle.bgp_update.specs.declared.width.Width.TheVariants.{Four}
use Rattle.peer_units.specs.DecodedEvents.{event_at}
use Rattle.peer_units.specs.Events.{entry_event_in}
use Rattle.peer_units.proofs.DecodedLaws.{one_more}
use Rattle.peer_units.proofs.decoded_events.keep_entry.Goals as goal

pub returns-in-Ok-clause-kept : goal.returns-in-Ok-clause-kept
returns-in-Ok-clause-kept g c =
    let bytes = c.decode_entry.new.bytes.items in
    let is = entry_event_in Skip (plain_rules g.F.Unicast.family) Four c.args.key c.args.attrs.now in
    let grown : IsGrown c.args.bytes.now.items bytes = search rules in
    on_ok_weaker c.keep.result (λ added (keys : List Key).
    let own : event_at keys bytes (decoded.Rib c.args.key c.in-Ok.route) ≡ is = search rules in
    one_more keys keys c.args.bytes.now.items bytes c.args.events.now.items c.keep.new.events.items (decoded.Rib c.args.key c.in-Ok.route) is (grown_same keys keys refl) grown own c.in-Ok.ensures.there added)
    c.keep.ensures.kept

pub returns-in-Err-Bad-clause-kept : goal.returns-in-Err-Bad-clause-kept
returns-in-Err-Bad-clause-kept g c =
    let bytes = c.decode_entry.new.bytes.items in
    let is = entry_event_in Skip (plain_rules g.F.Unicast.family) Four c.args.key c.args.attrs.now in
    let grown : IsGrown c.args.bytes.now.items bytes = search rules in
    on_ok_weaker c.keep-in-Err-Bad.result (λ added (keys : List Key).
    let own : event_at keys bytes (decoded.Damaged c.in-Err-Bad.fault) ≡ is = search rules in
    one_more keys keys c.args.bytes.now.items bytes c.args.events.now.items c.keep-in-Err-Bad.new.events.items (decoded.Damaged c.in-Err-Bad.fault) is (grown_same keys keys refl) grown own tt added)
    (rw c.in-Err-Bad.field-0-is at c.keep-in-Err-Bad.ensures.kept)
