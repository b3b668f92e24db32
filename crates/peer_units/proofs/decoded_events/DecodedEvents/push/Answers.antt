use Rattle.std.proofs.Common.{[], ◌∷◌, ◌++◌, ap, ◌∙◌}
use Rattle.std.proofs.lemmas.Result.{on_ok_weaker}
use Rattle.peer_units.specs.Events.{event_in}
use Rattle.peer_units.proofs.DecodedLaws.{more_or_none}
use Rattle.peer_units.proofs.decoded_events.DecodedEvents.push.Goals as goal

pub invariant_of-self : goal.invariant_of-self
invariant_of-self g c =
    let self = c.self.inside in
    let new = c.keep_decoded.new in
    more_or_none c.keep_decoded.result self.keys.items new.keys.items self.bytes.items new.bytes.items self.events.items new.events.items (event_in c.args.payload.now) c.self.invariant c.keep_decoded.ensures.kept c.keep_decoded.ensures.none

pub returns : goal.returns
returns g c =
    on_ok_weaker c.keep_decoded.result (λ kept. (kept c.self.invariant).1 ∙ ap (λ es. es ++ event_in c.args.payload.now ∷ []) c.self.view_is) c.keep_decoded.ensures.kept
