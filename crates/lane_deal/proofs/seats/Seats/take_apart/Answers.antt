use Rattle.std.proofs.Common.{sym, ap, ◌∙◌}
use Rattle.peer_units.specs.Events.{event_in}
use Rattle.peer_units.specs.DecodedEvents.{Means, event_of}
use Rattle.unit_rings.specs.DecodedUnitLists.{head_of}
use Rattle.lane_deal.proofs.seats.Seats.take_apart.Goals as goal

pub returns : goal.returns
returns g c = λ item decoded.
    let head = sym (c.head.ensures (head_of item)) ∙ decoded.head (head_of item) in
    let event = sym (c.event.ensures (event_in item.unit.payload)) ∙ decoded.event (event_in item.unit.payload) in
    let means : Means item.unit c.head.result.now.place c.head.result.now.time (event_of c.event.result) = record { place_is = sym (ap (λ h. h.place) head); time_is = sym (ap (λ h. h.time) head); event_is = sym event } in
    c.take_at.ensures item.unit means
