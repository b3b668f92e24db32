use Rattle.std.proofs.Common.{◌∙◌, map, refl, ap, sym, subst}
use Rattle.peer_units.specs.Events.{event_in}
use Rattle.peer_tables.specs.Seats.{seat_of}
use Rattle.peer_units.specs.DecodedEvents.{Means, event_of}
use Rattle.unit_rings.specs.DecodedUnitLists.{head_of}
use Rattle.lane_deal.specs.Seating.{SeatFor}
use Rattle.lane_deal.proofs.SeatLists.{HoldsUnits-taken}
use Rattle.lane_deal.proofs.seats.SeatsSessions.take.Goals as goal

pub returns-in-Rib : goal.returns-in-Rib
returns-in-Rib g c = λ item decoded.
    let head = sym (c.head-head.ensures (head_of item)) ∙ decoded.head (head_of item) in
    let event = sym (c.event.ensures (event_in item.unit.payload)) ∙ decoded.event (event_in item.unit.payload) in
    let means : Means item.unit c.head-head.result.now.place c.head-head.result.now.time (event_of c.event.result) = record { place_is = sym (ap (λ h. h.place) head); time_is = sym (ap (λ h. h.time) head); event_is = sym event } in
    let seat = subst (λ h. SeatFor (map seat_of c.args.self.now.seats.items) (map seat_of c.position_for.new.self.seats.items) h.number h.peer c.in_ok-position.position) head c.in_ok-position.ensures.seat in
    HoldsUnits-taken c.take_at.result _ _ _ _ item.number c.in_ok-position.position item.unit seat refl (c.take_at.ensures item.unit (rw c.in-Rib.is at means))

pub returns-in_default : goal.returns-in_default
returns-in_default g c = λ item decoded.
    let head = sym (c.head-head.ensures (head_of item)) ∙ decoded.head (head_of item) in
    let seat = subst (λ h. SeatFor (map seat_of c.args.self.now.seats.items) (map seat_of c.position_for.new.self.seats.items) h.number h.peer c.in_ok-position.position) head c.in_ok-position.ensures.seat in
    HoldsUnits-taken c.take_apart.result _ _ _ _ item.number c.in_ok-position.position item.unit seat refl (c.take_apart.ensures item decoded)
