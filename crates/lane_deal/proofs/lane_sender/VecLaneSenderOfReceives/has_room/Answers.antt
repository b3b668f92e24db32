use Rattle.std.proofs.Common.{sym, ap, ◌∙◌, arith}
use Rattle.unit_rings.specs.UnitRings.{known_free}
use Rattle.lane_deal.proofs.Deals.{room_at, room_set}
use Rattle.lane_deal.proofs.lane_sender.VecLaneSenderOfReceives.has_room.Goals as goal

pub returns-clause-room : goal.returns-clause-room
returns-clause-room g c = λ e. let room = c.has_room.ensures.room e in let same = room_set c.args.self.now.items c.args.lane c.has_room.new.self c.requires in omega (arith, room, same)

pub returns-clause-full : goal.returns-clause-full
returns-clause-full g c = λ e.
    room_at c.args.self.now.items c.args.lane c.index_mut.result.now c.requires ∙ (ap (λ sender. known_free sender.producer) (sym c.index_mut.ensures.value) ∙ c.has_room.ensures.full e)
