use Rattle.std.proofs.Common.{ap, arith}
use Rattle.unit_rings.specs.UnitRings.{known_free}
use Rattle.lane_deal.proofs.Deals.{room_at}
use Rattle.lane_deal.proofs.lane_sender.VecLaneSenderOfReceives.receive.Goals as goal

pub push-requires-clause-room : goal.push-requires-clause-room
push-requires-clause-room g c =
    let room = room_at c.args.self.now.items c.args.lane c.index_mut.result.now c.requires.lane in
    let same = ap (λ sender. known_free sender.producer) c.index_mut.ensures.value in
    omega (arith, room, same, c.requires.room)
