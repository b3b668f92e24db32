use Rattle.std.proofs.Common.{List, take}
use Rattle.unit_rings.specs.DecodedUnitLists.{AreDecoded}
use Rattle.lane_deal.specs.LaneWorkers.{Takes}
use Rattle.unit_rings.specs.Plain.{PeerUnit}
use Rattle.lane_deal.proofs.worker.Worker+S+Prefix+F+Rules+F.take_decoded.Given as goal

abbrev pub invariant-loop-at : goal.invariant-loop-at
invariant-loop-at g l = (items : List PeerUnit) → AreDecoded l.batch items → Takes g.S.Sessions.stands_for l.initial.self l.self (take l.at items)
