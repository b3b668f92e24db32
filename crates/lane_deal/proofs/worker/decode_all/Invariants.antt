use Rattle.std.proofs.Common.{take}
use Rattle.unit_rings.specs.DecodedUnitLists.{AreDecoded}
use Rattle.unit_rings.specs.UnitLists.{units_of}
use Rattle.lane_deal.proofs.worker.decode_all.Given as goal

abbrev pub invariant-loop-at : goal.invariant-loop-at
invariant-loop-at g l = AreDecoded l.batch (take l.at (units_of l.items))
