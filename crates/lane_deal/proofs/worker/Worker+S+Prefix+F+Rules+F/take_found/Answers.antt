use Rattle.std.proofs.Common.{length, ap, arith, length-append}
use Rattle.unit_rings.specs.UnitLists.{units_of_lists}
use Rattle.unit_rings.specs.UnitRings.{received}
use Rattle.lane_deal.proofs.worker.Worker+S+Prefix+F+Rules+F.take_found.Goals as goal

pub returns-clause-some : goal.returns-clause-some
returns-clause-some g c = λ ok.
    let front = c.in_ok-take_list.ensures in
    let same = ap length (ap units_of_lists c.is_empty.ensures.looked.1) in
    let more = ap length front.took.received in
    let n = length-append (received c.is_empty.new.self) front.items in
    let some = front.some in
    omega arith
