use Rattle.std.proofs.Common.{arith}
use Rattle.std.proofs.lemmas.List.Elements.{AllWithin-more_set}
use Rattle.bzip2_reader.specs.Walks.{IsLane}
use Rattle.bzip2_reader.proofs.walks.begin_all.Goals as goal

pub loop-lane-preserved : goal.loop-lane-preserved
loop-lane-preserved c = λ links.
    AllWithin-more_set c.loop-lane.lanes c.loop-lane.lane-index c.begin.new.self (omega arith) (IsLane links) (c.loop-lane.invariant links) (c.begin.ensures links)

pub returns : goal.returns
returns c = λ links k d less. c.loop-lane.invariant links k d (omega arith) (omega (arith, less, c.loop-lane-test.false))
