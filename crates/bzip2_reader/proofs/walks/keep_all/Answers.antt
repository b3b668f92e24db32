use Rattle.std.proofs.Common.{subst, sym}
use Rattle.bzip2_reader.specs.declared.walks.Lane.{Lane}
use Rattle.bzip2_reader.specs.Walks.{IsLane}
use Rattle.bzip2_reader.proofs.walks.keep_all.Goals as goal

pub loop-lane-preserved : goal.loop-lane-preserved
loop-lane-preserved c =
    let links = c.args.links.now in
    c.keep.ensures links (subst (λ (l : Lane). IsLane links l) (sym c.lane-item.is) (c.requires.lanes c.loop-lane.lane-index c.lane-item.result c.loop-lane-test.true)) c.loop-lane.invariant
