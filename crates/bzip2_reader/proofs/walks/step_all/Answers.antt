use Rattle.std.proofs.Common.{All, List, subst, sym}
use Rattle.std.proofs.lemmas.List.Elements.{All-set}
use Rattle.bzip2_reader.specs.declared.walks.Lane.{Lane}
use Rattle.bzip2_reader.specs.declared.walks.Segments.{Segments}
use Rattle.bzip2_reader.specs.Walks.{AreSegments, IsLane}
use Rattle.bzip2_reader.proofs.walks.step_all.Goals.{then-step, else-step}
use Rattle.bzip2_reader.proofs.walks.step_all.Goals as goal

pub loop-lane-preserved : goal.loop-lane-preserved
loop-lane-preserved c =
    let links = c.args.links.now in
    elim c.if-step.branch [
      | then-step w ↦ record {
        lanes = subst (λ (l : List Lane). All (IsLane links) l) (sym w.lanes-is) (All-set (IsLane links) _ _ _ (w.begin.ensures links) c.loop-lane.invariant.lanes);
        segments = subst (λ (s : Segments). AreSegments links s) (sym w.segments-is) (w.keep.ensures links c.step.ensures c.loop-lane.invariant.segments);
      }
      | else-step w ↦ record {
        lanes = subst (λ (l : List Lane). All (IsLane links) l) (sym w.lanes-is) (All-set (IsLane links) _ _ _ c.step.ensures c.loop-lane.invariant.lanes);
        segments = subst (λ (s : Segments). AreSegments links s) (sym w.segments-is) c.loop-lane.invariant.segments;
      }
    ]
