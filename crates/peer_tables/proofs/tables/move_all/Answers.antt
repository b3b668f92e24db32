use Rattle.std.proofs.Common.{◌≡◌, ◌+◌, ap, ◌∙◌, arith, length, length-append, ◌++◌}
use Rattle.peer_tables.proofs.CollectLaws.{flat, flat_push, moved_more}
use Rattle.peer_tables.proofs.tables.move_all.Goals as goal

pub loop-lane-preserved : goal.loop-lane-preserved
loop-lane-preserved g c =
    let rest = c.pop.new.self.items in
    let taken = c.in-Some.ensures.items in
    let sizes : length (flat c.loop-lane.lanes.items) ≡ length (flat rest) + length c.in-Some.lane = ap (λ l. length (flat l)) taken ∙ ap length (flat_push rest c.in-Some.lane) ∙ length-append (flat rest) c.in-Some.lane in
    let moved = ap length c.into_vec-items.ensures in
    record {
      room = omega (arith, sizes, moved, c.loop-lane.invariant.room, c.in-Ok.ensures.len, c.append.ensures.capacity, c.into_vec-items.result.ok.0);
      moved = moved_more _ c.loop-lane.lanes.items rest c.in-Some.lane c.loop-lane.all.items _ taken (c.in-Ok.ensures.items ∙ ap (λ l. c.loop-lane.all.items ++ l) c.into_vec-items.ensures) c.loop-lane.invariant.moved;
    }
