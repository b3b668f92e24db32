use Rattle.std.proofs.Common.{drop, sym, ap, ◌∙◌}
use Rattle.std.proofs.lemmas.List.{drop-drop}
use Rattle.unit_rings.specs.UnitRings.{known_lists}
use Rattle.unit_rings.proofs.UnitLists.{fits_next}
use Rattle.unit_rings.proofs.MovedLists.{MovedLists-next}
use Rattle.unit_rings.proofs.unit_producer.UnitProducer+Prefix+F+Rules+F.move_lists.Goals as goal

pub push_list-requires-clause-room : goal.push_list-requires-clause-room
push_list-requires-clause-room g c =
    let known = known_lists c.args.from.now in
    let at = c.loop-moved.invariant in
    fits_next _ known c.pop_known.result c.loop-moved.moved _ _ (sym c.pop_known.ensures.received.1 ∙ at.1) c.requires.room at.0.free

pub loop-moved-preserved : goal.loop-moved-preserved
loop-moved-preserved g c =
    let known = known_lists c.args.from.now in
    let k = c.loop-moved.moved in
    let at = c.loop-moved.invariant in
    let rest = sym c.pop_known.ensures.received.1 ∙ at.1 in
    (MovedLists-next _ _ _ known _ c.pop_known.result k rest at.0 c.push_list.ensures.ring c.in_ok-push_list.ensures.sent c.in_ok-push_list.ensures.free c.push_list.ensures.open_list, ap (drop 1) rest ∙ drop-drop 1 k known)
