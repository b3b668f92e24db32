use Rattle.std.proofs.Common.{◌≡◌, ◌+◌, [], ◌∷◌, ◌++◌, take, ap, ◌∙◌, arith}
use Rattle.std.proofs.lemmas.List.{take_more}
use Rattle.unit_rings.specs.UnitLists.{units_of}
use Rattle.unit_rings.specs.Plain.{PeerUnit}
use Rattle.unit_rings.proofs.Batches.{AreDecoded-none, AreDecoded-more}
use Rattle.lane_deal.proofs.worker.decode_all.Goals as goal

pub loop-at-init : goal.loop-at-init
loop-at-init g c = rw c.clear.ensures AreDecoded-none

pub loop-at-preserved : goal.loop-at-preserved
loop-at-preserved g c =
    let items = units_of c.args.items.now in
    let at = c.loop-at.at in
    let item : PeerUnit = c.at-item.result in
    let more : take (at + 1) items ≡ take at items ++ item ∷ [] = take_more items at item (omega arith) ∙ ap (λ x. take at items ++ x ∷ []) (c.at-item.ensures item) in
    rw more (AreDecoded-more c.loop-at.batch c.push.new.self (take at items) item c.loop-at.invariant c.in_ok-push.ensures.heads c.in_ok-push.ensures.events)
