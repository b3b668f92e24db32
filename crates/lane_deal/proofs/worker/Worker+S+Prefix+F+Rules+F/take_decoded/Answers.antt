use Rattle.std.proofs.Common.{◌≡◌, ◌+◌, [], ◌∷◌, ◌++◌, length, take, refl, ap, ◌∙◌, arith, slice_index_or}
use Rattle.std.proofs.lemmas.List.{take_more}
use Rattle.std.proofs.Math.Seq.{take-length}
use Rattle.unit_rings.specs.Plain.{PeerUnit}
use Rattle.unit_rings.proofs.Batches.{decoded_at, decoded_count}
use Rattle.unit_rings.proofs.Lists.{some_item}
use Rattle.lane_deal.proofs.Working.{Takes-more}
use Rattle.lane_deal.proofs.worker.Worker+S+Prefix+F+Rules+F.take_decoded.Goals as goal

pub loop-at-preserved : goal.loop-at-preserved
loop-at-preserved g c = λ items decoded.
    let at = c.loop-at.at in
    let some = some_item items at (omega (arith, decoded_count c.args.batch.now items decoded)) in
    let item : PeerUnit = slice_index_or items at some in
    let more : take (at + 1) items ≡ take at items ++ item ∷ [] = take_more items at some (omega (arith, decoded_count c.args.batch.now items decoded)) in
    rw more (Takes-more g.S.Sessions.stands_for _ _ _ (take at items) item (c.loop-at.invariant items decoded) refl refl c.saturating_add-self.ensures (c.in_ok-take.ensures item (decoded_at c.args.batch.now items at some decoded (omega arith))))

pub returns : goal.returns
returns g c = λ items decoded.
    let at : c.loop-at.at ≡ length items = (let n = decoded_count c.args.batch.now items decoded in omega arith) in
    let all : take c.loop-at.at items ≡ items = ap (λ n. take n items) at ∙ take-length items in
    let i = c.loop-at.invariant items decoded in
    rw (← all) (record { lane = i.lane; ring = i.ring; counted = i.counted; sessions = λ taken h. i.sessions taken (c.prefetch.ensures taken h) })
