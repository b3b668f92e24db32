use Rattle.std.proofs.Common.{◌≡◌, ◌+◌, length, ap, subst, arith}
use Rattle.unit_rings.specs.UnitRings.{known_free, ring_capacity}
use Rattle.lane_deal.proofs.Plays.{all_free, settled_free}
use Rattle.lane_deal.proofs.replayer.Replayer.is_settled.Goals as goal

pub returns-then-waiting-gt0-clause-waits : goal.returns-then-waiting-gt0-clause-waits
returns-then-waiting-gt0-clause-waits g c unspent settled =
    let at = rw c.deref-sender-items.ensures.value at c.sender-item.is in
    let count = ap length c.deref-sender-items.ensures.value in
    let none = all_free _ _ _ (c.args.self.now.ready unspent) settled c.loop-sender.sender-index c.sender-item.result c.waiting.result (omega arith) (subst (λ f. c.waiting.result + known_free f.producer ≡ ring_capacity f.producer) at c.waiting.ensures) in
    absurd (omega arith)

pub returns-clause-settled : goal.returns-clause-settled
returns-clause-settled g c unspent said =
    let none = rw c.deref-sender-items.ensures.value at c.loop-sender.invariant in
    let count = ap length c.deref-sender-items.ensures.value in
    settled_free _ _ _ (c.args.self.now.ready unspent) (λ lane d l. none lane d (omega arith))
