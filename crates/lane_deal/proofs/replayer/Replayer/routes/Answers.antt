use Rattle.std.proofs.Common.{◌≡◌, ◌+◌, ◌-◌, ◌^◌, ◌++◌, ◌∙◌, refl, sym, ap, length, take, take_all, length-append, arith}
use Rattle.std.specs.Prelude.{min}
use Rattle.std.specs.List.{flat_map}
use Rattle.peer_tables.proofs.RowLaws.{pieces_more}
use Rattle.lane_deal.proofs.RouteCounts.{worker_routes, routes_of_lanes}
use Rattle.lane_deal.proofs.replayer.Replayer.routes.Goals as goal

pub loop-worker-preserved : goal.loop-worker-preserved
loop-worker-preserved g c =
    let worker = c.worker-item.result in
    let before = flat_map worker_routes (take c.loop-worker.worker-index c.deref-worker-items.result.now) in
    let own = worker_routes worker in
    let more = pieces_more worker_routes c.deref-worker-items.result.now c.loop-worker.worker-index worker before (before ++ own) c.loop-worker-test.true c.worker-item.is refl refl in
    let size : c.count_routes.result ≡ min (length own) (2 ^ 64 - 1) = rw c.as_slice.ensures.value at c.count_routes.ensures in
    let counted : min (c.loop-worker.count + c.count_routes.result) (2 ^ 64 - 1) ≡ min (length (before ++ own)) (2 ^ 64 - 1) = omega (arith, c.loop-worker.invariant, length-append before own, size) in
    c.saturating_add-count.ensures ∙ counted ∙ ap (λ routes. min (length routes) (2 ^ 64 - 1)) more

pub returns : goal.returns
returns g c unspent =
    let replayer = c.args.self.now in
    let all = ap (flat_map worker_routes) (take_all c.loop-worker.worker-index c.deref-worker-items.result.now c.loop-worker-test.false ∙ c.deref-worker-items.ensures.value) in
    c.loop-worker.invariant ∙ ap (λ routes. min (length routes) (2 ^ 64 - 1)) (all ∙ sym (routes_of_lanes replayer.senders.items replayer.workers.items (replayer.ready unspent).0))
