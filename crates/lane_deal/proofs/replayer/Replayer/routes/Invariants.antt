-- the routes of the lanes so far
use Rattle.std.proofs.Common.{◌≡◌, ◌-◌, ◌^◌, length, take}
use Rattle.std.specs.Prelude.{min}
use Rattle.std.specs.List.{flat_map}
use Rattle.lane_deal.proofs.RouteCounts.{worker_routes}
use Rattle.lane_deal.proofs.replayer.Replayer.routes.Given as goal

abbrev pub invariant-loop-worker : goal.invariant-loop-worker
invariant-loop-worker g l = l.count ≡ min (length (flat_map worker_routes (take l.worker-index l.worker-items))) (2 ^ 64 - 1)
