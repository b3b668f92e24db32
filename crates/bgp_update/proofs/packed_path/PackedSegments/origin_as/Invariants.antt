use Rattle.std.proofs.Common.{◌≡◌, length}
use Rattle.bgp_update.specs.Paths.{origin_as_of}
use Rattle.bgp_update.proofs.PackedPaths.{origin_after}
use Rattle.bgp_update.proofs.packed_path.PackedSegments.origin_as.Given as goal

abbrev pub invariant-loop-segment : goal.invariant-loop-segment
invariant-loop-segment l = origin_after l.origin l.segments ≡ origin_as_of l.initial.segments

abbrev pub decreases-loop-segment : goal.decreases-loop-segment
decreases-loop-segment l = length l.segments
