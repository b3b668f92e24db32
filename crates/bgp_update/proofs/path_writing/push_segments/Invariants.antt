use Rattle.std.proofs.Common.{◌≡◌, ◌++◌, take}
use Rattle.bgp_update.specs.Segments.{path_bytes}
use Rattle.bgp_update.proofs.path_writing.push_segments.Given as goal

abbrev pub invariant-loop-segment : goal.invariant-loop-segment
invariant-loop-segment l = l.out.items ≡ l.fn.out.items ++ path_bytes 4 (take l.segment-index l.segment-items)
