use Rattle.std.proofs.Common.{◌≡◌, length, drop}
use Rattle.bgp_update.specs.PathEquality.{list_eq, segment_eq}
use Rattle.bgp_update.proofs.path.AsPath.is_same.Given as goal

abbrev pub invariant-loop-i : goal.invariant-loop-i
invariant-loop-i l = record {
  lengths : length l.ours ≡ length l.theirs;
  left : list_eq segment_eq l.ours l.theirs ≡ list_eq segment_eq (drop l.i l.ours) (drop l.i l.theirs);
}
