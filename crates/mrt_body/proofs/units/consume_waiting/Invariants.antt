use Rattle.std.proofs.Common.{◌≡◌, ◌≤◌, ◌-◌, drop, length}
use Rattle.mrt_body.proofs.units.consume_waiting.Given as goal

abbrev pub invariant-loop-left : goal.invariant-loop-left
invariant-loop-left g l = record {
  within : l.left ≤ l.initial.count;
  few : l.initial.count - l.left ≤ length l.initial.waiting;
  waiting : l.waiting ≡ drop (l.initial.count - l.left) l.initial.waiting;
}

abbrev pub decreases-loop-left : goal.decreases-loop-left
decreases-loop-left g l = l.left
