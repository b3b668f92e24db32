-- what was found from the last group on
use Rattle.std.proofs.Common.{◌≡◌, ◌+◌, ◌≤◌, drop}
use Rattle.std.specs.Net.Text.{zero_run, longest_zero_run}
use Rattle.ip_text.proofs.zero_run.find_run.Given as goal

abbrev pub invariant-loop-i : goal.invariant-loop-i
invariant-loop-i l = record {
  few : l.zeros + l.i ≤ 8;
  zeros : l.zeros ≡ zero_run (drop l.i l.groups);
  start : l.start ≡ l.i + (longest_zero_run (drop l.i l.groups)).0;
  len : l.len ≡ (longest_zero_run (drop l.i l.groups)).1;
}

abbrev pub decreases-loop-i : goal.decreases-loop-i
decreases-loop-i l = l.i
