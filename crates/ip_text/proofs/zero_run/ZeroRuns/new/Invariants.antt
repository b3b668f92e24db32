-- the runs so far
use Rattle.std.proofs.Common.{◌≡◌, ℕ, ◌<◌, length, get_or}
use Rattle.ip_text.specs.declared.zero_run.ZeroRun.{ZeroRun}
use Rattle.ip_text.specs.ZeroRuns.{IsZeroRunOf}
use Rattle.ip_text.proofs.zero_run.ZeroRuns.new.Given as goal

abbrev pub invariant-loop-i : goal.invariant-loop-i
invariant-loop-i l = record {
  all : length l.runs ≡ 256;
  made : (k : ℕ) → k < l.i → (d : ZeroRun) → IsZeroRunOf k (get_or l.runs k d);
}
