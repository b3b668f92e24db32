-- The program's status after a run.
use Rattle.std.specs.Prelude.{ℕ, ◌==◌, Result, Ok, Err, if◌then◌else◌}
use Rattle.mrt_frame.specs.declared.error.ReplayError.{ReplayError}
use Rattle.replay_summary.specs.declared.summary.Summary.{Summary}

-- 0 where no fault is listed, 1 where some are, 3 after an error
abbrev pub status_of : Result Summary ReplayError → ℕ
status_of (Ok summary) = if summary.damaged == 0 then 0 else 1
status_of (Err error) = 3
