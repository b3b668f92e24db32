-- Runs that complete.
use Rattle.std.proofs.Common.{◌≡◌, List, ℕ, Result, Ok, Err, refl, IfErr}
use Rattle.mrt_frame.specs.declared.error.ReplayError.{ReplayError}
use Rattle.mrt_frame.specs.declared.error.ReplayError.TheVariants as errors
use Rattle.mrt_replay.specs.Premises.{AreSound, AreWithin, AreHonest}
use Rattle.mrt_replay.specs.Headline.{RunState, IsStopped, StopsWithCause, Completes, IsPromised}

if_err : {T E : Type 0} {P Q : E → Type 0} (result : Result T E) → ((e : E) → P e → Q e) → IfErr result P → IfErr result Q
if_err (Ok x) f h = tt
if_err (Err e) f h = f e h

only_memory : (run : RunState) (files : List (List ℕ)) (error : ReplayError) → AreHonest run.told files → AreSound run.readers run.readers_after run.writer run.writer_after → AreWithin run.plan.max_records files → IsStopped run error → error ≡ errors.Memory
only_memory run files (errors.Read file) honest sound within h = absurd (sound.readers_sound file h.0 h.1)
only_memory run files errors.Write honest sound within h = absurd (sound.writer_sound h.0)
only_memory run files errors.Memory honest sound within h = refl
only_memory run files errors.Records honest sound within h = absurd (h.0 files honest within)
only_memory run files errors.Spent honest sound within h = absurd h

-- a run that stops with a cause completes where there is none but want of memory
completes_without_cause : (run : RunState) → StopsWithCause run → Completes run
completes_without_cause run causes = λ files honest sound within. if_err run.result (λ error h. only_memory run files error honest sound within h) causes

-- a run that stops with its cause keeps all that is promised
pub stopped : (run : RunState) (error : ReplayError) → run.result ≡ Err error → IsStopped run error → IsPromised run
stopped run error is h =
    let cause : StopsWithCause run = rw is h in
    record { headline = λ files honest. rw is tt; flushed = rw is tt; unfailed = rw is tt; cause = cause; completes = completes_without_cause run cause }
