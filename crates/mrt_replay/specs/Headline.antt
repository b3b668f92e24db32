-- The headline: what a run that completes has done, and why one doesn't. The contract of `run` names these.
use Rattle.std.specs.Prelude.{◌≡◌, ℕ, ◌<◌, Bool, true, List, Option, Result, IfOk, IfErr, OnOk, length, map, slice_index}
use Rattle.std.specs.Io.KnownBytes.{Appends, Keeps}
use Rattle.mrt_frame.specs.Devices.{HasFailed}
use Rattle.mrt_frame.specs.Writes.{WritesFront}
use Rattle.mrt_frame.specs.declared.error.ReplayError.{ReplayError}
use Rattle.mrt_frame.specs.declared.error.ReplayError.TheVariants as errors
use Rattle.peer_units.specs.Choices.{UnitSelection}
use Rattle.lane_deal.specs.declared.plan.Plan.{Plan}
use Rattle.report_request.specs.Plain.{Layout, Request}
use Rattle.replay_summary.specs.declared.summary.Summary.{Summary}
use Rattle.mrt_replay.specs.Reports.{report, IsSummary}
use Rattle.mrt_replay.specs.Premises.{AreSound, AreWithin, AreHonest}

-- What a run is given, and what it leaves: the bytes that the readers tell, those that the writer holds, how often each
-- failed, and whether the writer is flushed.
pub record RunState : Type 0 where
  pub request : Request
  pub layout : Layout
  pub selection : UnitSelection
  pub plan : Plan
  pub told : List (Option (List ℕ))
  pub held : Option (List ℕ)
  pub held_after : Option (List ℕ)
  pub readers : List ℕ
  pub readers_after : List ℕ
  pub writer : ℕ
  pub writer_after : ℕ
  pub flushed_after : Bool
  pub result : Result Summary ReplayError

-- a run on these readers and this writer, seen by what each tells before it and after
module _ {R W : Type 0} (remaining : R → Option (List ℕ)) (read_failures : R → ℕ)
    (contents : W → Option (List ℕ)) (write_failures : W → ℕ) (is_flushed : W → Bool) where
  abbrev pub run_on : Request → Layout → UnitSelection → Plan → List R → List R → W → W → Result Summary ReplayError → RunState
  run_on request layout selection plan files files' out out' result = record {
    request = request;
    layout = layout;
    selection = selection;
    plan = plan;
    told = map remaining files;
    held = contents out;
    held_after = contents out';
    readers = map read_failures files;
    readers_after = map read_failures files';
    writer = write_failures out;
    writer_after = write_failures out';
    flushed_after = is_flushed out';
    result = result;
  }

-- ---- a run that completes

-- It wrote byte for byte the report that is defined over the records alone, and counted them.
pub record IsReplayed (run : RunState) (files : List (List ℕ)) (summary : Summary) : Type 0 where
  pub written : Appends run.held run.held_after (report run.request run.layout run.selection files)
  pub counted : IsSummary run.request run.selection run.plan files summary

-- For every list of files, every plan and every dealing, a run that completes has replayed them.
abbrev pub Headline : RunState → Type 0
Headline run = (files : List (List ℕ)) → AreHonest run.told files → IfOk run.result (IsReplayed run files)

-- A run that completes leaves nothing written that isn't flushed, whatever the devices tell.
abbrev pub Flushes : RunState → Type 0
Flushes run = OnOk run.result (run.flushed_after ≡ true)

-- A run that completes met no failure: neither a reader's count rose nor the writer's.
abbrev pub MeetsNoFailure : RunState → Type 0
MeetsNoFailure run = OnOk run.result ((run.readers_after ≡ run.readers) × (run.writer_after ≡ run.writer))

-- ---- a run that doesn't

-- Why it stops, and what it leaves: nothing written, or a front of the report. What is said of the bytes is said of
-- honest devices; that a device failed is said of all.
abbrev pub IsStopped : RunState → ReplayError → Type 0
IsStopped run (errors.Read file) = (file < length run.readers) ×
    HasFailed (slice_index run.readers file) (slice_index run.readers_after file) × Keeps run.held run.held_after
IsStopped run errors.Write = HasFailed run.writer run.writer_after ×
    ((files : List (List ℕ)) → AreHonest run.told files → WritesFront run.held run.held_after
    (report run.request run.layout run.selection files))
IsStopped run errors.Memory = Keeps run.held run.held_after
IsStopped run errors.Records = ((files : List (List ℕ)) → AreHonest run.told files →
    AreWithin run.plan.max_records files → ⊥) × Keeps run.held run.held_after
IsStopped run errors.Spent = ⊥

-- A run that answers an error has its cause.
abbrev pub StopsWithCause : RunState → Type 0
StopsWithCause run = IfErr run.result (IsStopped run)

-- With sound devices and records within the limit a run completes, unless it wants memory.
abbrev pub Completes : RunState → Type 0
Completes run =
    (files : List (List ℕ)) → AreHonest run.told files →
    AreSound run.readers run.readers_after run.writer run.writer_after → AreWithin run.plan.max_records files
    → IfErr run.result (λ error. error ≡ errors.Memory)

-- ---- all of it

-- What is promised of every run, whatever came of it.
pub record IsPromised (run : RunState) : Type 0 where
  pub headline : Headline run
  pub flushed : Flushes run
  pub unfailed : MeetsNoFailure run
  pub cause : StopsWithCause run
  pub completes : Completes run
