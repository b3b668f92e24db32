-- What is taken for granted of a run. There are five premises, and two of them are no formulas:
-- Granted memory, that no growth is refused: no value of a program tells it, so it can stand in no clause. A run that
-- wants memory answers `Memory`, and what is said of its other answers is said all the same. Recorded states, that the
-- recorded state changes are those of the session and that it was up before the first one: no dump tells it. `is_up`
-- speaks of what is recorded.
use Rattle.std.specs.Prelude.{◌≡◌, ℕ, ◌<◌, ◌≤◌, List, map, length, Option, Some, slice_index}
use Rattle.mrt_frame.specs.Devices.{HasFailed}
use Rattle.mrt_body.specs.Units.{records_of}

-- Sound devices: by the counts before a run and after it, no reader failed, nor did the writer
pub record AreSound (readers readers_after : List ℕ) (writer writer_after : ℕ) : Type 0 where
  pub readers_sound : (file : ℕ) → file < length readers →
      HasFailed (slice_index readers file) (slice_index readers_after file) → ⊥
  pub writer_sound : HasFailed writer writer_after → ⊥

-- Records within the limit: no more than that are cut
abbrev pub AreWithin : ℕ → List (List ℕ) → Type 0
AreWithin max_records files = records_of files ≤ max_records

-- Honest devices: the readers tell the bytes that they give, and these are they. Of the bytes that a writer doesn't
-- tell `Appends`, `Keeps` and `WritesFront` say nothing, so that no more is asked of a writer.
pub record AreHonest (told : List (Option (List ℕ))) (files : List (List ℕ)) : Type 0 where
  pub readers_tell : told ≡ map (λ bytes. Some bytes) files
