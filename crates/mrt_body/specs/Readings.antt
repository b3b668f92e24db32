-- What calls of a reading of files give, why they stop, what they then answer and what they leave as it is.
use Rattle.std.specs.Prelude.{◌≡◌, ℕ, ◌+◌, ◌<◌, ◌≤◌, List, Option, None, Result, Ok, Err, IfSome, drop, length, map, option_to_list}
use Rattle.std.specs.List.{filter_map}
use Rattle.mrt_frame.specs.Frames.{KeepsUnlessRead, StandsAt}
use Rattle.mrt_frame.specs.declared.cut.Cut.{Cut}
use Rattle.mrt_frame.specs.declared.error.ReplayError.{ReplayError}
use Rattle.mrt_frame.specs.declared.error.ReplayError.TheVariants as errors
use Rattle.mrt_frame.specs.declared.read_state.ReadState.TheVariants.{Reading, Failed, Spent}
use Rattle.peer_units.specs.Plain.{Found}
use Rattle.mrt_body.specs.Units.{unit_of}
use Rattle.peer_units.specs.declared.unit.Damage.{Damage}
use Rattle.mrt_body.specs.ToCome.{UnitsState, CutsOne, FailsInRecord, GivesAllBefore, HasCause, HasCauseInFile, HasEnded, KeepsPlan, NothingToCome, TakesFound, answers_left, steps_left, unit_limit, most_units_left}

-- ---- a call over all files, whose readers still give these bytes and failed so often

-- This is the first of what was to come, and the rest is to come now. Each answer and each unit lowers the number of
-- those that can still come, whatever the readers give. The reading goes on, and no reader failed.
pub record Gives {R : Type 0} (remaining : R → Option (List ℕ)) (failures : R → ℕ)
    (old : UnitsState) (files : List R) (new : UnitsState) (files' : List R) (given : List Found) : Type 0 where
  pub found : TakesFound old (map remaining files) new (map remaining files') given
  pub fewer : answers_left new + length given ≤ answers_left old
  pub few : length (filter_map unit_of given) + most_units_left new ≤ most_units_left old
  pub reading : old.state ≡ Reading
  pub state : new.state ≡ Reading
  pub counted : map failures files' ≡ map failures files

-- nothing was to come, and the last file has ended
pub record Ends {R : Type 0} (remaining : R → Option (List ℕ))
    (old : UnitsState) (files : List R) (new : UnitsState) : Type 0 where
  pub nothing : NothingToCome old (map remaining files)
  pub ended : HasEnded new

-- The error has its cause, which persists. Before Read nothing is skipped that comes before the record at which the
-- read failed; any other error comes without a failure of a reader.
pub record Stops {R : Type 0} (remaining : R → Option (List ℕ)) (failures : R → ℕ)
    (old : UnitsState) (files : List R) (new : UnitsState) (files' : List R) (error : ReplayError) : Type 0 where
  pub cause : HasCause old (map remaining files) new (map failures files) (map failures files') error
  pub before : old.state ≡ Reading → GivesAllBefore old (map remaining files) new (map remaining files') error
  pub unfailed : KeepsUnlessRead (map failures files) (map failures files') error

-- A reading that has ended, failed or is spent answers each call alike, reads nothing and stays as it is.
pub record Stays {R A : Type 0}
    (old : UnitsState) (files : List R) (new : UnitsState) (files' : List R) (result : Result (Option A) ReplayError)
    : Type 0 where
  pub ended : HasEnded old → (result ≡ Ok None) × (new ≡ old) × (files' ≡ files)
  pub failed : old.state ≡ Failed → (result ≡ Err (errors.Read old.file)) × (new ≡ old) × (files' ≡ files)
  pub spent : old.state ≡ Spent → (result ≡ Err errors.Spent) × (new ≡ old) × (files' ≡ files)

-- no file after the current one is read, and the plan stays
pub record IsBounded {R : Type 0} (old : UnitsState) (files : List R) (new : UnitsState) (files' : List R) : Type 0 where
  pub later : drop (new.file + 1) files' ≡ drop (new.file + 1) files
  pub plan : KeepsPlan old new

-- ---- a call over the current file alone

-- one cut of it
pub record GivesCut {R : Type 0} (remaining : R → Option (List ℕ)) (failures : R → ℕ)
    (old : UnitsState) (device : R) (new : UnitsState) (device' : R) (cut : Option Cut) : Type 0 where
  pub cuts : CutsOne old (remaining device) new (remaining device') cut
  pub place : IfSome cut (StandsAt old.frames.offset)
  pub steps : steps_left new < steps_left old
  pub counted : failures device' ≡ failures device

-- one step over it: fewer steps can still come, and with those that were given no more answers and units
pub record Lowers {R : Type 0} (failures : R → ℕ)
    (old : UnitsState) (device : R) (new : UnitsState) (device' : R) (refused : Option Damage) : Type 0 where
  pub steps : steps_left new < steps_left old
  pub fewer : answers_left new + length (option_to_list refused) ≤ answers_left old
  pub few : most_units_left new ≤ most_units_left old
  pub state : new.state ≡ Reading
  pub counted : failures device' ≡ failures device

pub record StopsInFile {R : Type 0} (remaining : R → Option (List ℕ)) (failures : R → ℕ)
    (old : UnitsState) (device : R) (new : UnitsState) (device' : R) (error : ReplayError) : Type 0 where
  pub cause : HasCauseInFile old (remaining device) new (failures device) (failures device') error
  pub before : FailsInRecord old (remaining device) new (remaining device') error
  pub unfailed : KeepsUnlessRead (failures device) (failures device') error

-- no earlier file becomes the current one, and the plan stays
pub record GoesOn (old new : UnitsState) : Type 0 where
  pub onward : old.file ≤ new.file
  pub plan : KeepsPlan old new

-- ---- a call within a record

-- no more units and refusals come of a record than its limit
abbrev pub GivesFew : UnitsState → UnitsState → Option Damage → Type 0
GivesFew old new refused =
    (length (option_to_list refused) + length new.pending) + length new.dumps.heard ≤ unit_limit + length old.dumps.heard

-- a growth was refused, after which nothing more comes
abbrev pub WantsMemory : UnitsState → ReplayError → Type 0
WantsMemory new error = (error ≡ errors.Memory) × (new.state ≡ Spent)

-- the file and the plan stay
pub record StaysHere (old new : UnitsState) : Type 0 where
  pub file : new.file ≡ old.file
  pub plan : KeepsPlan old new
