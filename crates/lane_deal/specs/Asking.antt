-- What is asked of the files: refusals, which are listed, and then units.
use Rattle.std.specs.Prelude.{◌≡◌, ◌⊎◌, ℕ, ◌+◌, ◌≤◌, ⊤, List, [], ◌++◌, map, drop, length, Option, Some, slice_index, Result, OnOk, IfErr, MatchResult}
use Rattle.std.specs.List.{filter_map}
use Rattle.mrt_frame.specs.Devices.{HasFailed}
use Rattle.mrt_frame.specs.declared.error.ReplayError.{ReplayError}
use Rattle.mrt_frame.specs.declared.error.ReplayError.TheVariants as errors
use Rattle.mrt_frame.specs.declared.read_state.ReadState.TheVariants as states
use Rattle.mrt_body.specs.Units.{unit_of}
use Rattle.peer_units.specs.declared.unit.Damage.{Damage}
use Rattle.peer_units.specs.Plain.{Found}
use Rattle.peer_units.specs.declared.unit.Found.TheVariants as found
use Rattle.mrt_body.specs.ToCome.{UnitsState, TakesFound, KeepsPlan, HasMoreRecords, FailsBehind, found_to_come, most_units_left}

abbrev pub as_refused : List Damage → List Found
as_refused listed = map (λ damage. found.Refused damage) listed

-- Where the bytes of the current and the later files are known, this is the first of what is to come.
abbrev pub GivesFront : UnitsState → List (Option (List ℕ)) → List Found → Type 0
GivesFront u known given = (contents : List (List ℕ)) → drop u.file known ≡ map (λ bytes. Some bytes) contents →
    (rest : List Found) × (found_to_come u contents ≡ given ++ rest)

-- Where the bytes of the current and the later files are known, this is all that is to come.
abbrev pub GivesAll : UnitsState → List (Option (List ℕ)) → List Found → Type 0
GivesAll u known given = (contents : List (List ℕ)) → drop u.file known ≡ map (λ bytes. Some bytes) contents →
    found_to_come u contents ≡ given

-- After a failed read: where no read had failed before, this is all that the files gave before the record at which it
-- failed; where one had, nothing came.
pub record StopsBehind (u : UnitsState) (known : List (Option (List ℕ))) (u' : UnitsState)
    (known' : List (Option (List ℕ))) (given : List Found) : Type 0 where
  pub going : u.state ≡ states.Reading → (contents : List (List ℕ)) →
      drop u.file known ≡ map (λ bytes. Some bytes) contents → FailsBehind u contents u' known' given
  pub failed : u.state ≡ states.Failed → given ≡ []

-- These were given by the files. The reading goes on as it did, and no more units can come than before.
pub record TakesUnits (u : UnitsState) (known : List (Option (List ℕ))) (u' : UnitsState)
    (known' : List (Option (List ℕ))) (given : List Found) : Type 0 where
  pub found : TakesFound u known u' known' given
  pub few : length (filter_map unit_of given) + most_units_left u' ≤ most_units_left u
  pub plan : KeepsPlan u u'
  pub state : u'.state ≡ u.state
  pub idle : u.state ≡ states.Failed → (u' ≡ u) × (given ≡ [])

-- Why a reading stops: the reader of this file failed in this call, or it is the one at which the reading failed
-- before; memory ran out, there are more records than the limit, or the reading was spent.
abbrev pub StopsReading : UnitsState → List (Option (List ℕ)) → List ℕ → List ℕ → ReplayError → Type 0
StopsReading u known before after (errors.Read file) = ((u.state ≡ states.Failed) × (file ≡ u.file)) ⊎
    HasFailed (slice_index before file) (slice_index after file)
StopsReading u known before after errors.Write = ⊥
StopsReading u known before after errors.Memory = ⊤
StopsReading u known before after errors.Records = HasMoreRecords u known
StopsReading u known before after errors.Spent = u.state ≡ states.Spent

-- The number of files stays, an answer leaves the readers' failures as they were, and an error has its cause.
pub record ReadsOn {A : Type 0} (u : UnitsState) (known : List (Option (List ℕ))) (before : List ℕ) (u' : UnitsState)
    (after : List ℕ) (result : Result A ReplayError) : Type 0 where
  pub count : u'.count ≡ u.count
  pub sound : OnOk result (after ≡ before)
  pub cause : IfErr result (StopsReading u known before after)

-- These refusals were listed, and the reading goes on. Where no unit pends then, they were all that was to come.
pub record Asked (r r' : List Damage) (u : UnitsState) (known : List (Option (List ℕ))) (u' : UnitsState)
    (known' : List (Option (List ℕ))) : Type 0 where
  pub listed : List Damage
  pub refused : r' ≡ r ++ listed
  pub takes : TakesUnits u known u' known' (as_refused listed)
  pub state : u'.state ≡ states.Reading
  pub ended : u'.pending ≡ [] → GivesAll u known (as_refused listed)
  pub at_end : u'.pending ≡ [] → u'.file ≡ u'.count

-- these refusals were listed, and a read failed behind them
pub record AskedInVain (r r' : List Damage) (u : UnitsState) (known : List (Option (List ℕ))) (u' : UnitsState)
    (known' : List (Option (List ℕ))) : Type 0 where
  pub listed : List Damage
  pub refused : r' ≡ r ++ listed
  pub gives : GivesFront u known (as_refused listed)
  pub behind : StopsBehind u known u' known' (as_refused listed)

-- what was listed by a call that answered, or whose read failed
abbrev pub Lists : {A : Type 0} → List Damage → List Damage → UnitsState → List (Option (List ℕ)) → UnitsState →
    List (Option (List ℕ)) → Result A ReplayError → Type 0
Lists r r' u known u' known' result =
    MatchResult result (λ _. Asked r r' u known u' known')
    (λ e. (file : ℕ) → e ≡ errors.Read file → AskedInVain r r' u known u' known')
