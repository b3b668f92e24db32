-- What files still give, from where a reading of them stands.
use Rattle.std.specs.Prelude.{◌<◌, ◌≡◌, ◌⊎◌, ℕ, ◌≢◌, ◌+◌, ◌-◌, ◌*◌, ◌≤◌, ◌^◌, Bool, List, [], ◌∷◌, ◌++◌, map, drop, length, Option, Some, None, option_to_list, slice_index, ⊤}
use Rattle.std.specs.List.{count_by}
use Rattle.mrt_frame.specs.Devices.{HasFailed}
use Rattle.mrt_frame.specs.Cuts.{fault_at}
use Rattle.mrt_frame.specs.Frames.{Position, ReadsPart, start_of, to_come, TakesCuts}
use Rattle.mrt_frame.specs.declared.fault.Fault.{Fault}
use Rattle.mrt_frame.specs.declared.cut.Cut.{Cut}
use Rattle.mrt_frame.specs.declared.cut.Cut.TheVariants.{Whole, Broken}
use Rattle.mrt_frame.specs.declared.error.ReplayError.{ReplayError}
use Rattle.mrt_frame.specs.declared.error.ReplayError.TheVariants as errors
use Rattle.mrt_frame.specs.declared.read_state.ReadState.{ReadState}
use Rattle.mrt_frame.specs.declared.read_state.ReadState.TheVariants.{Reading, Ended, Failed, Spent}
use Rattle.mrt_body.specs.declared.record_place.RecordAt.{RecordAt}
use Rattle.mrt_body.specs.declared.body_kind.BodyKind.{BodyKind}
use Rattle.peer_units.specs.Choices.{UnitSelection}
use Rattle.peer_units.specs.declared.unit.PeerKey.{PeerKey}
use Rattle.peer_units.specs.Plain.{Unit as ReplayUnit}
use Rattle.peer_units.specs.declared.unit.Damage.{Damage}
use Rattle.peer_units.specs.Plain.{Found}
use Rattle.peer_units.specs.declared.unit.Found.TheVariants as found
use Rattle.mrt_body.specs.Pending.{IndexState}
use Rattle.mrt_body.specs.RibDumps.{DumpsState, no_dumps}
use Rattle.mrt_body.specs.KnownPeers.{follows_peers}
use Rattle.mrt_body.specs.Units.{begins, clears_at, dumps_behind, dumps_behind_cuts, found_from, found_in_files, found_units, units_in, index_with, aside_count, all_cuts, is_whole, is_aside}

-- Where a reading stands: the current file and its reader, the index in force, the RIB dumps that came before, the
-- units of the record cut last that are still to be given, and what was counted.
pub record UnitsState : Type 0 where
  pub count : ℕ
  pub file : ℕ
  pub frames : Position
  pub selection : UnitSelection
  pub index : Option (List PeerKey)
  pub dumps : DumpsState
  pub pending : List ReplayUnit
  pub max_records : ℕ
  pub records : ℕ
  pub aside : ℕ
  pub state : ReadState

abbrev pub fresh_units : ℕ → ℕ → UnitSelection → UnitsState
fresh_units count max_records selection = record {
  count = count;
  file = 0;
  frames = start_of 0;
  selection = selection;
  index = None;
  dumps = no_dumps;
  pending = [];
  max_records = max_records;
  records = 0;
  aside = 0;
  state = Reading;
}

-- at the start of the next file
abbrev pub in_next_file : UnitsState → UnitsState
in_next_file u = record u { file = u.file + 1; frames = start_of (u.file + 1); index = None; pending = [] }

-- ---- what is to come

abbrev pub as_found : List ReplayUnit → List Found
as_found units = map (λ u. found.Unit u) units

abbrev pub refusals : Option Damage → List Found
refusals refused = map (λ damage. found.Refused damage) (option_to_list refused)

-- of the current file behind the pending units, where it still gives these bytes
abbrev pub found_here : UnitsState → List ℕ → List Found
found_here u bytes = found_from u.file u.selection u.index u.dumps (to_come u.frames bytes)

-- the dumps behind these bytes of the current file
abbrev pub dumps_here : UnitsState → List ℕ → DumpsState
dumps_here u bytes = dumps_behind_cuts u.file u.selection u.index u.dumps (to_come u.frames bytes)

-- of the current file and the later ones, which still give these bytes
abbrev pub found_left : UnitsState → List (List ℕ) → List Found
found_left u [] = []
found_left u (bytes ∷ later) =
    found_here u bytes ++ found_in_files u.selection (u.file + 1) (dumps_here u bytes) later

-- all the units and refusals to come
abbrev pub found_to_come : UnitsState → List (List ℕ) → List Found
found_to_come u contents = as_found u.pending ++ found_left u contents

-- all the cuts to come
abbrev pub cuts_to_come : UnitsState → List (List ℕ) → List Cut
cuts_to_come u [] = []
cuts_to_come u (bytes ∷ later) = to_come u.frames bytes ++ all_cuts later

-- ---- steps of a reading

-- where the bytes to come are these before and those after: what was given, and the counts of what was cut
pub record Passes
    (old : UnitsState) (contents : List (List ℕ)) (new : UnitsState) (rest : List (List ℕ)) (taken : List Found)
    : Type 0 where
  pub found : found_to_come old contents ≡ taken ++ found_to_come new rest
  pub records : old.records + count_by is_whole (cuts_to_come old contents)
      ≡ new.records + count_by is_whole (cuts_to_come new rest)
  pub aside : old.aside + count_by (is_aside old.selection) (cuts_to_come old contents)
      ≡ new.aside + count_by (is_aside new.selection) (cuts_to_come new rest)

-- Of each file the bytes that it still gives, where they are known. Where those of the current and the later files are
-- known, this was given of them, and the others are known and to come now.
abbrev pub TakesFound : UnitsState → List (Option (List ℕ)) → UnitsState → List (Option (List ℕ)) → List Found → Type 0
TakesFound old before new after taken =
    (contents : List (List ℕ)) → drop old.file before ≡ map (λ bytes. Some bytes) contents →
    (rest : List (List ℕ))
    × (drop new.file after ≡ map (λ bytes. Some bytes) rest)
    × Passes old contents new rest taken

-- where the bytes of the current and the later files are known, nothing is to come of them
abbrev pub NothingToCome : UnitsState → List (Option (List ℕ)) → Type 0
NothingToCome u known =
    (contents : List (List ℕ)) → drop u.file known ≡ map (λ bytes. Some bytes) contents → found_to_come u contents ≡ []

-- the last file has ended, and nothing of it pends
abbrev pub HasEnded : UnitsState → Type 0
HasEnded u = (u.state ≡ Reading) × (u.file ≡ u.count) × (u.pending ≡ [])

-- at most so many records and file ends are still to come
abbrev pub steps_left : UnitsState → ℕ
steps_left u = (u.max_records - u.records) + (u.count - u.file)

-- at most so many units come of a record: 65,535, and for each of these a clear, if its peer wasn't heard yet
abbrev pub unit_limit : ℕ
unit_limit = 131070

-- at most so many units can still come, whatever the readers give: those that pend, and those of each record
abbrev pub most_units_left : UnitsState → ℕ
most_units_left u = (u.max_records - u.records) * unit_limit + (length u.pending + length u.dumps.heard)

-- at most so many answers can still come: the units, and for each file a rest
abbrev pub answers_left : UnitsState → ℕ
answers_left u = most_units_left u + (u.count - u.file)

-- what always holds
pub record StandsWithin
    (count file : ℕ) (frames : Position) (selection : UnitSelection) (follows : Bool)
    (max_records records aside : ℕ) (state : ReadState)
    : Type 0 where
  pub file_in : file ≤ count
  pub frames_of : frames.file ≡ file
  pub records_in : records ≤ max_records
  pub aside_in : aside ≤ records
  pub limit : max_records ≤ 2 ^ 47
  pub not_ended : state ≢ Ended
  pub reading : state ≡ Reading → frames.state ≡ Reading
  pub followed : follows ≡ follows_peers selection

abbrev pub index_peers : Option IndexState → Option (List PeerKey)
index_peers None = None
index_peers (Some index) = Some index.peers

abbrev pub index_pending : Option IndexState → List ReplayUnit
index_pending None = []
index_pending (Some index) = index.pending

-- ---- single steps

-- some of the pending units were given
abbrev pub GivesPending : UnitsState → UnitsState → List ReplayUnit → Type 0
GivesPending old new given = (new ≡ record old { pending = new.pending }) × (old.pending ≡ given ++ new.pending)

-- these were the last cuts of the current file, where its bytes are known
abbrev pub EndsFile : UnitsState → Option (List ℕ) → UnitsState → Option (List ℕ) → List Cut → Type 0
EndsFile old known new left cuts =
    (new ≡ in_next_file old)
    × ((bytes : List ℕ) → known ≡ Some bytes →
    (rest : List ℕ) × (left ≡ Some rest) × (to_come old.frames bytes ≡ cuts))

-- one cut of the current file
abbrev pub CutsOne : UnitsState → Option (List ℕ) → UnitsState → Option (List ℕ) → Option Cut → Type 0
CutsOne old known new left None = EndsFile old known new left []
CutsOne old known new left (Some (Broken offset fault)) =
    (offset ≡ old.frames.offset) × EndsFile old known new left (Broken offset fault ∷ [])
CutsOne old known new left (Some (Whole r)) =
    (new ≡ record old { frames = new.frames; records = old.records + 1 })
    × (new.frames.state ≡ Reading)
    × TakesCuts old.frames known new.frames left (Whole r ∷ [])

-- what comes of a whole record: its refusal, if it is refused, and what pends
pub record TakesRecord
    (old : UnitsState) (at : RecordAt) (extended : Bool) (content : BodyKind) (body : List ℕ)
    (new : UnitsState) (refused : Option Damage)
    : Type 0 where
  pub state : new ≡ record old {
    index = index_with old.index content body;
    dumps = dumps_behind old.selection (begins old.selection at old.index old.dumps content body) old.dumps content body
        (units_in old.selection old.dumps.known at extended old.index content body);
    pending = new.pending;
    aside = old.aside + aside_count old.selection.table_dumps content;
  }
  pub found : refusals refused ++ as_found new.pending
      ≡ as_found (clears_at old.selection at old.index old.dumps content body)
      ++ found_units old.selection at (units_in old.selection old.dumps.known at extended old.index content body)

-- more of the current file is to come, where it gave these bytes before and gives those now
pub record StaysInFile
    (old : UnitsState) (bytes : List ℕ) (new : UnitsState) (rest : List ℕ) (taken : List Found)
    : Type 0 where
  pub state : new ≡ record old {
    frames = new.frames;
    index = new.index;
    dumps = new.dumps;
    pending = new.pending;
    records = new.records;
    aside = new.aside;
  }
  pub found : found_here old bytes ≡ taken ++ (as_found new.pending ++ found_here new rest)
  pub dumps : dumps_here old bytes ≡ dumps_here new rest
  pub records : old.records + count_by is_whole (to_come old.frames bytes)
      ≡ new.records + count_by is_whole (to_come new.frames rest)
  pub aside : old.aside + count_by (is_aside old.selection) (to_come old.frames bytes)
      ≡ new.aside + count_by (is_aside new.selection) (to_come new.frames rest)

-- no more of the file is to come
pub record LeavesFile (old : UnitsState) (bytes : List ℕ) (new : UnitsState) (taken : List Found) : Type 0 where
  pub state : new ≡ in_next_file old
  pub found : found_here old bytes ≡ taken
  pub dumps : dumps_here old bytes ≡ old.dumps
  pub records : count_by is_whole (to_come old.frames bytes) ≡ 0
  pub aside : count_by (is_aside old.selection) (to_come old.frames bytes) ≡ 0

-- where the bytes of the current file are known, this was given of them
abbrev pub Steps : UnitsState → Option (List ℕ) → UnitsState → Option (List ℕ) → List Found → Type 0
Steps old known new left taken =
    (bytes : List ℕ) → known ≡ Some bytes →
    (rest : List ℕ)
    × (left ≡ Some rest)
    × (StaysInFile old bytes new rest taken ⊎ LeavesFile old bytes new taken)

-- the number of files, the greatest number of records and the selection stay
abbrev pub KeepsPlan : UnitsState → UnitsState → Type 0
KeepsPlan old new = (new.count ≡ old.count) × (new.max_records ≡ old.max_records) × (new.selection ≡ old.selection)

-- ---- where a reading stands whose reader failed

-- as it stood before the record at which the read failed
abbrev pub before_failure : UnitsState → UnitsState
before_failure u = record u {
  frames = record { file = u.frames.file; offset = u.frames.offset; state = Reading };
  state = Reading;
}

-- at one file: the read failed at the record that is next, and took no whole record
abbrev pub FailsInRecord : UnitsState → Option (List ℕ) → UnitsState → Option (List ℕ) → ReplayError → Type 0
FailsInRecord old known new left (errors.Read file) =
    (before_failure new ≡ old) × ReadsPart old.frames.offset known left (errors.Read file)
FailsInRecord old known new left errors.Write = ⊤
FailsInRecord old known new left errors.Memory = ⊤
FailsInRecord old known new left errors.Records = ⊤
FailsInRecord old known new left errors.Spent = ⊤

-- The read failed at the record behind all that was given and counted, and took this part of the current file, which
-- holds no whole record. These bytes of that file and of the later ones are left.
pub record FailsBehind
    (old : UnitsState) (contents : List (List ℕ)) (new : UnitsState) (after : List (Option (List ℕ)))
    (given : List Found)
    : Type 0 where
  pub part : List ℕ
  pub fault : Fault
  pub bytes : List ℕ
  pub later : List (List ℕ)
  pub broken : fault_at new.frames.offset part ≡ Some fault
  pub left : drop new.file after ≡ map (λ bytes. Some bytes) (bytes ∷ later)
  pub passes : Passes old contents (before_failure new) ((part ++ bytes) ∷ later) given

-- where the bytes of the current and the later files are known, a read that failed left out nothing before its record
abbrev pub GivesAllBefore : UnitsState → List (Option (List ℕ))
    → UnitsState → List (Option (List ℕ)) → ReplayError → Type 0
GivesAllBefore old before new after (errors.Read file) =
    (contents : List (List ℕ)) → drop old.file before ≡ map (λ bytes. Some bytes) contents →
    FailsBehind old contents new after []
GivesAllBefore old before new after errors.Write = ⊤
GivesAllBefore old before new after errors.Memory = ⊤
GivesAllBefore old before new after errors.Records = ⊤
GivesAllBefore old before new after errors.Spent = ⊤

-- ---- why a reading stops

-- the greatest number was cut, and one more stands in the current file, where its bytes are known
abbrev pub HasRecord : UnitsState → Option (List ℕ) → Type 0
HasRecord u known =
    (u.records ≡ u.max_records)
    × ((bytes : List ℕ) → known ≡ Some bytes → 0 < count_by is_whole (to_come u.frames bytes))

-- where the bytes of the current and the later files are known, there are more records than the greatest number
abbrev pub HasMoreRecords : UnitsState → List (Option (List ℕ)) → Type 0
HasMoreRecords u known =
    (contents : List (List ℕ)) → drop u.file known ≡ map (λ bytes. Some bytes) contents →
    u.max_records < u.records + count_by is_whole (cuts_to_come u contents)

-- at one file, whose count of failures was this before and is that after
abbrev pub HasCauseInFile : UnitsState → Option (List ℕ) → UnitsState → ℕ → ℕ → ReplayError → Type 0
HasCauseInFile old known new before after (errors.Read file) =
    (file ≡ old.file)
    × (new ≡ record old { frames = new.frames; state = Failed })
    × HasFailed before after
HasCauseInFile old known new before after errors.Write = ⊥
HasCauseInFile old known new before after errors.Memory = new.state ≡ Spent
HasCauseInFile old known new before after errors.Records =
    (new.state ≡ Spent) × (new.records ≡ new.max_records) × HasRecord old known
HasCauseInFile old known new before after errors.Spent = ⊥

-- The reader of this file failed in this call or in an earlier one; or a growth was refused, or the greatest number of
-- records was cut, and each later call answers Spent.
abbrev pub HasCause : UnitsState → List (Option (List ℕ)) → UnitsState → List ℕ → List ℕ → ReplayError → Type 0
HasCause old known new before after (errors.Read file) =
    (new.file ≡ file)
    × (new.state ≡ Failed)
    × ((old.state ≡ Failed) ⊎ HasFailed (slice_index before file) (slice_index after file))
HasCause old known new before after errors.Write = ⊥
HasCause old known new before after errors.Memory = (old.state ≡ Reading) × (new.state ≡ Spent)
HasCause old known new before after errors.Records =
    (old.state ≡ Reading)
    × (new.state ≡ Spent)
    × (new.records ≡ new.max_records)
    × HasMoreRecords old known
HasCause old known new before after errors.Spent = (old.state ≡ Spent) × (new ≡ old)
