-- What the reads of a device returned between two moments.
use Rattle.std.specs.Prelude.{◌≡◌, ℕ, ◌<◌, ◌≤◌, Bool, true, false, List, [], ◌++◌, Option, Some, None, Result, MatchResult, length, take, option_to_list, refl, ⊤}
use Rattle.std.specs.Io.KnownBytes.{Consumes, IsAtEnd, Appends}
use Rattle.std.proofs.KnownBytes.{Consumes-trans}
use Rattle.std.proofs.Common.{sym, append-nil}
use Rattle.mrt_frame.specs.Cuts.{record_limit, cuts, fault_at}
use Rattle.mrt_frame.specs.Frames.{Position, cuts_behind, state_after, TakesCuts, ReadsPart, ReadsNoMoreThan}
use Rattle.mrt_frame.specs.declared.cut.Cut.{Cut}
use Rattle.mrt_frame.specs.declared.fault.Fault.{Fault}
use Rattle.mrt_frame.specs.declared.error.ReplayError.{ReplayError}
use Rattle.mrt_frame.specs.declared.error.ReplayError.TheVariants.{Read, Write, Memory, Records, Spent as WasSpent}
use Rattle.mrt_frame.specs.declared.read_state.ReadState.TheVariants.{Ended}

-- of the bytes that are known these were read, and then the end if it was seen
abbrev pub ReadsKnown : Option (List ℕ) → List ℕ → Bool → Option (List ℕ) → Type 0
ReadsKnown old bytes ended new = Consumes old new bytes × (ended ≡ true → IsAtEnd new)

-- what a file may hold behind the bytes that were read of it: nothing where its end was seen
abbrev pub MayFollow : Bool → List ℕ → Type 0
MayFollow ended rest = ended ≡ true → rest ≡ []

-- a read of so many bytes that fails reads fewer
abbrev pub IsFewer : ℕ → List ℕ → ReplayError → Type 0
IsFewer most bytes (Read file) = length bytes < most
IsFewer most bytes Write = length bytes ≤ most
IsFewer most bytes Memory = length bytes ≤ most
IsFewer most bytes Records = length bytes ≤ most
IsFewer most bytes WasSpent = length bytes ≤ most

-- where a read failed, no whole record begins these bytes
abbrev pub IsBroken : ℕ → List ℕ → ReplayError → Type 0
IsBroken offset bytes (Read file) = (fault : Fault) × (fault_at offset bytes ≡ Some fault)
IsBroken offset bytes Write = ⊤
IsBroken offset bytes Memory = ⊤
IsBroken offset bytes Records = ⊤
IsBroken offset bytes WasSpent = ⊤

-- known bytes are read by the laws of reads
pub known_none : (known : Option (List ℕ)) → ReadsKnown known [] false known
known_none None = (tt, λ _. tt)
known_none (Some xs) = (refl, λ e. absurd cc)

pub known_more : (old mid new : Option (List ℕ)) (bytes more : List ℕ) (ended : Bool) → ReadsKnown old bytes false mid → ReadsKnown mid more ended new → ReadsKnown old (bytes ++ more) ended new
known_more old mid new bytes more ended p q = (Consumes-trans old mid new bytes more p.0 q.0, q.1)

-- bytes that are known grow by these
pub grows_none : (held : Option (List ℕ)) → Appends held held []
grows_none None = tt
grows_none (Some xs) = sym (append-nil xs)

-- `write(buf)` took the n bytes at `Ok(n)`, and nothing at `Err`
abbrev pub WriteTakes : {W E : Type 0} → (W → List ℕ → W → Type 0) → W → W → Result ℕ E → List ℕ → Type 0
WriteTakes writes old new result buf = MatchResult result (λ n. writes old (take n buf) new) (λ _. writes old [] new)

-- a front of these was written
abbrev pub TakesFront : {W : Type 0} → (W → List ℕ → W → Type 0) → W → W → List ℕ → Type 0
TakesFront writes old new bytes = (count : ℕ) × (count ≤ length bytes) × writes old (take count bytes) new

-- ---- by what the reads of a device mean: these bytes were returned between two moments, and then the end if it was seen

module _ {R : Type 0} (reads : R → List ℕ → Bool → R → Type 0) where
  -- `read_some(buf)` returned the n bytes at `Ok(n)`, none only at the end or with no room, and nothing at `Err`
  abbrev pub ReadGives : {E : Type 0} → R → R → Result ℕ E → List ℕ → Type 0
  ReadGives old new result buf = MatchResult result
      (λ n. reads old (take n buf) false new × (n ≡ 0 → 0 < length buf → reads old [] true new))
      (λ _. reads old [] false new)

  -- fewer than so many bytes were read, and no end was seen
  abbrev pub StopsShort : ℕ → R → R → Type 0
  StopsShort most old new = (bytes : List ℕ) × reads old bytes false new × (length bytes < most)

  -- a read of so many bytes that stopped with this error read fewer where it failed
  abbrev pub StopsIn : ℕ → R → R → ReplayError → Type 0
  StopsIn most old new error = (bytes : List ℕ) × reads old bytes false new × IsFewer most bytes error

  -- The bytes that a call read, of a device at this offset of its file. Whatever the file holds behind them, the cut is
  -- the first, and the others are those of what is behind.
  pub record ReadsFirst (offset : ℕ) (old new : R) (cut : Option Cut) : Type 0 where
    pub bytes : List ℕ
    pub ended : Bool
    pub given : reads old bytes ended new
    pub few : length bytes ≤ record_limit
    pub last : ended ≡ true → state_after cut ≡ Ended
    pub first : (rest : List ℕ) → MayFollow ended rest → cuts offset (bytes ++ rest) ≡ option_to_list cut ++ cuts_behind cut rest

  -- the bytes that a call read which failed: no whole record
  pub record ReadsPartOf (offset : ℕ) (old new : R) (error : ReplayError) : Type 0 where
    pub bytes : List ℕ
    pub given : reads old bytes false new
    pub few : length bytes ≤ record_limit
    pub broken : IsBroken offset bytes error

  -- Between two moments reads returned these bytes, and then the end if it was seen; and this holds of each telling that
  -- agrees with them: of what the device might have told then of its bytes to come, and what it might tell now. The end
  -- was seen only where nothing more is read.
  pub record Told (device device' : R) (closed : Type 0) (P : Option (List ℕ) → Option (List ℕ) → Type 0) : Type 0 where
    pub bytes : List ℕ
    pub ended : Bool
    pub given : reads device bytes ended device'
    pub last : ended ≡ true → closed
    pub holds : (told left : Option (List ℕ)) → ReadsKnown told bytes ended left → P told left

-- what was told and what is told now, where a call took this cut, or stopped with this error
abbrev pub NextIs : Position → Position → Option Cut → Option (List ℕ) → Option (List ℕ) → Type 0
NextIs old new cut told left = TakesCuts old told new left (option_to_list cut) × ReadsNoMoreThan record_limit told left

abbrev pub PartIs : Position → ReplayError → Option (List ℕ) → Option (List ℕ) → Type 0
PartIs old error told left = ReadsPart old.offset told left error × ReadsNoMoreThan record_limit told left

-- what holds of each telling holds of what a device tells
pub told_known : {R : Type 0} (remaining : R → Option (List ℕ)) (reads : R → List ℕ → Bool → R → Type 0)
    (known : (old new : R) (bytes : List ℕ) (ended : Bool) → reads old bytes ended new → ReadsKnown (remaining old) bytes ended (remaining new))
    (device device' : R) (closed : Type 0) (P : Option (List ℕ) → Option (List ℕ) → Type 0) → Told reads device device' closed P → P (remaining device) (remaining device')
told_known remaining reads known device device' closed P t = t.holds (remaining device) (remaining device') (known device device' t.bytes t.ended t.given)

-- what follows from what holds of each telling
pub told_map : {R : Type 0} (reads : R → List ℕ → Bool → R → Type 0) (device device' : R) (closed open' : Type 0) (P Q : Option (List ℕ) → Option (List ℕ) → Type 0)
    → (closed → open') → ((told left : Option (List ℕ)) → P told left → Q told left) → Told reads device device' closed P → Told reads device device' open' Q
told_map reads device device' closed open' P Q last map t = record {
  bytes = t.bytes;
  ended = t.ended;
  given = t.given;
  last = λ e. last (t.last e);
  holds = λ told left known. map told left (t.holds told left known);
}
