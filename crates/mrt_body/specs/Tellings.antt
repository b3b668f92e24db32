-- What was read of files between two moments, and what holds of each telling of them.
use Rattle.std.specs.Prelude.{◌≡◌, ℕ, ◌<◌, ◌≤◌, zero, suc, Bool, true, false, List, [], ◌∷◌, ◌++◌, Option, take}
use Rattle.mrt_frame.specs.Given.{ReadsKnown, MayFollow}
use Rattle.mrt_frame.specs.declared.error.ReplayError.{ReplayError}
use Rattle.mrt_frame.specs.declared.error.ReplayError.TheVariants as errors
use Rattle.mrt_body.specs.ToCome.{UnitsState, FailsInRecord, GivesAllBefore, HasRecord, HasMoreRecords}

-- the bytes that were read of a file, and whether its end was seen
abbrev pub Input : Type 0
Input = List ℕ × Bool

-- of each file these were read
abbrev pub AllRead : {R : Type 0} → (R → List ℕ → Bool → R → Type 0) → List R → List Input → List R → Type 0
AllRead reads [] [] [] = Unit {0}
AllRead reads (d ∷ ds) (x ∷ xs) (e ∷ es) = reads d x.0 x.1 e × AllRead reads ds xs es
AllRead reads (d ∷ ds) [] es = ⊥
AllRead reads [] (x ∷ xs) es = ⊥
AllRead reads [] [] (e ∷ es) = ⊥
AllRead reads (d ∷ ds) (x ∷ xs) [] = ⊥

-- of each file's bytes, where they are known, these were read
abbrev pub AllKnown : List (Option (List ℕ)) → List Input → List (Option (List ℕ)) → Type 0
AllKnown told inputs left = AllRead ReadsKnown told inputs left

-- whether the end of this file was seen
abbrev pub has_end : List Input → ℕ → Bool
has_end [] i = false
has_end (x ∷ xs) zero = x.1
has_end (x ∷ xs) (suc i) = has_end xs i

-- nothing was read of this file
abbrev pub is_unread : List Input → ℕ → Type 0
is_unread [] i = Unit {0}
is_unread (x ∷ xs) zero = x ≡ ([], false)
is_unread (x ∷ xs) (suc i) = is_unread xs i

-- Between two moments these were read of the files, and this holds of each telling that agrees with it. The files
-- before the first are as they were. The end of a file was seen only if it comes before the current one.
pub record AllTold {R : Type 0} (reads : R → List ℕ → Bool → R → Type 0) (files files' : List R) (first current : ℕ)
    (P : List (Option (List ℕ)) → List (Option (List ℕ)) → Type 0) : Type 0 where
  pub inputs : List Input
  pub given : AllRead reads files inputs files'
  pub unread : (i : ℕ) → i < first → is_unread inputs i
  pub same : take first files' ≡ take first files
  pub last : (i : ℕ) → has_end inputs i ≡ true → i < current
  pub onward : first ≤ current
  pub holds : (told left : List (Option (List ℕ))) → AllKnown told inputs left → P told left

-- what is told where a step of a file stops with this error: the record at which a read failed is next, or there is one
-- more whole record than may be cut
abbrev pub StopsTold : UnitsState → UnitsState → ReplayError → Option (List ℕ) → Option (List ℕ) → Type 0
StopsTold old new error told left = FailsInRecord old told new left error × (error ≡ errors.Records → HasRecord old told)

-- the same of a reading of files
abbrev pub AllStopsTold : UnitsState → UnitsState → ReplayError → List (Option (List ℕ)) → List (Option (List ℕ)) → Type 0
AllStopsTold old new error told left = GivesAllBefore old told new left error × (error ≡ errors.Records → HasMoreRecords old told)

-- files that hold these bytes behind those that were read of them: none where the end was seen
abbrev pub AreWhole : List Input → List (List ℕ) → List (List ℕ) → Type 0
AreWhole [] [] [] = Unit {0}
AreWhole (x ∷ xs) (r ∷ rs) (w ∷ ws) = (w ≡ x.0 ++ r) × MayFollow x.1 r × AreWhole xs rs ws
AreWhole [] [] (w ∷ ws) = ⊥
AreWhole [] (r ∷ rs) ws = ⊥
AreWhole (x ∷ xs) [] ws = ⊥
AreWhole (x ∷ xs) (r ∷ rs) [] = ⊥
