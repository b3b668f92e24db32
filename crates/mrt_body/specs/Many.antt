-- Fields that repeat as often as a count before them says, to the end of a body.
use Rattle.std.specs.Prelude.{ℕ, zero, suc, List, [], ◌∷◌, length, Result, Ok, Err, ◌==◌, if◌then◌else◌}
use Rattle.mrt_frame.specs.declared.fault.Fault.{Fault}
use Rattle.mrt_frame.specs.declared.fault.Fault.TheVariants.{TrailingBytes}
use Rattle.mrt_frame.specs.Fields.{Reading, ◌>>=◌}

-- nothing stands after the last field
abbrev pub ended : {A : Type 0} → A → List ℕ → Result A Fault
ended x bytes = if length bytes == 0 then Ok x else Err TrailingBytes

-- so many items, and nothing after them
abbrev pub many : {A : Type 0} → (List ℕ → Reading A) → ℕ → List ℕ → Result (List A) Fault
many read zero bytes = ended [] bytes
many read (suc count) bytes = do
  first ← read bytes
  others ← many read count first.1
  Ok (first.0 ∷ others)
