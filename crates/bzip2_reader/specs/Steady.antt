-- Readings of which what stands behind their bits changes nothing.
use Rattle.std.specs.Prelude.{◌≡◌, ◌≢◌, ◌<◌, ℕ, List, ◌++◌, length, Ok, Err}
use Rattle.bzip2_reader.specs.declared.fault.BlockFault.TheVariants.{ShortBlock}
use Rattle.bzip2_reader.specs.Fields.{Reading}
use Rattle.bzip2_reader.specs.Words.{AreBits}

-- with more bits behind: the same, and these bits behind what is left; a fault too, unless it is that bits are missing
abbrev pub Grown : {A : Type 0} → List ℕ → Reading A → Reading A → Type 0
Grown more (Ok x) r = r ≡ Ok (x.0, x.1 ++ more)
Grown more (Err fault) r = fault ≢ ShortBlock → r ≡ Err fault

-- it gives the same, whatever bits stand behind
abbrev pub IsSteady : {A : Type 0} → (List ℕ → Reading A) → Type 0
IsSteady f = (bits more : List ℕ) → AreBits (bits ++ more) → Grown more (f bits) (f (bits ++ more))

-- some bits are taken, and what is left are the last ones
abbrev pub TakesSome : {A : Type 0} → List ℕ → Reading A → Type 0
TakesSome bits (Ok x) = (front : List ℕ) × (bits ≡ front ++ x.1) × (0 < length front)
TakesSome bits (Err fault) = Unit {0}
