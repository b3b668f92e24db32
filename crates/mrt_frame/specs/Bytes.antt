-- Lists that stand for bytes.
use Rattle.std.specs.Prelude.{ℕ, ◌<◌, List, slice_index}

-- each item is below 256
abbrev pub AreBytes : List ℕ → Type 0
AreBytes bytes = (i : ℕ) → slice_index bytes i < 256
