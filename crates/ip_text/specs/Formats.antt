-- Text that is written into a block of bytes.
use Rattle.std.specs.Prelude.{◌≡◌, ℕ, ◌+◌, ◌≤◌, List, ◌++◌, length, take}

-- a piece of at most so many bytes stands behind the first bytes of a block
pub record Formats (old : List ℕ) (at : ℕ) (new : List ℕ) (end : ℕ) (most : ℕ) (piece : List ℕ) : Type 0 where
  pub text : take end new ≡ take at old ++ piece
  pub room : end ≤ at + most
  pub within : end ≤ length new
  pub same : length new ≡ length old
