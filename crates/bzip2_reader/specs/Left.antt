-- What is left of a block.
use Rattle.std.specs.Prelude.{◌≡◌, ◌⊎◌, ◌++◌, ℕ, List, []}
use Rattle.bzip2_reader.specs.declared.block.Block.{Block}
use Rattle.bzip2_reader.specs.Runs.{left, written}

-- the bytes that were not given yet
abbrev pub left_of : Block → List ℕ
left_of block = left block.text.items block.runs

-- none of its bytes were given
abbrev pub IsFresh : Block → Type 0
IsFresh block = left_of block ≡ written block.text.items

-- a block stays, or a new one comes once all of it was given
abbrev pub Follows : Block → Block → Type 0
Follows old new = (new ≡ old) ⊎ ((left_of old ≡ []) × IsFresh new)

-- these bytes are the next: those that were left of a block, or the first of a new one once none were left
abbrev pub AreNext : Block → Block → List ℕ → Type 0
AreNext old new bytes = (left_of old ≡ bytes ++ left_of new) ⊎ ((left_of old ≡ []) × (written new.text.items ≡ bytes ++ left_of new))
