-- What was read of a block before its links were walked, and after.
use Rattle.std.specs.Prelude.{◌≡◌, ◌≤◌, ℕ, List, take, drop, length, Option, Some, None, Result, Ok, Err}
use Rattle.bzip2_reader.specs.declared.block.Text.{Text}
use Rattle.bzip2_reader.specs.declared.fault.BlockFault.{BlockFault}
use Rattle.bzip2_reader.specs.Blocks.{block_at}
use Rattle.bzip2_reader.specs.Links.{IsWalk}

-- The bits from a place on are a block, whose text are the bytes that walk the links; or this is wrong with them.
abbrev pub IsText : List ℕ → ℕ → Result Text BlockFault → List ℕ → Type 0
IsText bits at (Ok t) links = (t.end ≤ length bits) × ((raw : List ℕ) → length raw ≡ t.size → IsWalk links t.first raw → block_at (drop at bits) ≡ Ok (record { checksum = t.checksum; text = raw }, drop t.end bits))
IsText bits at (Err fault) links = block_at (drop at bits) ≡ Err fault

-- The bits from a place on are a block, whose text are the first bytes of raw; or this is wrong with them.
abbrev pub IsBlock : List ℕ → ℕ → Result Text BlockFault → List ℕ → Type 0
IsBlock bits at (Ok t) raw = (t.size ≤ length raw) × (t.end ≤ length bits) × (block_at (drop at bits) ≡ Ok (record { checksum = t.checksum; text = take t.size raw }, drop t.end bits))
IsBlock bits at (Err fault) raw = block_at (drop at bits) ≡ Err fault

-- how many bytes a block has before its runs are written out, if it was read
abbrev pub text_size : Option (Result Text BlockFault) → ℕ
text_size (Some (Ok t)) = t.size
text_size (Some (Err fault)) = 0
text_size None = 0

-- the link of its first byte
abbrev pub first_link : Option (Result Text BlockFault) → ℕ
first_link (Some (Ok t)) = t.first
first_link (Some (Err fault)) = 0
first_link None = 0
