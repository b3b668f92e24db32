-- A block: what its bits say.
use Rattle.std.specs.Prelude.{ℕ, ◌+◌, ◌&&◌, List, length, Ok, nat_lt, nat_le, ◌==◌}
use Rattle.bzip2_reader.specs.declared.fault.BlockFault.TheVariants.{BadOrigin, BadTables, NoBlock, NoSymbols, Randomised}
use Rattle.bzip2_reader.specs.Codes.{selectors_at, tables_at}
use Rattle.bzip2_reader.specs.Fields.{Reading, ◌>>=◌, demand, number}
use Rattle.bzip2_reader.specs.Symbols.{column_at, values_at}
use Rattle.bzip2_reader.specs.Transform.{text_of}

-- the checksum that a block names, and its text before runs are written out
pub record Block : Type 0 where
  pub checksum : ℕ
  pub text : List ℕ

-- the last column of a block's rotations
unfoldable pub rows_at : List ℕ → Reading (List ℕ)
rows_at bits = do
  values ← values_at bits
  _ ← demand (nat_lt 0 (length values.0)) NoSymbols
  count ← number 3 values.1
  _ ← demand (nat_le 2 count.0 && nat_le count.0 6) BadTables
  selectors ← selectors_at count.0 count.1
  tables ← tables_at count.0 (length values.0 + 2) selectors.1
  column_at values.0 tables.0 selectors.0 tables.1

-- what a block's head says: its checksum, and the row of its text
pub record Head : Type 0 where
  pub checksum : ℕ
  pub row : ℕ

-- the head: 48 bits, the checksum, a bit that is 0, and the row
unfoldable pub block_head_at : List ℕ → Reading Head
block_head_at bits = do
  magic ← number 48 bits
  _ ← demand (magic.0 == 0x314159265359) NoBlock
  checksum ← number 32 magic.1
  shuffled ← number 1 checksum.1
  _ ← demand (shuffled.0 == 0) Randomised
  row ← number 24 shuffled.1
  Ok (record { checksum = checksum.0; row = row.0 }, row.1)

-- a block: its head, and the last column of the rotations
unfoldable pub block_at : List ℕ → Reading Block
block_at bits = do
  head ← block_head_at bits
  column ← rows_at head.1
  _ ← demand (nat_lt head.0.row (length column.0)) BadOrigin
  Ok (record { checksum = head.0.checksum; text = text_of column.0 head.0.row }, column.1)
