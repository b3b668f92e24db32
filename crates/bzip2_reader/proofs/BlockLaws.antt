-- Reading a block: its head, its column, and its text.
use Rattle.std.proofs.Common.{◌≡◌, ℕ, ◌<◌, ◌≤◌, Ok, Err, List, [], length, refl, ◌∙◌, ap}
use Rattle.std.specs.Prelude.{nat_lt}
use Rattle.std.proofs.lemmas.Bool.{le-ltb, lt-ltb}
use Rattle.bzip2_reader.specs.declared.fault.BlockFault.{BlockFault}
use Rattle.bzip2_reader.specs.declared.fault.BlockFault.TheVariants.{BadOrigin, ShortBlock}
use Rattle.bzip2_reader.specs.Blocks.{Block, Head, block_at, block_head_at, rows_at}
use Rattle.bzip2_reader.specs.Fields.{Reading, ◌>>=◌, demand, number_from}
use Rattle.bzip2_reader.specs.Transform.{text_of}

abbrev on_column : Head → Reading (List ℕ) → Reading Block
on_column head r = r >>= λ column. demand (nat_lt head.row (length column.0)) BadOrigin >>= λ _. Ok (record { checksum = head.checksum; text = text_of column.0 head.row }, column.1)

abbrev on_head : Reading Head → Reading Block
on_head r = r >>= λ head. on_column head.0 (rows_at head.1)

block_next : (bits : List ℕ) → block_at bits ≡ on_head (block_head_at bits)
unfolding block_at
block_next bits = refl

pub head_fault : (bits : List ℕ) (fault : BlockFault) → block_head_at bits ≡ Err fault → block_at bits ≡ Err fault
head_fault bits fault e = block_next bits ∙ ap on_head e

pub column_fault : (bits rest : List ℕ) (head : Head) (fault : BlockFault) → block_head_at bits ≡ Ok (head, rest) → rows_at rest ≡ Err fault → block_at bits ≡ Err fault
column_fault bits rest head fault e f = block_next bits ∙ ap on_head e ∙ ap (on_column head) f

pub row_fault : (bits rest column rest2 : List ℕ) (head : Head) → block_head_at bits ≡ Ok (head, rest) → rows_at rest ≡ Ok (column, rest2) → length column ≤ head.row → block_at bits ≡ Err BadOrigin
row_fault bits rest column rest2 head e f h =
    block_next bits ∙ ap on_head e ∙ ap (on_column head) f ∙ ap (λ b. demand b BadOrigin >>= λ _. Ok (record { checksum = head.checksum; text = text_of column head.row }, rest2)) (le-ltb head.row (length column) h)

pub block_read : (bits rest column rest2 : List ℕ) (head : Head) → block_head_at bits ≡ Ok (head, rest) → rows_at rest ≡ Ok (column, rest2) → head.row < length column →
    block_at bits ≡ Ok (record { checksum = head.checksum; text = text_of column head.row }, rest2)
block_read bits rest column rest2 head e f h =
    block_next bits ∙ ap on_head e ∙ ap (on_column head) f ∙ ap (λ b. demand b BadOrigin >>= λ _. Ok (record { checksum = head.checksum; text = text_of column head.row }, rest2)) (lt-ltb head.row (length column) h)

-- no bits
none_there : block_at [] ≡ Err ShortBlock
unfolding block_at block_head_at number_from
none_there = refl

pub block_none : (bits : List ℕ) → bits ≡ [] → block_at bits ≡ Err ShortBlock
block_none bits e = ap block_at e ∙ none_there
