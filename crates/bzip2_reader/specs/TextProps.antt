-- What was decoded of a block is a fact.
use Rattle.std.specs.Prelude.{ℕ, List, Result, Ok, Err}
use denote.Struct.Props as logic
use Rattle.bzip2_reader.specs.declared.block.Text.{Text}
use Rattle.bzip2_reader.specs.declared.fault.BlockFault.{BlockFault}
use Rattle.bzip2_reader.specs.Texts.{IsBlock}

pub block_prop : (bits : List ℕ) (at : ℕ) (text : Result Text BlockFault) (raw : List ℕ) → IsProp (IsBlock bits at text raw)
block_prop bits at (Ok t) raw = Prim.hlevel logic.props
block_prop bits at (Err fault) raw = Prim.hlevel logic.props
