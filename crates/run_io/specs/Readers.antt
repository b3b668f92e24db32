-- What is still to be read.
use Rattle.std.specs.Prelude.{ℕ, ⊤, List, [], Option, Some, None}
use Rattle.std.specs.Io.Buffered.{reader_remaining}
use Rattle.run_io.specs.declared.slot.Slot.{Slot}
use Rattle.run_io.specs.declared.blocks.Blocks.{Blocks}
use Rattle.run_io.specs.declared.blocks.Stage.{Stage}
use Rattle.run_io.specs.declared.blocks.Stage.TheVariants.{Waiting, Reading, Ended}

-- of no reader nothing
abbrev pub device_remaining : {D : Type 0} → (D → Option (List ℕ)) → Option D → Option (List ℕ)
device_remaining remaining None = Some []
device_remaining remaining (Some device) = remaining device

abbrev pub slot_remaining : {D : Type 0} → (D → Option (List ℕ)) → Slot D → Option (List ℕ)
slot_remaining remaining slot = device_remaining remaining slot.device

abbrev pub stage_remaining : {D : Type 0} → (D → Option (List ℕ)) → Stage D → Option (List ℕ)
stage_remaining remaining (Waiting slot) = slot_remaining remaining slot
stage_remaining remaining (Reading reader) = reader_remaining (slot_remaining remaining) reader
stage_remaining remaining Ended = Some []

-- the bytes of the block that weren't given yet, and then those that are still to be read of the reader, where these
-- are known
abbrev pub blocks_remaining : {D : Type 0} → (D → Option (List ℕ)) → Blocks D → Option (List ℕ)
blocks_remaining remaining blocks = stage_remaining remaining blocks.stage

abbrev pub StageBegun : {D : Type 0} → Stage D → Type 0
StageBegun (Waiting slot) = ⊥
StageBegun (Reading reader) = ⊤
StageBegun Ended = ⊤

-- the first block was made
abbrev pub IsBegun : {D : Type 0} → Blocks D → Type 0
IsBegun blocks = StageBegun blocks.stage
