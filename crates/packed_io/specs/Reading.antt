-- How far a file was read, and what it will give.
use Rattle.std.specs.Prelude.{ℕ, List, Option}
use Rattle.packed_io.specs.Endings.{Ending}
use Rattle.packed_io.specs.Stages.{StageBegun, StageEnded, StageFailed, StagePacked, StageWaits, stage_ending, stage_fault, stage_format, stage_remaining}
use Rattle.packed_io.specs.declared.fault.PackedFault.{PackedFault}
use Rattle.packed_io.specs.declared.format.Format.{Format}
use Rattle.packed_io.specs.declared.unpacked.Unpacked.{Unpacked}

-- the bytes that a file will give, where they are known: those of a file that is read as it is
abbrev pub unpacked_remaining : {D : Type 0} → (D → Option (List ℕ)) → Unpacked D → Option (List ℕ)
unpacked_remaining remaining u = stage_remaining remaining u.stage

-- how a packed file ends, where its bytes are known: `Unpacked::fault` tells this
abbrev pub file_ending : {D : Type 0} → (D → Option (List ℕ)) → Unpacked D → Option Ending
file_ending remaining u = stage_ending remaining u.stage

-- its first bytes are still being read
abbrev pub IsWaiting : {D : Type 0} → Unpacked D → Type 0
IsWaiting u = StageWaits u.stage

-- its first bytes were read
abbrev pub IsBegun : {D : Type 0} → Unpacked D → Type 0
IsBegun u = StageBegun u.stage

-- its first bytes were those of a packed file
abbrev pub IsPacked : {D : Type 0} → Unpacked D → Type 0
IsPacked u = StagePacked u.stage

-- a packed file was read to its end, and no fault or one that ends the data was told
abbrev pub HasEnded : {D : Type 0} → Unpacked D → Type 0
HasEnded u = StageEnded u.stage

-- a packed file can't be read on, by a fault that doesn't end the data
abbrev pub HasFailed : {D : Type 0} → Unpacked D → Type 0
HasFailed u = StageFailed u.stage

-- in which form the file is, once its first bytes were read
abbrev pub format_told : {D : Type 0} → Unpacked D → Option Format
format_told u = stage_format u.stage

-- what is wrong with a packed file, once its end or a failure was told
abbrev pub fault_told : {D : Type 0} → Unpacked D → Option PackedFault
fault_told u = stage_fault u.stage
