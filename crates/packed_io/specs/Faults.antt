-- What a fault of a packed file does to reading.
use Rattle.std.specs.Prelude.{◌≡◌, Bool, true, false, not, Option, None, Some, if◌then◌else◌}
use Rattle.bzip2_reader.specs.Endings.{is_failure}
use Rattle.gzip_reader.specs.Flaws.{ends_the_data}
use Rattle.gzip_reader.specs.declared.fault.Flaw.{Flaw}
use Rattle.gzip_reader.specs.declared.fault.Flaw.TheVariants as flaw
use Rattle.bzip2_reader.specs.declared.fault.Cause.{Cause}
use Rattle.bzip2_reader.specs.declared.fault.Cause.TheVariants as cause
use Rattle.packed_io.specs.declared.fault.Effect.{Effect}
use Rattle.packed_io.specs.declared.fault.Effect.TheVariants.{Ended, Failed, DeviceFailed, NoMemory}
use Rattle.packed_io.specs.declared.fault.PackedCause.{PackedCause}
use Rattle.packed_io.specs.declared.fault.PackedCause.TheVariants.{Gzip, Bzip2}
use Rattle.packed_io.specs.declared.fault.PackedFault.{PackedFault}
use Rattle.packed_io.specs.declared.format.Format.{Format}
use Rattle.packed_io.specs.declared.format.Format.TheVariants as format

-- of a flaw of gzip: what ends the data is said there
abbrev pub effect_of_gzip : Flaw → Effect
effect_of_gzip flaw.Device = DeviceFailed
effect_of_gzip other = if ends_the_data other then Ended else Failed

-- of a damage of bzip2: all but failures end the data
abbrev pub effect_of_bzip2 : Cause → Effect
effect_of_bzip2 cause.Device = DeviceFailed
effect_of_bzip2 cause.Memory = NoMemory
effect_of_bzip2 other = Ended

abbrev pub effect_of_cause : PackedCause → Effect
effect_of_cause (Gzip flaw) = effect_of_gzip flaw
effect_of_cause (Bzip2 cause) = effect_of_bzip2 cause

abbrev pub effect_of : PackedFault → Effect
effect_of fault = effect_of_cause fault.cause

-- whether the data ends where it stands: what does is told by each form
abbrev pub ends_by_cause : PackedCause → Bool
ends_by_cause (Gzip flaw) = ends_the_data flaw
ends_by_cause (Bzip2 cause) = not (is_failure cause)

-- whether the data ended by this fault, or with none
abbrev pub ends_by : Option PackedFault → Bool
ends_by None = true
ends_by (Some fault) = ends_by_cause fault.cause

-- the data ended, by this fault or with none
abbrev pub EndsTheData : Option PackedFault → Type 0
EndsTheData fault = ends_by fault ≡ true

-- there is a fault, and reading failed by it: the data doesn't end there
abbrev pub FailsReading : Option PackedFault → Type 0
FailsReading fault = ends_by fault ≡ false

abbrev pub format_of_cause : PackedCause → Format
format_of_cause (Gzip flaw) = format.Gzip
format_of_cause (Bzip2 cause) = format.Bzip2

-- the form of the file that has this fault
abbrev pub format_of_fault : PackedFault → Format
format_of_fault fault = format_of_cause fault.cause
