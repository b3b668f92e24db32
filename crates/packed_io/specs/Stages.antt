-- How far a file was read.
use Rattle.std.specs.Prelude.{◌≡◌, ◌<◌, ◌≤◌, ◌⊎◌, ⊤, ℕ, Bool, true, not, ◌||◌, if◌then◌else◌, List, [], Option, Some, None, length, take, box_value}
use Rattle.std.specs.Option.{option_map}
use Rattle.std.specs.Io.KnownBytes.{Consumes, IsAtEnd, Keeps, prepend_known}
use Rattle.mrt_frame.specs.Devices.{counted_device}
use Rattle.gzip_reader.specs.Gives.{left_known}
use Rattle.gzip_reader.specs.Readers.{fault_of, gunzip_source}
use Rattle.bzip2_reader.specs.Coming.{given_of}
use Rattle.bzip2_reader.specs.Reading.{damage_of, device_of, to_come}
use Rattle.packed_io.specs.declared.decoder.Decoder.{Decoder}
use Rattle.packed_io.specs.declared.decoder.Decoder.TheVariants.{Empty, Gzip, Bzip2}
use Rattle.run_io.specs.Readers.{blocks_remaining}
use Rattle.packed_io.specs.Devices.{first_remaining, head_bytes, place_remaining}
use Rattle.packed_io.specs.Endings.{Ending, KeepsEnding, bzip2_ending, ending_of, ending_told, gzip_ending, is_of_file}
use Rattle.packed_io.specs.Faults.{EndsTheData, FailsReading, ends_by, format_of_fault}
use Rattle.packed_io.specs.Formats.{told_in, told_of}
use Rattle.packed_io.specs.declared.decoder.Outcome.{Outcome}
use Rattle.packed_io.specs.declared.decoder.Outcome.TheVariants as outcome
use Rattle.packed_io.specs.declared.fault.PackedCause.{PackedCause}
use Rattle.packed_io.specs.declared.fault.PackedCause.TheVariants as cause
use Rattle.packed_io.specs.declared.fault.PackedFault.{PackedFault}
use Rattle.packed_io.specs.declared.format.Format.{Format}
use Rattle.packed_io.specs.declared.format.Format.TheVariants as format
use Rattle.packed_io.specs.declared.unpacked.Stage.{Stage}
use Rattle.packed_io.specs.declared.unpacked.Stage.TheVariants.{Waiting, Plain, Packed, Ended, Failed}
use Rattle.packed_io.specs.declared.unpacked.Waiting as waiting

-- what a read of a packed file comes to: bytes, none only where there is no room; an end; a failure
abbrev pub IsOutcome : Outcome → List ℕ → Type 0
IsOutcome (outcome.Gave n) buffer = (n ≤ length buffer) × (n ≡ 0 → 0 < length buffer → ⊥)
IsOutcome (outcome.Ended fault) buffer = EndsTheData fault
IsOutcome (outcome.Failed fault error) buffer = FailsReading (Some fault)

-- the first bytes of a file, as far as they were read, and then those of its device, where these are known
abbrev pub known_bytes : {D : Type 0} → (D → Option (List ℕ)) → waiting.Waiting D → Option (List ℕ)
known_bytes remaining w = prepend_known (head_bytes w.head) (place_remaining remaining w.place)

-- ten first bytes were read, or all that the device has
abbrev pub IsWhole : {D : Type 0} → (D → Option (List ℕ)) → waiting.Waiting D → Type 0
IsWhole remaining w = (length (head_bytes w.head) ≡ 10) ⊎ IsAtEnd (place_remaining remaining w.place)

-- the bytes that what unpacks a file will give, where those of its device are known
abbrev pub decoder_remaining : {D : Type 0} → (D → Option (List ℕ)) → Decoder D → Option (List ℕ)
decoder_remaining remaining Empty = Some []
decoder_remaining remaining (Gzip gunzip) = left_known gunzip (place_remaining remaining (counted_device (gunzip_source gunzip)))
decoder_remaining remaining (Bzip2 bunzip) =
    given_of (to_come (place_remaining remaining (counted_device (device_of bunzip))) bunzip)

-- how the file ends that it unpacks
abbrev pub decoder_ending : {D : Type 0} → (D → Option (List ℕ)) → Decoder D → Option Ending
decoder_ending remaining Empty = None
decoder_ending remaining (Gzip gunzip) = gzip_ending gunzip (place_remaining remaining (counted_device (gunzip_source gunzip)))
decoder_ending remaining (Bzip2 bunzip) = bzip2_ending (to_come (place_remaining remaining (counted_device (device_of bunzip))) bunzip)

-- the ending that the reader of its form told
abbrev pub decoder_told : {D : Type 0} → Decoder D → Ending
decoder_told Empty = None
decoder_told (Gzip gunzip) = option_map (λ fault. cause.Gzip fault.flaw) (fault_of gunzip)
decoder_told (Bzip2 bunzip) = option_map (λ damage. cause.Bzip2 damage.cause) (damage_of bunzip)

-- how a file ends whose reading failed by this cause: by it; or as before, where that reader told it too that the file
-- is not to blame
abbrev pub failed_ending : {D : Type 0} → (D → Option (List ℕ)) → PackedCause → Decoder D → Option Ending
failed_ending remaining cause decoder =
    if is_of_file (Some cause) || is_of_file (decoder_told decoder) then Some (Some cause) else decoder_ending remaining decoder

-- it was made for a file in this form, of whose known bytes it tells the same
abbrev pub IsMade : {D : Type 0} → (D → Option (List ℕ)) → Format → Option (List ℕ) → Decoder D → Type 0
IsMade remaining format.Plain known decoder = ⊤
IsMade remaining form known decoder = Keeps (told_in form known) (decoder_remaining remaining decoder)

-- what a read of a packed file did to the known bytes
abbrev pub OutcomeConsumes : Option (List ℕ) → Option (List ℕ) → Outcome → List ℕ → Type 0
OutcomeConsumes old new (outcome.Gave n) buffer = Consumes old new (take n buffer)
OutcomeConsumes old new (outcome.Ended fault) buffer = IsAtEnd old
OutcomeConsumes old new (outcome.Failed fault error) buffer = Keeps old new

-- a read of a packed file keeps how it ends, or tells it
abbrev pub OutcomeEnds : {D : Type 0} → (D → Option (List ℕ)) → Decoder D → Decoder D → Outcome → Type 0
OutcomeEnds remaining old new (outcome.Gave n) = KeepsEnding (decoder_ending remaining old) (decoder_ending remaining new)
OutcomeEnds remaining old new (outcome.Ended fault) = KeepsEnding (decoder_ending remaining old) (Some (ending_told fault))
OutcomeEnds remaining old new (outcome.Failed fault error) =
    KeepsEnding (decoder_ending remaining old) (failed_ending remaining fault.cause new)

abbrev pub stage_remaining : {D : Type 0} → (D → Option (List ℕ)) → Stage D → Option (List ℕ)
stage_remaining remaining (Waiting w) = told_of (known_bytes remaining w)
stage_remaining remaining (Plain blocks) = blocks_remaining (first_remaining remaining) blocks
stage_remaining remaining (Packed form decoder) = decoder_remaining remaining (box_value decoder)
stage_remaining remaining (Ended form fault) = Some []
stage_remaining remaining (Failed fault error decoder) = decoder_remaining remaining (box_value decoder)

-- how a packed file ends: as its known bytes do, or as was told
abbrev pub stage_ending : {D : Type 0} → (D → Option (List ℕ)) → Stage D → Option Ending
stage_ending remaining (Waiting w) = ending_of (known_bytes remaining w)
stage_ending remaining (Plain blocks) = None
stage_ending remaining (Packed form decoder) = decoder_ending remaining (box_value decoder)
stage_ending remaining (Ended form fault) = Some (ending_told fault)
stage_ending remaining (Failed fault error decoder) = failed_ending remaining fault.cause (box_value decoder)

-- how it ends after its reading failed by this cause
abbrev pub stage_failed_ending : {D : Type 0} → (D → Option (List ℕ)) → PackedCause → Stage D → Option Ending
stage_failed_ending remaining cause (Packed form decoder) = failed_ending remaining cause (box_value decoder)
stage_failed_ending remaining cause other = stage_ending remaining other

abbrev pub StageWaits : {D : Type 0} → Stage D → Type 0
StageWaits (Waiting w) = ⊤
StageWaits other = ⊥

abbrev pub StageBegun : {D : Type 0} → Stage D → Type 0
StageBegun (Waiting w) = ⊥
StageBegun other = ⊤

abbrev pub StagePacked : {D : Type 0} → Stage D → Type 0
StagePacked (Waiting w) = ⊥
StagePacked (Plain blocks) = ⊥
StagePacked other = ⊤

-- it is being unpacked
abbrev pub StageUnpacks : {D : Type 0} → Stage D → Type 0
StageUnpacks (Packed form decoder) = ⊤
StageUnpacks other = ⊥

abbrev pub StageEnded : {D : Type 0} → Stage D → Type 0
StageEnded (Ended form fault) = EndsTheData fault
StageEnded other = ⊥

abbrev pub StageFailed : {D : Type 0} → Stage D → Type 0
StageFailed (Failed fault error decoder) = FailsReading (Some fault)
StageFailed other = ⊥

-- whether the fault agrees with how it ended
abbrev pub is_told : {D : Type 0} → Stage D → Bool
is_told (Ended form fault) = ends_by fault
is_told (Failed fault error decoder) = not (ends_by (Some fault))
is_told other = true

-- what begins to give the file's bytes tells the same of them
abbrev pub Opens : {D : Type 0} → (D → Option (List ℕ)) → waiting.Waiting D → Stage D → Type 0
Opens remaining w stage = StageBegun stage × (is_told stage ≡ true) × Keeps (told_of (known_bytes remaining w)) (stage_remaining remaining stage)

abbrev pub stage_format : {D : Type 0} → Stage D → Option Format
stage_format (Waiting w) = None
stage_format (Plain blocks) = Some format.Plain
stage_format (Packed form decoder) = Some form
stage_format (Ended form fault) = Some form
stage_format (Failed fault error decoder) = Some (format_of_fault fault)

abbrev pub stage_fault : {D : Type 0} → Stage D → Option PackedFault
stage_fault (Ended form fault) = fault
stage_fault (Failed fault error decoder) = Some fault
stage_fault other = None
