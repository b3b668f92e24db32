-- How a packed file ends, where its bytes are known, and what is told of it.
use Rattle.std.specs.Prelude.{◌≡◌, ⊤, ℕ, List, Bool, true, false, not, Option, None, Some, take}
use Rattle.std.specs.Option.{option_map}
use Rattle.std.specs.Result.{result_err}
use Rattle.bzip2_reader.specs.Endings.{is_failure}
use Rattle.bzip2_reader.specs.Files as bzip2
use Rattle.gzip_reader.specs.Files as gzip
use Rattle.gzip_reader.specs.Gives.{left}
use Rattle.gzip_reader.specs.declared.fault.Flaw.TheVariants as flaw
use Rattle.gzip_reader.specs.declared.gunzip.Gunzip.{Gunzip}
use Rattle.packed_io.specs.Formats.{format_of}
use Rattle.packed_io.specs.declared.fault.PackedCause.{PackedCause}
use Rattle.packed_io.specs.declared.fault.PackedCause.TheVariants.{Gzip, Bzip2}
use Rattle.packed_io.specs.declared.fault.PackedFault.{PackedFault}
use Rattle.packed_io.specs.declared.format.Format.{Format}
use Rattle.packed_io.specs.declared.format.Format.TheVariants as format

-- by this cause, or with nothing wrong
abbrev pub Ending : Type 0
Ending = Option PackedCause

-- how a gzip file ends whose device has these known bytes left: as what its reader has still to give
abbrev pub gzip_ending : {R : Type 0} → Gunzip R → Option (List ℕ) → Option Ending
gzip_ending gunzip known = option_map (λ bytes. option_map Gzip (result_err (left gunzip bytes).ending)) known

-- how a bzip2 file ends of which this comes
abbrev pub bzip2_ending : Option bzip2.Unpacked → Option Ending
bzip2_ending coming = option_map (λ unpacked. option_map Bzip2 unpacked.damage) coming

-- how a packed file in this form with these known bytes ends: as what they unpack to
abbrev pub ending_in : Format → Option (List ℕ) → Option Ending
ending_in format.Plain known = None
ending_in format.Gzip known = option_map (λ bytes. option_map Gzip (result_err (gzip.unpacked bytes).ending)) known
ending_in format.Bzip2 known = bzip2_ending (option_map bzip2.unpacked known)

-- how a file ends, by what is known of its bytes: nothing is said of one that isn't packed
abbrev pub ending_of : Option (List ℕ) → Option Ending
ending_of None = None
ending_of (Some bytes) = ending_in (format_of (take 10 bytes)) (Some bytes)

-- a known ending stays as it was
abbrev pub KeepsEnding : Option Ending → Option Ending → Type 0
KeepsEnding None new = ⊤
KeepsEnding (Some ending) None = ⊥
KeepsEnding (Some ending) (Some other) = other ≡ ending

-- the file is to blame, and not its device or want of memory
abbrev pub is_of_file : Ending → Bool
is_of_file None = true
is_of_file (Some (Gzip flaw.Device)) = false
is_of_file (Some (Gzip flaw)) = true
is_of_file (Some (Bzip2 cause)) = not (is_failure cause)

-- the ending that a fault tells, or that none was told
abbrev pub ending_told : Option PackedFault → Ending
ending_told fault = option_map (λ f. f.cause) fault

-- the file ends as is told, unless it is told that the file is not to blame
abbrev pub TellsEnding : Option Ending → Option PackedFault → Type 0
TellsEnding ending fault = is_of_file (ending_told fault) ≡ true → ending ≡ Some (ending_told fault)
