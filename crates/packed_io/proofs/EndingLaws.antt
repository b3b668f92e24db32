-- How packed files end: what is known of it is kept.
use Rattle.std.proofs.Common.{◌≡◌, ◌≤◌, ◌++◌, ◌⊎◌, ℕ, List, Option, None, Some, length, refl, sym, ap, ◌∙◌}
use Rattle.std.specs.Option.{option_map}
use Rattle.std.specs.Result.{result_err}
use Rattle.std.specs.Io.KnownBytes.{IsAtEnd, prepend_known}
use Rattle.gzip_reader.specs.Blocks as gzip
use Rattle.gzip_reader.specs.Files.{unpacked}
use Rattle.gzip_reader.specs.Gives.{left}
use Rattle.gzip_reader.specs.declared.gunzip.Gunzip.{Gunzip}
use Rattle.packed_io.specs.Endings.{Ending, KeepsEnding, ending_in, ending_of, gzip_ending}
use Rattle.packed_io.specs.Formats.{format_of}
use Rattle.packed_io.specs.declared.fault.PackedCause.TheVariants as cause
use Rattle.packed_io.specs.declared.format.Format.{Format}
use Rattle.packed_io.specs.declared.format.Format.TheVariants.{Plain, Gzip, Bzip2}
use Rattle.packed_io.proofs.HeadLaws.{front}

pub keeps_refl : (a : Option Ending) → KeepsEnding a a
keeps_refl None = tt
keeps_refl (Some x) = refl

pub keeps_trans : (a b c : Option Ending) → KeepsEnding a b → KeepsEnding b c → KeepsEnding a c
keeps_trans None b c k s = tt
keeps_trans (Some x) None c k s = absurd k
keeps_trans (Some x) (Some y) None k s = absurd s
keeps_trans (Some x) (Some y) (Some z) k s = s ∙ k

-- a new reader of a gzip file ends as the file does
pub gzip_ends : {S : Type 0} (gunzip : Gunzip S) (head : List ℕ) (known : Option (List ℕ)) → ((bytes : List ℕ) → left gunzip bytes ≡ unpacked (head ++ bytes)) → KeepsEnding (ending_in Gzip (prepend_known head known)) (gzip_ending gunzip known)
gzip_ends gunzip head None h = tt
gzip_ends gunzip head (Some bytes) h = ap (λ (u : gzip.Unpacked). option_map cause.Gzip (result_err u.ending)) (h bytes)

nothing_ends : (form : Format) → ending_in form None ≡ None
nothing_ends Plain = refl
nothing_ends Gzip = refl
nothing_ends Bzip2 = refl

-- ten first bytes, or all of a shorter file, tell in which form it ends
pub ends_as : (head : List ℕ) (known : Option (List ℕ)) (form : Format) → length head ≤ 10 → (length head ≡ 10) ⊎ IsAtEnd known → form ≡ format_of head → ending_of (prepend_known head known) ≡ ending_in form (prepend_known head known)
ends_as head None form h w e = sym (nothing_ends form)
ends_as head (Some rest) form h w e = ap (λ l. ending_in (format_of l) (Some (head ++ rest))) (front head rest h w) ∙ ap (λ f. ending_in f (Some (head ++ rest))) (sym e)

-- a file that is read as it is has no ending
pub plain_ends : (head : List ℕ) (known : Option (List ℕ)) (form : Format) → length head ≤ 10 → (length head ≡ 10) ⊎ IsAtEnd known → form ≡ format_of head → form ≡ Plain → ending_of (prepend_known head known) ≡ None
plain_ends head known form h w e p = ends_as head known form h w e ∙ ap (λ f. ending_in f (prepend_known head known)) p
