-- In which form a file is.
use Rattle.std.specs.Prelude.{ℕ, List, [], ◌∷◌, Option, None, Some, nat_eq, take, if◌then◌else◌}
use Rattle.std.specs.List.{starts_with}
use Rattle.std.specs.Option.{option_map}
use Rattle.bzip2_reader.specs.Files as bzip2
use Rattle.gzip_reader.specs.Files as gzip
use Rattle.bzip2_reader.specs.Fronts.{is_bzip2}
use Rattle.packed_io.specs.declared.format.Format.{Format}
use Rattle.packed_io.specs.declared.format.Format.TheVariants.{Plain, Gzip, Bzip2}

-- by the first bytes of a file: 1f 8b and 8 (RFC 1952, 2.3.1), or those of a bzip2 stream and its first block
abbrev pub format_of : List ℕ → Format
format_of first = if starts_with nat_eq first (0x1f ∷ 0x8b ∷ 8 ∷ []) then Gzip else if is_bzip2 first then Bzip2 else Plain

-- of these known bytes a file in this form tells those that it will give: all if it is read as it is, else what they
-- unpack to
abbrev pub told_in : Format → Option (List ℕ) → Option (List ℕ)
told_in Plain known = known
told_in Gzip known = option_map (λ bytes. (gzip.unpacked bytes).bytes) known
told_in Bzip2 known = option_map (λ bytes. (bzip2.unpacked bytes).given) known

-- what is known of the bytes that a file will give, by what is known of those that it has
abbrev pub told_of : Option (List ℕ) → Option (List ℕ)
told_of None = None
told_of (Some bytes) = told_in (format_of (take 10 bytes)) (Some bytes)
