-- The first ten bytes of a member's header, and what is to come after them.
use Rattle.std.proofs.Common.{◌≡◌, ℕ, ◌/◌, ◌<◌, suc, Bool, not, cond, eqb, List, [], ◌∷◌, ◌++◌, take, drop, Ok, Err, Result, refl, sym, ◌∙◌, ap}
use Rattle.std.specs.Int.Bits.{bit_and}
use Rattle.std.proofs.lemmas.Bool.{agree_below_at, eq-eqb, eqb-true, ne_eqb}
use Rattle.gzip_reader.specs.BitFields.{Reading, ◌>>=◌, number_at}
use Rattle.gzip_reader.specs.Bits.{held}
use Rattle.gzip_reader.specs.Blocks.{add_before, unpack}
use Rattle.gzip_reader.specs.Crc.{crc}
use Rattle.gzip_reader.specs.Files.{data_of, fixed_byte, flagged_fields, flags_at, header_at, member, no_bytes, others, skip_bytes}
use Rattle.gzip_reader.specs.Places.{TakesField, TakesMethod, place_of, to_come}
use Rattle.gzip_reader.specs.Steps.{decoded}
use Rattle.gzip_reader.specs.Rest.{Place, and_others, data_behind, rest_of}
use Rattle.gzip_reader.specs.declared.decoder.Decoder.{Decoder}
use Rattle.gzip_reader.specs.declared.decoder.Phase.TheVariants.{ExtraLength, Member}
use Rattle.gzip_reader.specs.declared.fault.Flaw.{Flaw}
use Rattle.gzip_reader.specs.declared.fault.Flaw.TheVariants.{Flags, Magic, Method}
use Rattle.gzip_reader.specs.declared.output.Output.{Output}
use Rattle.gzip_reader.proofs.PlaceLaws.{none_decoded}

-- ---- a byte that has to be this one

pub fixed_right : (value byte register : ℕ) (flaw : Flaw) (bits rest : List ℕ) → number_at 8 bits ≡ Ok (byte, rest) → byte ≡ value → fixed_byte value flaw register bits ≡ Ok (crc register (byte ∷ []), rest)
unfolding fixed_byte
fixed_right value byte register flaw bits rest e is =
    ap (λ (read : Reading ℕ). read >>= λ byte. cond (eqb byte.0 value) (Ok (crc register (byte.0 ∷ []), byte.1)) (Err flaw)) e
    ∙ ap (λ (b : Bool). cond {A = Reading ℕ} b (Ok (crc register (byte ∷ []), rest)) (Err flaw)) (eq-eqb byte value is)

pub fixed_wrong : (value byte register : ℕ) (flaw : Flaw) (bits rest : List ℕ) → number_at 8 bits ≡ Ok (byte, rest) → (byte ≡ value → ⊥) → fixed_byte value flaw register bits ≡ Err flaw
unfolding fixed_byte
fixed_wrong value byte register flaw bits rest e other =
    ap (λ (read : Reading ℕ). read >>= λ byte. cond (eqb byte.0 value) (Ok (crc register (byte.0 ∷ []), byte.1)) (Err flaw)) e
    ∙ ap (λ (b : Bool). cond {A = Reading ℕ} b (Ok (crc register (byte ∷ []), rest)) (Err flaw)) (ne_eqb byte value other)

pub fixed_short : (value register : ℕ) (flaw short : Flaw) (bits : List ℕ) → number_at 8 bits ≡ Err short → fixed_byte value flaw register bits ≡ Err short
unfolding fixed_byte
fixed_short value register flaw short bits e = ap (λ (read : Reading ℕ). read >>= λ byte. cond (eqb byte.0 value) (Ok (crc register (byte.0 ∷ []), byte.1)) (Err flaw)) e

-- ---- bytes that say nothing

pub skip_one : (n register byte : ℕ) (bits rest : List ℕ) → number_at 8 bits ≡ Ok (byte, rest) → skip_bytes (suc n) register bits ≡ skip_bytes n (crc register (byte ∷ [])) rest
unfolding skip_bytes
skip_one n register byte bits rest e = ap (λ (read : Reading ℕ). read >>= λ byte. skip_bytes n (crc register (byte.0 ∷ [])) byte.1) e

pub skip_short : (n register : ℕ) (bits : List ℕ) (flaw : Flaw) → number_at 8 bits ≡ Err flaw → skip_bytes (suc n) register bits ≡ Err flaw
unfolding skip_bytes
skip_short n register bits flaw e = ap (λ (read : Reading ℕ). read >>= λ byte. skip_bytes n (crc register (byte.0 ∷ [])) byte.1) e

pub skip_none : (register : ℕ) (bits : List ℕ) → skip_bytes 0 register bits ≡ Ok (register, bits)
unfolding skip_bytes
skip_none register bits = refl

-- ---- the bytes in order

-- behind FLG
abbrev behind_flags : ℕ → Reading ℕ → Reading ℕ
behind_flags register read =
    read >>= λ flags. cond (not (eqb (flags.0 / 32) 0)) (Err Flags) (skip_bytes 6 (crc register (flags.0 ∷ [])) flags.1 >>= λ r. flagged_fields flags.0 r.0 r.1)

flags_are : (register : ℕ) (bits : List ℕ) → flags_at register bits ≡ behind_flags register (number_at 8 bits)
unfolding flags_at
flags_are register bits = refl

-- behind CM, and behind ID1 and ID2
abbrev behind_method : Reading ℕ → Reading ℕ
behind_method read = read >>= λ r. flags_at r.0 r.1

abbrev behind_first : Reading ℕ → Reading ℕ
behind_first read = read >>= λ r. behind_method (fixed_byte 8 Method r.0 r.1)

abbrev behind_second : Reading ℕ → Reading ℕ
behind_second read = read >>= λ r. behind_first (fixed_byte 0x8b Magic r.0 r.1)

header_is : (bits : List ℕ) → header_at bits ≡ behind_second (fixed_byte 0x1f Magic no_bytes bits)
unfolding header_at
header_is bits = refl

module _ (bits : List ℕ) where
  pub no_first : (flaw : Flaw) → fixed_byte 0x1f Magic no_bytes bits ≡ Err flaw → header_at bits ≡ Err flaw
  no_first flaw e = header_is bits ∙ ap behind_second e

  pub no_second : (r : ℕ) (rest : List ℕ) (flaw : Flaw) → fixed_byte 0x1f Magic no_bytes bits ≡ Ok (r, rest) → fixed_byte 0x8b Magic r rest ≡ Err flaw → header_at bits ≡ Err flaw
  no_second r rest flaw e f = header_is bits ∙ ap behind_second e ∙ ap behind_first f

  pub no_method : (r s : ℕ) (rest more : List ℕ) (flaw : Flaw) → fixed_byte 0x1f Magic no_bytes bits ≡ Ok (r, rest) → fixed_byte 0x8b Magic r rest ≡ Ok (s, more) → fixed_byte 8 Method s more ≡ Err flaw →
      header_at bits ≡ Err flaw
  no_method r s rest more flaw e f g = header_is bits ∙ ap behind_second e ∙ ap behind_first f ∙ ap behind_method g

  pub flags_come : (r s t : ℕ) (rest more others : List ℕ) → fixed_byte 0x1f Magic no_bytes bits ≡ Ok (r, rest) → fixed_byte 0x8b Magic r rest ≡ Ok (s, more) → fixed_byte 8 Method s more ≡ Ok (t, others) →
      header_at bits ≡ flags_at t others
  flags_come r s t rest more others e f g = header_is bits ∙ ap behind_second e ∙ ap behind_first f ∙ ap behind_method g

module _ (register : ℕ) (bits : List ℕ) where
  pub no_flags : (flaw : Flaw) → number_at 8 bits ≡ Err flaw → flags_at register bits ≡ Err flaw
  no_flags flaw e = flags_are register bits ∙ ap (behind_flags register) e

  pub reserved_flags : (flags : ℕ) (rest : List ℕ) → number_at 8 bits ≡ Ok (flags, rest) → (flags / 32 ≡ 0 → ⊥) → flags_at register bits ≡ Err Flags
  reserved_flags flags rest e some =
      flags_are register bits ∙ ap (behind_flags register) e
      ∙ ap (λ (b : Bool). cond {A = Reading ℕ} (not b) (Err Flags) (skip_bytes 6 (crc register (flags ∷ [])) rest >>= λ r. flagged_fields flags r.0 r.1)) (ne_eqb _ 0 some)

  free_flags : (flags : ℕ) (rest : List ℕ) → number_at 8 bits ≡ Ok (flags, rest) → flags / 32 ≡ 0 →
      flags_at register bits ≡ (skip_bytes 6 (crc register (flags ∷ [])) rest >>= λ r. flagged_fields flags r.0 r.1)
  free_flags flags rest e none =
      flags_are register bits ∙ ap (behind_flags register) e
      ∙ ap (λ (b : Bool). cond {A = Reading ℕ} (not b) (Err Flags) (skip_bytes 6 (crc register (flags ∷ [])) rest >>= λ r. flagged_fields flags r.0 r.1)) (eq-eqb _ 0 none)

  pub no_others : (flags : ℕ) (rest : List ℕ) (flaw : Flaw) → number_at 8 bits ≡ Ok (flags, rest) → flags / 32 ≡ 0 → skip_bytes 6 (crc register (flags ∷ [])) rest ≡ Err flaw →
      flags_at register bits ≡ Err flaw
  no_others flags rest flaw e none f = free_flags flags rest e none ∙ ap (λ (read : Reading ℕ). read >>= λ r. flagged_fields flags r.0 r.1) f

  pub fields_come : (flags r : ℕ) (rest more : List ℕ) → number_at 8 bits ≡ Ok (flags, rest) → flags / 32 ≡ 0 → skip_bytes 6 (crc register (flags ∷ [])) rest ≡ Ok (r, more) →
      flags_at register bits ≡ flagged_fields flags r more
  fields_come flags r rest more e none f = free_flags flags rest e none ∙ ap (λ (read : Reading ℕ). read >>= λ r. flagged_fields flags r.0 r.1) f

-- ---- the member

member_by : (read : Reading ℕ) → and_others (unpack read λ register rest. data_of no_bytes 0 [] rest) ≡ unpack read data_behind
member_by (Ok r) = refl
member_by (Err flaw) = refl

-- what the header says is to come
pub member_is : (at : Place) (bits : List ℕ) → rest_of at Member bits ≡ unpack (header_at bits) data_behind
unfolding rest_of member
member_is at bits = member_by (header_at bits)

pub fields_are : (at : Place) (bits : List ℕ) → rest_of at ExtraLength bits ≡ unpack (flagged_fields at.flags at.header_register bits) data_behind
unfolding rest_of
fields_are at bits = refl

-- ---- flags

pub no_reserved : (flags : ℕ) → flags < 256 → bit_and flags 224 ≡ 0 → flags / 32 ≡ 0
no_reserved flags small e =
    eqb-true (flags / 32) 0 (sym (agree_below_at (λ n. eqb (bit_and n 224) 0) (λ n. eqb (n / 32) 0) 256 flags refl small) ∙ eq-eqb (bit_and flags 224) 0 e)

pub some_reserved : (flags : ℕ) → flags < 256 → (bit_and flags 224 ≡ 0 → ⊥) → flags / 32 ≡ 0 → ⊥
some_reserved flags small other e =
    other (eqb-true (bit_and flags 224) 0 (agree_below_at (λ n. eqb (bit_and n 224) 0) (λ n. eqb (n / 32) 0) 256 flags refl small ∙ eq-eqb (flags / 32) 0 e))

-- ---- a decoder's steps

-- bytes that stay are none that were decoded
pub kept_decoded : (old new : Output) → new.bytes ≡ old.bytes → new.filled ≡ old.filled → decoded old new ≡ []
kept_decoded old new bytes filled =
    ap (λ v. drop old.filled (take new.filled v.items)) bytes ∙ ap (λ (n : ℕ). drop old.filled (take n old.bytes.items)) filled ∙ none_decoded old

pub starts : (old new : Decoder) (flags : ℕ) (more : List ℕ) → header_at (held old.input ++ more) ≡ flagged_fields flags new.header_register (held new.input ++ more) → new.flags ≡ flags →
    decoded old.output new.output ≡ [] → to_come old Member more ≡ add_before (decoded old.output new.output) (to_come new ExtraLength more)
starts old new flags more header is none =
    member_is (place_of old) (held old.input ++ more)
    ∙ ap (λ (read : Reading ℕ). unpack read data_behind) header
    ∙ ap (λ (n : ℕ). unpack (flagged_fields n new.header_register (held new.input ++ more)) data_behind) (sym is)
    ∙ sym (fields_are (place_of new) (held new.input ++ more))
    ∙ ap (λ (l : List ℕ). add_before l (to_come new ExtraLength more)) (sym none)

pub starts_not : (old new : Decoder) (flaw : Flaw) (more : List ℕ) → header_at (held old.input ++ more) ≡ Err flaw → decoded old.output new.output ≡ [] →
    to_come old Member more ≡ record { bytes = decoded old.output new.output; ending = Err flaw }
starts_not old new flaw more header none =
    member_is (place_of old) (held old.input ++ more)
    ∙ ap (λ (read : Reading ℕ). unpack read data_behind) header
    ∙ ap (λ (l : List ℕ). record { bytes = l; ending = Err flaw }) (sym none)

-- the third byte was taken, or is another one
pub method_taken : (bits : List ℕ) (r s : ℕ) (rest next more : List ℕ) (new : Decoder) (result : Result Unit Flaw) → fixed_byte 0x1f Magic no_bytes bits ≡ Ok (r, rest) → fixed_byte 0x8b Magic r rest ≡ Ok (s, next) →
    TakesField result new more (fixed_byte 8 Method s next) → TakesMethod result new more (header_at bits)
method_taken bits r s rest next more new (Ok x) e f g = flags_come bits r s new.header_register rest next (held new.input ++ more) e f g
method_taken bits r s rest next more new (Err flaw) e f g = no_method bits r s rest next flaw e f g
