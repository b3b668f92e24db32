-- The fields of a member's header, one byte after the other, and what is to come after each.
use Rattle.std.proofs.Common.{◌≡◌, ℕ, ◌+◌, ◌*◌, ◌/◌, ◌%◌, ◌^◌, ◌<◌, ◌≤◌, zero, suc, Bool, true, false, cond, eqb, ltb, ◌==◌, List, [], ◌∷◌, ◌++◌, length, take, drop, Ok, Err, refl, sym, ◌∙◌, ap, arith, inl, inr}
use Rattle.std.specs.Int.Bits.{bit_and}
use Rattle.std.proofs.lemmas.Nat.Bits.{and_pow}
use Rattle.std.proofs.lemmas.Bool.{cases_Bool, cases_eq, cond-true, cond-false, eq-eqb, ltb-false, ne_eqb}
use Rattle.std.proofs.lemmas.List.{drop_all, length-drop, length-take-le}
use Rattle.gzip_reader.specs.BitFields.{Reading, ◌>>=◌, number_at, number_of}
use Rattle.gzip_reader.specs.Bits.{held}
use Rattle.gzip_reader.specs.Blocks.{Unpacked, add_before, blocks, nothing, unpack}
use Rattle.gzip_reader.specs.Crc.{crc, crc_value}
use Rattle.gzip_reader.specs.Files.{check_field, data_of, extra_field, flagged_fields, if_flag, no_bytes, skip_bytes, skip_text, text_field}
use Rattle.gzip_reader.specs.Places.{IsFresh, ReadsHeader, place_of, to_come, unchecked}
use Rattle.gzip_reader.specs.Rest.{Place, and_others, and_trailer, data_behind, rest_of}
use Rattle.gzip_reader.specs.Made.{lengths_of}
use Rattle.gzip_reader.specs.Codes.{codes_of}
use Rattle.gzip_reader.specs.Steps.{decoded, window}
use Rattle.gzip_reader.specs.declared.decoder.Decoder.{Decoder}
use Rattle.gzip_reader.specs.declared.decoder.Phase.{Phase}
use Rattle.gzip_reader.specs.declared.decoder.Phase.TheVariants.{BlockHeader, Comment, Extra, ExtraLength, HeaderCheck as CheckPhase, Name}
use Rattle.gzip_reader.specs.declared.fault.Flaw.{Flaw}
use Rattle.gzip_reader.specs.declared.fault.Flaw.TheVariants.{HeaderCheck, Truncated}
use Rattle.gzip_reader.specs.declared.output.Output.{Output}
use Rattle.gzip_reader.proofs.BlockLaws.{same_read}
use Rattle.gzip_reader.proofs.PlaceLaws.{none_decoded, same_place}
use Rattle.gzip_reader.proofs.StepLaws.{held_size}

-- ---- steps

-- no data is to come where the device is at its end
pub ends_here : (b : Bool) (w k : ℕ) (more : List ℕ) → (b ≡ true → more ≡ []) → (b ≡ false → k ≤ w) → w < k → more ≡ []
ends_here true w k more none enough short = none refl
ends_here false w k more none enough short = absurd (omega (arith, enough refl))

-- the place with another register of the header
abbrev pub with_header : ℕ → Place → Place
with_header register at = record at { header_register = register }

pub same_decoded : (old new : Output) → new ≡ old → decoded old new ≡ []
same_decoded old new e = ap (decoded old) e ∙ none_decoded old

reads_place : (old new : Decoder) (register : ℕ) → ReadsHeader old new → new.header_register ≡ register → place_of new ≡ with_header register (place_of old)
reads_place old new register reads is =
    same_place (place_of new) (with_header register (place_of old)) reads.flags is
    (ap (λ (r : ℕ). crc r (unchecked new.output)) reads.register ∙ ap (λ (o : Output). crc old.register (unchecked o)) reads.output)
    (ap (λ (n : ℕ). n + length (unchecked new.output)) reads.count ∙ ap (λ (o : Output). old.count + length (unchecked o)) reads.output)
    (ap window reads.output) reads.is_last (ap (λ h. codes_of (lengths_of h)) reads.literals) (ap (λ h. codes_of (lengths_of h)) reads.distances)

pub reads_twice : (a b d : Decoder) → ReadsHeader a b → ReadsHeader b d → ReadsHeader a d
reads_twice a b d first second = record {
  output = second.output ∙ first.output;
  flags = second.flags ∙ first.flags;
  register = second.register ∙ first.register;
  count = second.count ∙ first.count;
  is_last = second.is_last ∙ first.is_last;
  literals = second.literals ∙ first.literals;
  distances = second.distances ∙ first.distances;
  is_fixed = second.is_fixed ∙ first.is_fixed;
  end = second.end ∙ first.end;
}

pub header_step : (old new : Decoder) (from to : Phase) (more : List ℕ) (register : ℕ) → ReadsHeader old new → new.header_register ≡ register →
    rest_of (place_of old) from (held old.input ++ more) ≡ rest_of (with_header register (place_of old)) to (held new.input ++ more) →
    to_come old from more ≡ add_before (decoded old.output new.output) (to_come new to more)
header_step old new from to more register reads is step =
    step
    ∙ ap (λ (at : Place). rest_of at to (held new.input ++ more)) (sym (reads_place old new register reads is))
    ∙ ap (λ (l : List ℕ). add_before l (to_come new to more)) (sym (same_decoded old.output new.output reads.output))

pub header_flaw : (old new : Decoder) (from : Phase) (more : List ℕ) (flaw : Flaw) → new.output ≡ old.output → rest_of (place_of old) from (held old.input ++ more) ≡ nothing (Err flaw) →
    to_come old from more ≡ record { bytes = decoded old.output new.output; ending = Err flaw }
header_flaw old new from more flaw same step = step ∙ ap (λ (l : List ℕ). record { bytes = l; ending = Err flaw }) (sym (same_decoded old.output new.output same))

-- ---- flags

pub off_two : (flags : ℕ) → bit_and flags 2 ≡ 0 → flags / 2 % 2 ≡ 0
off_two flags e = let a : bit_and flags 2 ≡ flags / 2 % 2 * 2 = and_pow flags 1 in omega arith

pub on_two : (flags : ℕ) → (bit_and flags 2 ≡ 0 → ⊥) → flags / 2 % 2 ≡ 1
on_two flags e = let a : bit_and flags 2 ≡ flags / 2 % 2 * 2 = and_pow flags 1 in omega (arith, e)

pub off_four : (flags : ℕ) → bit_and flags 4 ≡ 0 → flags / 4 % 2 ≡ 0
off_four flags e = let a : bit_and flags 4 ≡ flags / 4 % 2 * 4 = and_pow flags 2 in omega arith

pub on_four : (flags : ℕ) → (bit_and flags 4 ≡ 0 → ⊥) → flags / 4 % 2 ≡ 1
on_four flags e = let a : bit_and flags 4 ≡ flags / 4 % 2 * 4 = and_pow flags 2 in omega (arith, e)

pub off_eight : (flags : ℕ) → bit_and flags 8 ≡ 0 → flags / 8 % 2 ≡ 0
off_eight flags e = let a : bit_and flags 8 ≡ flags / 8 % 2 * 8 = and_pow flags 3 in omega arith

pub on_eight : (flags : ℕ) → (bit_and flags 8 ≡ 0 → ⊥) → flags / 8 % 2 ≡ 1
on_eight flags e = let a : bit_and flags 8 ≡ flags / 8 % 2 * 8 = and_pow flags 3 in omega (arith, e)

pub off_sixteen : (flags : ℕ) → bit_and flags 16 ≡ 0 → flags / 16 % 2 ≡ 0
off_sixteen flags e = let a : bit_and flags 16 ≡ flags / 16 % 2 * 16 = and_pow flags 4 in omega arith

pub on_sixteen : (flags : ℕ) → (bit_and flags 16 ≡ 0 → ⊥) → flags / 16 % 2 ≡ 1
on_sixteen flags e = let a : bit_and flags 16 ≡ flags / 16 % 2 * 16 = and_pow flags 4 in omega (arith, e)

module _ (flags value : ℕ) (field : ℕ → List ℕ → Reading ℕ) (register : ℕ) (bits : List ℕ) where
  pub if_off : flags / value % 2 ≡ 0 → if_flag flags value field register bits ≡ Ok (register, bits)
  if_off off = cond-false {A = Reading ℕ} _ (field register bits) (Ok (register, bits)) (ne_eqb _ 1 (λ e. omega arith))

  pub if_on : flags / value % 2 ≡ 1 → if_flag flags value field register bits ≡ field register bits
  if_on on = cond-true {A = Reading ℕ} _ (field register bits) (Ok (register, bits)) (eq-eqb _ 1 on)

-- ---- fields of text

-- a number of k bits takes them
pub number_takes : (k x : ℕ) (bits rest : List ℕ) → number_at k bits ≡ Ok (x, rest) → length rest + k ≡ length bits
unfolding number_at
number_takes k x bits rest e = elim (cases_Bool (ltb (length bits) k)) [
  | inl short ↦ absurd (let q = sym (cond-true {A = Reading ℕ} _ _ (Ok (number_of (take k bits), drop k bits)) short) ∙ e in cc)
  | inr long ↦
      let q : ◌≡◌ {A = ℕ × List ℕ} (number_of (take k bits), drop k bits) (x, rest) = same_read (sym (cond-false {A = Reading ℕ} _ (Err Truncated) _ long) ∙ e) in
      let r : drop k bits ≡ rest = ap (λ (p : ℕ × List ℕ). p.1) q in
      omega (arith, ap length r, length-drop k bits, ltb-false _ _ long)
]

skip_flaw : (most register : ℕ) (bits : List ℕ) (flaw : Flaw) → number_at 8 bits ≡ Err flaw → skip_text (suc most) register bits ≡ Err flaw
unfolding skip_text
skip_flaw most register bits flaw e = rw (e, skip_text) refl

skip_end : (most register : ℕ) (bits rest : List ℕ) → number_at 8 bits ≡ Ok (0, rest) → skip_text (suc most) register bits ≡ Ok (crc register (0 ∷ []), rest)
unfolding skip_text
skip_end most register bits rest e = rw (e, skip_text) refl

skip_on : (most register byte : ℕ) (bits rest : List ℕ) → number_at 8 bits ≡ Ok (byte, rest) → (byte ≡ 0 → ⊥) → skip_text (suc most) register bits ≡ skip_text most (crc register (byte ∷ [])) rest
unfolding skip_text
skip_on most register byte bits rest e some =
    let off : eqb byte 0 ≡ false = ne_eqb byte 0 some in
    let step : skip_text (suc most) register bits ≡ elim (byte == 0) [
      | true ↦ Ok (crc register (byte ∷ []), rest)
      | false ↦ skip_text most (crc register (byte ∷ [])) rest
    ] = rw e refl in
    step ∙ rw off refl

text_by : (most more register : ℕ) (bits : List ℕ) → ((r : ℕ) (rest : List ℕ) → length rest < length bits → skip_text most r rest ≡ skip_text more r rest) → (read : Reading ℕ) → number_at 8 bits ≡ read →
    skip_text (suc most) register bits ≡ skip_text (suc more) register bits
text_by most more register bits same (Err flaw) e = skip_flaw most register bits flaw e ∙ sym (skip_flaw more register bits flaw e)
text_by most more register bits same (Ok (byte, rest)) e = elim (cases_eq byte 0) [
  | inl z ↦
      let f : number_at 8 bits ≡ Ok (0, rest) = e ∙ ap (λ (n : ℕ). Ok (n, rest)) z in
      skip_end most register bits rest f ∙ sym (skip_end more register bits rest f)
  | inr some ↦
      skip_on most register byte bits rest e some ∙ same (crc register (byte ∷ [])) rest (omega (arith, number_takes 8 byte bits rest e)) ∙ sym (skip_on more register byte bits rest e some)
]

text_steps : (most more register : ℕ) (bits : List ℕ) → length bits < most → length bits < more → skip_text most register bits ≡ skip_text more register bits
text_steps zero more register bits a b = absurd (omega arith)
text_steps (suc most) zero register bits a b = absurd (omega arith)
text_steps (suc most) (suc more) register bits a b =
    text_by most more register bits (λ r rest shorter. text_steps most more r rest (omega arith) (omega arith)) (number_at 8 bits) refl

module _ (register : ℕ) (bits : List ℕ) where
  pub text_flaw : (flaw : Flaw) → number_at 8 bits ≡ Err flaw → text_field register bits ≡ Err flaw
  unfolding text_field
  text_flaw flaw e = skip_flaw (length bits) register bits flaw e

  pub text_end : (rest : List ℕ) → number_at 8 bits ≡ Ok (0, rest) → text_field register bits ≡ Ok (crc register (0 ∷ []), rest)
  unfolding text_field
  text_end rest e = skip_end (length bits) register bits rest e

  pub text_on : (byte : ℕ) (rest : List ℕ) → number_at 8 bits ≡ Ok (byte, rest) → (byte ≡ 0 → ⊥) → text_field register bits ≡ text_field (crc register (byte ∷ [])) rest
  unfolding text_field
  text_on byte rest e some =
      skip_on (length bits) register byte bits rest e some ∙ text_steps (length bits) (suc (length rest)) (crc register (byte ∷ [])) rest (omega (arith, number_takes 8 byte bits rest e)) (omega arith)

-- ---- fields one after the other

-- what is to come behind a field that was read
abbrev after_comment : Place → Reading ℕ → Unpacked
after_comment at read = unpack (read >>= λ r. if_flag at.flags 2 check_field r.0 r.1) data_behind

abbrev after_name : Place → Reading ℕ → Unpacked
after_name at read = unpack (read >>= λ r. if_flag at.flags 16 text_field r.0 r.1 >>= λ r. if_flag at.flags 2 check_field r.0 r.1) data_behind

abbrev after_extra : Place → Reading ℕ → Unpacked
after_extra at read = unpack (read >>= λ r. if_flag at.flags 8 text_field r.0 r.1 >>= λ r. if_flag at.flags 16 text_field r.0 r.1 >>= λ r. if_flag at.flags 2 check_field r.0 r.1) data_behind

module _ (at : Place) (bits : List ℕ) where
  pub comment_off : at.flags / 16 % 2 ≡ 0 → rest_of at Comment bits ≡ rest_of (with_header at.header_register at) CheckPhase bits
  unfolding rest_of
  comment_off off = ap (after_comment at) (if_off at.flags 16 text_field at.header_register bits off)

  pub comment_flaw : (flaw : Flaw) → at.flags / 16 % 2 ≡ 1 → number_at 8 bits ≡ Err flaw → rest_of at Comment bits ≡ nothing (Err flaw)
  unfolding rest_of
  comment_flaw flaw on e = ap (after_comment at) (if_on at.flags 16 text_field at.header_register bits on ∙ text_flaw at.header_register bits flaw e)

  pub comment_end : (rest : List ℕ) → at.flags / 16 % 2 ≡ 1 → number_at 8 bits ≡ Ok (0, rest) → rest_of at Comment bits ≡ rest_of (with_header (crc at.header_register (0 ∷ [])) at) CheckPhase rest
  unfolding rest_of
  comment_end rest on e = ap (after_comment at) (if_on at.flags 16 text_field at.header_register bits on ∙ text_end at.header_register bits rest e)

  pub comment_on : (byte : ℕ) (rest : List ℕ) → at.flags / 16 % 2 ≡ 1 → number_at 8 bits ≡ Ok (byte, rest) → (byte ≡ 0 → ⊥) →
      rest_of at Comment bits ≡ rest_of (with_header (crc at.header_register (byte ∷ [])) at) Comment rest
  unfolding rest_of
  comment_on byte rest on e some =
      ap (after_comment at) (if_on at.flags 16 text_field at.header_register bits on ∙ text_on at.header_register bits byte rest e some
      ∙ sym (if_on at.flags 16 text_field (crc at.header_register (byte ∷ [])) rest on))

  pub name_off : at.flags / 8 % 2 ≡ 0 → rest_of at Name bits ≡ rest_of (with_header at.header_register at) Comment bits
  unfolding rest_of
  name_off off = ap (after_name at) (if_off at.flags 8 text_field at.header_register bits off)

  pub name_flaw : (flaw : Flaw) → at.flags / 8 % 2 ≡ 1 → number_at 8 bits ≡ Err flaw → rest_of at Name bits ≡ nothing (Err flaw)
  unfolding rest_of
  name_flaw flaw on e = ap (after_name at) (if_on at.flags 8 text_field at.header_register bits on ∙ text_flaw at.header_register bits flaw e)

  pub name_end : (rest : List ℕ) → at.flags / 8 % 2 ≡ 1 → number_at 8 bits ≡ Ok (0, rest) → rest_of at Name bits ≡ rest_of (with_header (crc at.header_register (0 ∷ [])) at) Comment rest
  unfolding rest_of
  name_end rest on e = ap (after_name at) (if_on at.flags 8 text_field at.header_register bits on ∙ text_end at.header_register bits rest e)

  pub name_on : (byte : ℕ) (rest : List ℕ) → at.flags / 8 % 2 ≡ 1 → number_at 8 bits ≡ Ok (byte, rest) → (byte ≡ 0 → ⊥) →
      rest_of at Name bits ≡ rest_of (with_header (crc at.header_register (byte ∷ [])) at) Name rest
  unfolding rest_of
  name_on byte rest on e some =
      ap (after_name at) (if_on at.flags 8 text_field at.header_register bits on ∙ text_on at.header_register bits byte rest e some
      ∙ sym (if_on at.flags 8 text_field (crc at.header_register (byte ∷ [])) rest on))

  pub extra_none : rest_of at (Extra 0) bits ≡ rest_of (with_header at.header_register at) Name bits
  unfolding rest_of skip_bytes
  extra_none = refl

  pub extra_flaw : (n : ℕ) (flaw : Flaw) → number_at 8 bits ≡ Err flaw → rest_of at (Extra (suc n)) bits ≡ nothing (Err flaw)
  unfolding rest_of skip_bytes
  extra_flaw n flaw e = ap (λ (read : Reading ℕ). after_extra at (read >>= λ byte. skip_bytes n (crc at.header_register (byte.0 ∷ [])) byte.1)) e

  pub extra_on : (n byte : ℕ) (rest : List ℕ) → number_at 8 bits ≡ Ok (byte, rest) → rest_of at (Extra (suc n)) bits ≡ rest_of (with_header (crc at.header_register (byte ∷ [])) at) (Extra n) rest
  unfolding rest_of skip_bytes
  extra_on n byte rest e = ap (λ (read : Reading ℕ). after_extra at (read >>= λ byte. skip_bytes n (crc at.header_register (byte.0 ∷ [])) byte.1)) e

  pub length_off : at.flags / 4 % 2 ≡ 0 → rest_of at ExtraLength bits ≡ rest_of (with_header at.header_register at) Name bits
  unfolding rest_of flagged_fields
  length_off off = ap (after_extra at) (if_off at.flags 4 extra_field at.header_register bits off)

  pub length_flaw : (flaw : Flaw) → at.flags / 4 % 2 ≡ 1 → number_at 8 bits ≡ Err flaw → rest_of at ExtraLength bits ≡ nothing (Err flaw)
  unfolding rest_of flagged_fields extra_field
  length_flaw flaw on e =
      ap (after_extra at) (if_on at.flags 4 extra_field at.header_register bits on)
      ∙ ap (λ (read : Reading ℕ). after_extra at (read >>= λ low. number_at 8 low.1 >>= λ high. skip_bytes (low.0 + 256 * high.0) (crc (crc at.header_register (low.0 ∷ [])) (high.0 ∷ [])) high.1)) e

  pub length_flaw_high : (low : ℕ) (rest : List ℕ) (flaw : Flaw) → at.flags / 4 % 2 ≡ 1 → number_at 8 bits ≡ Ok (low, rest) → number_at 8 rest ≡ Err flaw → rest_of at ExtraLength bits ≡ nothing (Err flaw)
  unfolding rest_of flagged_fields extra_field
  length_flaw_high low rest flaw on e f =
      ap (after_extra at) (if_on at.flags 4 extra_field at.header_register bits on)
      ∙ ap (λ (read : Reading ℕ). after_extra at (read >>= λ low. number_at 8 low.1 >>= λ high. skip_bytes (low.0 + 256 * high.0) (crc (crc at.header_register (low.0 ∷ [])) (high.0 ∷ [])) high.1)) e
      ∙ ap (λ (read : Reading ℕ). after_extra at (read >>= λ high. skip_bytes (low + 256 * high.0) (crc (crc at.header_register (low ∷ [])) (high.0 ∷ [])) high.1)) f

  pub length_on : (low high : ℕ) (rest more : List ℕ) → at.flags / 4 % 2 ≡ 1 → number_at 8 bits ≡ Ok (low, rest) → number_at 8 rest ≡ Ok (high, more) →
      rest_of at ExtraLength bits ≡ rest_of (with_header (crc (crc at.header_register (low ∷ [])) (high ∷ [])) at) (Extra (low + 256 * high)) more
  unfolding rest_of flagged_fields extra_field
  length_on low high rest more on e f =
      ap (after_extra at) (if_on at.flags 4 extra_field at.header_register bits on)
      ∙ ap (λ (read : Reading ℕ). after_extra at (read >>= λ low. number_at 8 low.1 >>= λ high. skip_bytes (low.0 + 256 * high.0) (crc (crc at.header_register (low.0 ∷ [])) (high.0 ∷ [])) high.1)) e
      ∙ ap (λ (read : Reading ℕ). after_extra at (read >>= λ high. skip_bytes (low + 256 * high.0) (crc (crc at.header_register (low ∷ [])) (high.0 ∷ [])) high.1)) f

-- ---- the end of the header

-- before the first byte of the data
fresh_place : (d : Decoder) → IsFresh d → ((place_of d).register ≡ no_bytes) × ((place_of d).size ≡ 0) × ((place_of d).before ≡ [])
unfolding crc
fresh_place d fresh =
    let size = length-take-le d.output.filled d.output.bytes.items (held_size d.output) in
    let none : unchecked d.output ≡ [] = drop_all d.output.checked (take d.output.filled d.output.bytes.items) (omega (arith, size, fresh.checked)) in (
      ap (crc d.register) none ∙ fresh.register,
      omega (arith, fresh.count, ap length none),
      drop_all d.output.floor (take d.output.filled d.output.bytes.items) (omega (arith, size, fresh.floor)),
    )

data_here : (at : Place) (register : ℕ) (bits : List ℕ) → at.register ≡ no_bytes → at.size ≡ 0 → at.before ≡ [] → data_behind register bits ≡ rest_of at BlockHeader bits
unfolding rest_of data_of
data_here at register bits is none before =
    ap (λ (l : List ℕ). and_others (and_trailer no_bytes 0 (blocks l bits))) (sym before)
    ∙ ap (λ (n : ℕ). and_others (and_trailer no_bytes n (blocks at.before bits))) (sym none)
    ∙ ap (λ (n : ℕ). and_others (and_trailer n at.size (blocks at.before bits))) (sym is)

module _ (d : Decoder) (fresh : IsFresh d) (bits : List ℕ) where
  pub check_off : d.flags / 2 % 2 ≡ 0 → rest_of (place_of d) CheckPhase bits ≡ rest_of (with_header d.header_register (place_of d)) BlockHeader bits
  unfolding rest_of
  check_off off =
      let f = fresh_place d fresh in
      ap (λ (read : Reading ℕ). unpack read data_behind) (if_off d.flags 2 check_field d.header_register bits off)
      ∙ data_here (with_header d.header_register (place_of d)) d.header_register bits f.0 f.1 f.2

  checked : (read : Reading ℕ) → number_at 16 bits ≡ read → d.flags / 2 % 2 ≡ 1 →
      rest_of (place_of d) CheckPhase bits
      ≡ unpack (read >>= λ check. cond (eqb check.0 (crc_value d.header_register % 2 ^ 16)) (Ok (d.header_register, check.1)) (Err HeaderCheck)) data_behind
  unfolding rest_of check_field
  checked read e on =
      ap (λ (read : Reading ℕ). unpack read data_behind) (if_on d.flags 2 check_field d.header_register bits on)
      ∙ ap (λ (read : Reading ℕ). unpack (read >>= λ check. cond (eqb check.0 (crc_value d.header_register % 2 ^ 16)) (Ok (d.header_register, check.1)) (Err HeaderCheck)) data_behind) e

  pub check_flaw : (flaw : Flaw) → d.flags / 2 % 2 ≡ 1 → number_at 16 bits ≡ Err flaw → rest_of (place_of d) CheckPhase bits ≡ nothing (Err flaw)
  check_flaw flaw on e = checked (Err flaw) e on

  pub check_right : (check : ℕ) (rest : List ℕ) → d.flags / 2 % 2 ≡ 1 → number_at 16 bits ≡ Ok (check, rest) → check ≡ crc_value d.header_register % 2 ^ 16 →
      rest_of (place_of d) CheckPhase bits ≡ rest_of (with_header d.header_register (place_of d)) BlockHeader rest
  check_right check rest on e is =
      let f = fresh_place d fresh in
      checked (Ok (check, rest)) e on
      ∙ ap (λ (b : Bool). unpack (cond {A = Reading ℕ} b (Ok (d.header_register, rest)) (Err HeaderCheck)) data_behind) (eq-eqb _ _ is)
      ∙ data_here (with_header d.header_register (place_of d)) d.header_register rest f.0 f.1 f.2

  pub check_wrong : (check : ℕ) (rest : List ℕ) → d.flags / 2 % 2 ≡ 1 → number_at 16 bits ≡ Ok (check, rest) → (check ≡ crc_value d.header_register % 2 ^ 16 → ⊥) →
      rest_of (place_of d) CheckPhase bits ≡ nothing (Err HeaderCheck)
  check_wrong check rest on e is =
      checked (Ok (check, rest)) e on
      ∙ ap (λ (b : Bool). unpack (cond {A = Reading ℕ} b (Ok (d.header_register, rest)) (Err HeaderCheck)) data_behind) (ne_eqb _ _ is)
