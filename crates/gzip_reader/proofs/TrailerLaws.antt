-- The trailer of a member, and what is to come after it.
use Rattle.std.proofs.Common.{◌≡◌, ◌≢◌, ℕ, ◌+◌, ◌-◌, ◌/◌, ◌%◌, ◌^◌, ◌<◌, Bool, not, cond, eqb, ◌⊎◌, List, [], ◌++◌, length, take, drop, Ok, Err, Result, refl, sym, ◌∙◌, ap, arith, inl, inr}
use Rattle.std.specs.Prelude.{IfOk, OnErr}
use Rattle.std.proofs.Math.Nat.{mod-eq_of_lt}
use Rattle.std.proofs.lemmas.Bool.{eq-eqb, ne_eqb}
use Rattle.std.proofs.lemmas.List.{drop_all, drop-append-le, length-append, length-take-le}
use Rattle.gzip_reader.specs.BitFields.{Reading, ◌>>=◌, bits_of_number, next_byte, number_at}
use Rattle.gzip_reader.specs.Bits.{bits_left, held, unread}
use Rattle.gzip_reader.specs.Blocks.{add_before, followed_by, nothing}
use Rattle.gzip_reader.specs.Crc.{crc, crc_value}
use Rattle.gzip_reader.specs.Files.{others, trailer_at}
use Rattle.gzip_reader.specs.Members.{IsAccounted}
use Rattle.gzip_reader.specs.Places.{Advances, place_of, to_come, unchecked}
use Rattle.gzip_reader.specs.Rest.{Place, rest_of}
use Rattle.gzip_reader.specs.declared.bit_reader.BitReader.{BitReader}
use Rattle.gzip_reader.specs.declared.decoder.Decoder.{Decoder}
use Rattle.gzip_reader.specs.declared.decoder.Phase.{Phase}
use Rattle.gzip_reader.specs.declared.decoder.Phase.TheVariants.{BetweenMembers, Trailer}
use Rattle.gzip_reader.specs.declared.decoder.Step.{Step}
use Rattle.gzip_reader.specs.declared.decoder.Step.TheVariants.{To, Pause}
use Rattle.gzip_reader.specs.declared.fault.Flaw.{Flaw}
use Rattle.gzip_reader.specs.declared.fault.Flaw.TheVariants.{Checksum, Length, Truncated}
use Rattle.gzip_reader.proofs.FieldLaws.{drop_bits, length_bits}
use Rattle.gzip_reader.proofs.HeaderLaws.{header_flaw, same_decoded}
use Rattle.gzip_reader.proofs.StepLaws.{held_size}

-- what is left of a byte is skipped
pub byte_next : (old new : BitReader) (more : List ℕ) → length more % 8 ≡ 0 → unread new ≡ unread old / 2 ^ (old.count % 8) → bits_left new + old.count % 8 ≡ bits_left old →
    next_byte (held old ++ more) ≡ held new ++ more
unfolding held
byte_next old new more whole rest size =
    let bits : List ℕ = bits_of_number (bits_left old) (unread old) in
    let k : ℕ = old.count % 8 in
    let left : length (bits ++ more) % 8 ≡ k = omega (arith, whole, length-append bits more, length_bits (bits_left old) (unread old)) in
    let less : bits_left new ≡ bits_left old - k = omega arith in
    ap (λ (n : ℕ). drop n (bits ++ more)) left
    ∙ drop-append-le k bits more (omega (arith, length_bits (bits_left old) (unread old)))
    ∙ ap (λ (l : List ℕ). l ++ more) (drop_bits k (bits_left old) (unread old) (omega arith) ∙ ap (λ (n : ℕ). bits_of_number n (unread old / 2 ^ k)) (sym less) ∙ ap (bits_of_number (bits_left new)) (sym rest))

-- ---- the fields

-- the fields behind the bits of a byte that is begun
abbrev fields_at : ℕ → ℕ → Reading ℕ → Result (List ℕ) Flaw
fields_at register size read =
    read >>= λ check. cond (not (eqb check.0 (crc_value register))) (Err Checksum) (number_at 32 check.1 >>= λ length. cond (not (eqb length.0 (size % 2 ^ 32))) (Err Length) (Ok length.1))

trailer_fields : (register size : ℕ) (bits : List ℕ) → trailer_at register size bits ≡ fields_at register size (number_at 32 (next_byte bits))
unfolding trailer_at
trailer_fields register size bits = refl

after_trailer : (at : Place) (bits : List ℕ) → rest_of at Trailer bits ≡ followed_by (nothing (trailer_at at.register (at.size + 0) bits)) others
unfolding rest_of crc
after_trailer at bits = refl

accounted_place : (d : Decoder) → IsAccounted d → ((place_of d).register ≡ d.register) × ((place_of d).size ≡ d.count)
unfolding crc
accounted_place d is =
    let size = length-take-le d.output.filled d.output.bytes.items (held_size d.output) in
    let none : unchecked d.output ≡ [] = drop_all d.output.checked (take d.output.filled d.output.bytes.items) (omega (arith, size, is)) in
    (ap (crc d.register) none, omega (arith, ap length none))

module _ (d : Decoder) (is : IsAccounted d) (small : d.count < 2 ^ 32) (bits behind : List ℕ) (aligned : next_byte bits ≡ behind) where
  trailer_is : rest_of (place_of d) Trailer bits ≡ followed_by (nothing (fields_at d.register d.count (number_at 32 behind))) others
  trailer_is =
      let p = accounted_place d is in
      let size : (place_of d).size + 0 ≡ d.count = omega (arith, p.1) in
      after_trailer (place_of d) bits
      ∙ ap (λ (r : Result (List ℕ) Flaw). followed_by (nothing r) others)
      (trailer_fields (place_of d).register ((place_of d).size + 0) bits
      ∙ ap (λ (n : ℕ). fields_at n ((place_of d).size + 0) (number_at 32 (next_byte bits))) p.0
      ∙ ap (λ (n : ℕ). fields_at d.register n (number_at 32 (next_byte bits))) size
      ∙ ap (λ (l : List ℕ). fields_at d.register d.count (number_at 32 l)) aligned)

  pub trailer_flaw : (flaw : Flaw) → number_at 32 behind ≡ Err flaw → rest_of (place_of d) Trailer bits ≡ nothing (Err flaw)
  trailer_flaw flaw e = trailer_is ∙ ap (λ (read : Reading ℕ). followed_by (nothing (fields_at d.register d.count read)) others) e

  checked_fields : (check : ℕ) (rest : List ℕ) → number_at 32 behind ≡ Ok (check, rest) →
      rest_of (place_of d) Trailer bits
      ≡ followed_by (nothing (cond (not (eqb check (crc_value d.register))) (Err Checksum) (number_at 32 rest >>= λ length. cond (not (eqb length.0 (d.count % 2 ^ 32))) (Err Length) (Ok length.1)))) others
  checked_fields check rest e = trailer_is ∙ ap (λ (read : Reading ℕ). followed_by (nothing (fields_at d.register d.count read)) others) e

  pub trailer_checksum : (check : ℕ) (rest : List ℕ) → number_at 32 behind ≡ Ok (check, rest) → check ≢ crc_value d.register → rest_of (place_of d) Trailer bits ≡ nothing (Err Checksum)
  trailer_checksum check rest e other =
      checked_fields check rest e
      ∙ ap (λ (b : Bool). followed_by (nothing (cond (not b) (Err Checksum) (number_at 32 rest >>= λ length. cond (not (eqb length.0 (d.count % 2 ^ 32))) (Err Length) (Ok length.1)))) others) (ne_eqb check (crc_value d.register) other)

  right_checksum : (check : ℕ) (rest : List ℕ) → number_at 32 behind ≡ Ok (check, rest) → check ≡ crc_value d.register → (read : Reading ℕ) → number_at 32 rest ≡ read →
      rest_of (place_of d) Trailer bits ≡ followed_by (nothing (read >>= λ length. cond (not (eqb length.0 (d.count % 2 ^ 32))) (Err Length) (Ok length.1))) others
  right_checksum check rest e same read f =
      checked_fields check rest e
      ∙ ap (λ (b : Bool). followed_by (nothing (cond (not b) (Err Checksum) (number_at 32 rest >>= λ length. cond (not (eqb length.0 (d.count % 2 ^ 32))) (Err Length) (Ok length.1)))) others) (eq-eqb check (crc_value d.register) same)
      ∙ ap (λ (read : Reading ℕ). followed_by (nothing (read >>= λ length. cond (not (eqb length.0 (d.count % 2 ^ 32))) (Err Length) (Ok length.1))) others) f

  pub trailer_short : (check : ℕ) (rest : List ℕ) (flaw : Flaw) → number_at 32 behind ≡ Ok (check, rest) → check ≡ crc_value d.register → number_at 32 rest ≡ Err flaw → rest_of (place_of d) Trailer bits ≡ nothing (Err flaw)
  trailer_short check rest flaw e same f = right_checksum check rest e same (Err flaw) f

  pub trailer_length : (check size : ℕ) (rest more : List ℕ) → number_at 32 behind ≡ Ok (check, rest) → check ≡ crc_value d.register → number_at 32 rest ≡ Ok (size, more) → size ≢ d.count →
      rest_of (place_of d) Trailer bits ≡ nothing (Err Length)
  trailer_length check size rest more e same f other =
      let whole : d.count % 2 ^ 32 ≡ d.count = mod-eq_of_lt small in
      right_checksum check rest e same (Ok (size, more)) f
      ∙ ap (λ (n : ℕ). followed_by (nothing (cond {A = Result (List ℕ) Flaw} (not (eqb size n)) (Err Length) (Ok more))) others) whole
      ∙ ap (λ (b : Bool). followed_by (nothing (cond {A = Result (List ℕ) Flaw} (not b) (Err Length) (Ok more))) others) (ne_eqb size d.count other)

  pub trailer_agrees : (check size : ℕ) (rest more : List ℕ) → number_at 32 behind ≡ Ok (check, rest) → check ≡ crc_value d.register → number_at 32 rest ≡ Ok (size, more) → size ≡ d.count →
      rest_of (place_of d) Trailer bits ≡ others more
  trailer_agrees check size rest more e same f is_size =
      let whole : d.count % 2 ^ 32 ≡ d.count = mod-eq_of_lt small in
      right_checksum check rest e same (Ok (size, more)) f
      ∙ ap (λ (n : ℕ). followed_by (nothing (cond {A = Result (List ℕ) Flaw} (not (eqb size n)) (Err Length) (Ok more))) others) whole
      ∙ ap (λ (b : Bool). followed_by (nothing (cond {A = Result (List ℕ) Flaw} (not b) (Err Length) (Ok more))) others) (eq-eqb size d.count is_size)

pub others_come : (at : Place) (bits : List ℕ) → rest_of at BetweenMembers bits ≡ others bits
unfolding rest_of
others_come at bits = refl

step_same : (a b : Phase) → ◌≡◌ {A = Step} (To a) (To b) → a ≡ b
step_same a b e = cc

flaw_same : (a b : Flaw) → ◌≡◌ {A = Result Step Flaw} (Err a) (Err b) → a ≡ b
flaw_same a b e = cc

-- the last field was read, behind a checksum that agrees
module _ (old mid new : Decoder) (is : IsAccounted old) (small : old.count < 2 ^ 32) (check : ℕ) (more behind : List ℕ) (aligned : next_byte (held old.input ++ more) ≡ behind)
    (read : number_at 32 behind ≡ Ok (check, held mid.input ++ more)) (agrees : check ≡ crc_value old.register) (count : mid.count ≡ old.count) (same : new.output ≡ old.output)
    (last : bits_left mid.input < 32 → more ≡ []) where
  pub trailer_ends : (result : Result Step Flaw) → IfOk result (λ step. step ≡ To BetweenMembers) →
      IfOk result (λ step. (more : List ℕ) → number_at 32 (held mid.input ++ more) ≡ Ok (mid.count, held new.input ++ more)) →
      (result ≡ Err Length → (size : ℕ) × (size ≢ mid.count) × ((more : List ℕ) → number_at 32 (held mid.input ++ more) ≡ Ok (size, held new.input ++ more))) →
      OnErr result ((result ≡ Err Length) ⊎ ((result ≡ Err Truncated) × (bits_left mid.input < 32) × (number_at 32 (held mid.input ++ []) ≡ Err Truncated))) → Advances old new Trailer more result
  trailer_ends (Ok Pause) to right wrong flaws = absurd (let e : ◌≡◌ {A = Step} Pause (To BetweenMembers) = to in cc)
  trailer_ends (Ok (To phase)) to right wrong flaws =
      trailer_agrees old is small (held old.input ++ more) behind aligned check old.count (held mid.input ++ more) (held new.input ++ more) read agrees (right more ∙ ap (λ (n : ℕ). Ok (n, held new.input ++ more)) count) refl
      ∙ sym (others_come (place_of new) (held new.input ++ more))
      ∙ ap (λ (p : Phase). rest_of (place_of new) p (held new.input ++ more)) (sym (step_same phase BetweenMembers to))
      ∙ ap (λ (l : List ℕ). add_before l (to_come new phase more)) (sym (same_decoded old.output new.output same))
  trailer_ends (Err flaw) to right wrong flaws = elim flaws [
    | inl length ↦
        let w = wrong length in
        header_flaw old new Trailer more flaw same
        (trailer_length old is small (held old.input ++ more) behind aligned check w.0 (held mid.input ++ more) (held new.input ++ more) read agrees (w.2 more) (λ e. w.1 (e ∙ sym count))
        ∙ ap (λ (f : Flaw). nothing (Err f)) (sym (flaw_same flaw Length length)))
    | inr short ↦
        header_flaw old new Trailer more flaw same
        (trailer_short old is small (held old.input ++ more) behind aligned check (held mid.input ++ more) flaw read agrees
        (ap (λ (l : List ℕ). number_at 32 (held mid.input ++ l)) (last short.1) ∙ short.2 ∙ ap (λ (f : Flaw). Err f) (sym (flaw_same flaw Truncated short.0))))
  ]
