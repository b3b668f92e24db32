-- What follows a member: each step takes a byte at least, so enough steps are enough.
use Rattle.std.proofs.Common.{◌≡◌, ℕ, ◌+◌, ◌/◌, ◌%◌, ◌^◌, ◌<◌, ◌≤◌, zero, suc, Bool, true, false, not, cond, eqb, ltb, ◌==◌, ◌⊎◌, List, [], ◌∷◌, ◌++◌, length, take, drop, Ok, Err, Result, refl, sym, ◌∙◌, ap, subst, arith, inl, inr}
use Rattle.std.proofs.Math.Nat.{mod-eq_of_lt}
use Rattle.std.proofs.lemmas.Bool.{cases_Bool, cases_lt, cond-true, cond-false, eq-eqb, ne_eqb}
use Rattle.std.proofs.lemmas.List.{append-nil, length-append, length-drop, take-append-le, take_all}
use Rattle.gzip_reader.specs.BitFields.{Reading, ◌>>=◌, bits_of_number, next_byte, number_at, number_of}
use Rattle.gzip_reader.specs.Bits.{bits_left, held, unread}
use Rattle.gzip_reader.specs.Blocks.{Unpacked, add_before, blocks, blocks_within, block_of, followed_by, nothing, unpack}
use Rattle.gzip_reader.specs.Crc.{crc, crc_value}
use Rattle.gzip_reader.specs.Files.{begins_member, check_field, data_of, extra_field, fixed_byte, flagged_fields, flags_at, header_at, if_flag, member, no_bytes, others, others_within, skip_bytes, skip_text, text_field, trailer_at}
use Rattle.gzip_reader.specs.declared.bit_reader.BitReader.{BitReader}
use Rattle.gzip_reader.specs.Places.{place_of, to_come}
use Rattle.gzip_reader.specs.Rest.{rest_of}
use Rattle.gzip_reader.specs.Steps.{decoded}
use Rattle.gzip_reader.specs.declared.decoder.Decoder.{Decoder}
use Rattle.gzip_reader.specs.declared.decoder.Phase.TheVariants.{BetweenMembers, Ended, Member as MemberPhase}
use Rattle.gzip_reader.specs.declared.fault.Flaw.{Flaw}
use Rattle.gzip_reader.specs.declared.fault.Flaw.TheVariants.{Checksum, Flags, HeaderCheck, Length, Magic, Method, Trailing, Truncated}
use Rattle.gzip_reader.proofs.BitLaws.{all_there, lowest_word}
use Rattle.gzip_reader.proofs.BlockLaws.{bind_ok, number_shorter, same_read}
use Rattle.gzip_reader.proofs.BlocksLaws.{LeavesAtMost, block_shorter, followed_by_same, leaves_less, left_within, unpack_leaves}
use Rattle.gzip_reader.proofs.KeptLaws.{guard_ok}
use Rattle.gzip_reader.proofs.FieldLaws.{length_bits, number_of_bits, take_bits}
use Rattle.gzip_reader.proofs.HeaderLaws.{number_takes, same_decoded}

-- ---- a header takes a byte at least

guard_then : {A : Type 0} (b : Bool) (flaw : Flaw) (y : Result A Flaw) (x : A) → cond b y (Err flaw) ≡ Ok x → y ≡ Ok x
guard_then true flaw y x e = e
guard_then false flaw y x e = absurd (let q : ◌≡◌ {A = Result _ Flaw} (Err flaw) (Ok x) = e in cc)

rest_same : (r s : ℕ) (x y : List ℕ) → ◌≡◌ {A = Reading ℕ} (Ok (r, x)) (Ok (s, y)) → x ≡ y
rest_same r s x y e = ap (λ (p : ℕ × List ℕ). p.1) (same_read e)

fixed_shorter : (value : ℕ) (flaw : Flaw) (register r : ℕ) (bits rest : List ℕ) → fixed_byte value flaw register bits ≡ Ok (r, rest) → length rest < length bits
unfolding fixed_byte
fixed_shorter value flaw register r bits rest e =
    let a = bind_ok (number_at 8 bits) _ (r, rest) e in
    let g = guard_then (eqb a.0.0 value) flaw (Ok (crc register (a.0.0 ∷ []), a.0.1)) (r, rest) a.2 in
    omega (arith, number_takes 8 a.0.0 bits a.0.1 a.1, ap length (rest_same _ r a.0.1 rest g))

skip_shorter : (n register r : ℕ) (bits rest : List ℕ) → skip_bytes n register bits ≡ Ok (r, rest) → length rest ≤ length bits
unfolding skip_bytes
skip_shorter zero register r bits rest e = omega (arith, ap length (rest_same register r bits rest e))
skip_shorter (suc n) register r bits rest e =
    let a = bind_ok (number_at 8 bits) (λ byte. skip_bytes n (crc register (byte.0 ∷ [])) byte.1) (r, rest) e in
    omega (arith, number_shorter 8 a.0.0 bits a.0.1 a.1, skip_shorter n (crc register (a.0.0 ∷ [])) r a.0.1 rest a.2)

text_shorter : (most register r : ℕ) (bits rest : List ℕ) → skip_text most register bits ≡ Ok (r, rest) → length rest ≤ length bits
unfolding skip_text
text_shorter zero register r bits rest e = absurd (let q : ◌≡◌ {A = Reading ℕ} (Err Truncated) (Ok (r, rest)) = e in cc)
text_shorter (suc most) register r bits rest e =
    let a = bind_ok (number_at 8 bits) _ (r, rest) e in
    let s = number_shorter 8 a.0.0 bits a.0.1 a.1 in
    elim (cases_Bool (eqb a.0.0 0)) [
      | inl t ↦
          let f : ◌≡◌ {A = Reading ℕ} (Ok (crc register (a.0.0 ∷ []), a.0.1)) (Ok (r, rest)) = rw t at a.2 in
          omega (arith, ap length (rest_same _ r a.0.1 rest f))
      | inr f ↦
          let g : skip_text most (crc register (a.0.0 ∷ [])) a.0.1 ≡ Ok (r, rest) = rw f at a.2 in
          omega (arith, text_shorter most (crc register (a.0.0 ∷ [])) r a.0.1 rest g)
    ]

flag_shorter : (flags value : ℕ) (field : ℕ → List ℕ → Reading ℕ) (register r : ℕ) (bits rest : List ℕ) → ((register r : ℕ) (bits rest : List ℕ) → field register bits ≡ Ok (r, rest) → length rest ≤ length bits) →
    if_flag flags value field register bits ≡ Ok (r, rest) → length rest ≤ length bits
flag_shorter flags value field register r bits rest less e = elim (cases_Bool (eqb (flags / value % 2) 1)) [
  | inl t ↦ less register r bits rest (sym (cond-true {A = Reading ℕ} _ (field register bits) (Ok (register, bits)) t) ∙ e)
  | inr f ↦
      let g : ◌≡◌ {A = Reading ℕ} (Ok (register, bits)) (Ok (r, rest)) = sym (cond-false {A = Reading ℕ} _ (field register bits) (Ok (register, bits)) f) ∙ e in
      omega (arith, ap length (rest_same register r bits rest g))
]

extra_shorter : (register r : ℕ) (bits rest : List ℕ) → extra_field register bits ≡ Ok (r, rest) → length rest ≤ length bits
unfolding extra_field
extra_shorter register r bits rest e =
    let a = bind_ok (number_at 8 bits) _ (r, rest) e in
    let b = bind_ok (number_at 8 a.0.1) _ (r, rest) a.2 in
    omega (arith, number_shorter 8 a.0.0 bits a.0.1 a.1, number_shorter 8 b.0.0 a.0.1 b.0.1 b.1, skip_shorter _ _ r b.0.1 rest b.2)

name_shorter : (register r : ℕ) (bits rest : List ℕ) → text_field register bits ≡ Ok (r, rest) → length rest ≤ length bits
unfolding text_field
name_shorter register r bits rest e = text_shorter (suc (length bits)) register r bits rest e

check_shorter : (register r : ℕ) (bits rest : List ℕ) → check_field register bits ≡ Ok (r, rest) → length rest ≤ length bits
unfolding check_field
check_shorter register r bits rest e =
    let a = bind_ok (number_at 16 bits) _ (r, rest) e in
    let g = guard_then (eqb a.0.0 (crc_value register % 2 ^ 16)) HeaderCheck (Ok (register, a.0.1)) (r, rest) a.2 in
    omega (arith, number_shorter 16 a.0.0 bits a.0.1 a.1, ap length (rest_same register r a.0.1 rest g))

fields_shorter : (flags register r : ℕ) (bits rest : List ℕ) → flagged_fields flags register bits ≡ Ok (r, rest) → length rest ≤ length bits
unfolding flagged_fields
fields_shorter flags register r bits rest e =
    let a = bind_ok (if_flag flags 4 extra_field register bits) _ (r, rest) e in
    let b = bind_ok (if_flag flags 8 text_field a.0.0 a.0.1) _ (r, rest) a.2 in
    let d = bind_ok (if_flag flags 16 text_field b.0.0 b.0.1) _ (r, rest) b.2 in
    omega (
      arith,
      flag_shorter flags 4 extra_field register a.0.0 bits a.0.1 extra_shorter a.1,
      flag_shorter flags 8 text_field a.0.0 b.0.0 a.0.1 b.0.1 name_shorter b.1,
      flag_shorter flags 16 text_field b.0.0 d.0.0 b.0.1 d.0.1 name_shorter d.1,
      flag_shorter flags 2 check_field d.0.0 r d.0.1 rest check_shorter d.2,
    )

flags_shorter : (register r : ℕ) (bits rest : List ℕ) → flags_at register bits ≡ Ok (r, rest) → length rest ≤ length bits
unfolding flags_at
flags_shorter register r bits rest e =
    let a = bind_ok (number_at 8 bits) _ (r, rest) e in
    let g = guard_ok (not (eqb (a.0.0 / 32) 0)) Flags (skip_bytes 6 (crc register (a.0.0 ∷ [])) a.0.1 >>= λ r. flagged_fields a.0.0 r.0 r.1) (r, rest) a.2 in
    let b = bind_ok (skip_bytes 6 (crc register (a.0.0 ∷ [])) a.0.1) (λ r. flagged_fields a.0.0 r.0 r.1) (r, rest) g in
    omega (arith, number_shorter 8 a.0.0 bits a.0.1 a.1, skip_shorter 6 _ b.0.0 a.0.1 b.0.1 b.1, fields_shorter a.0.0 b.0.0 r b.0.1 rest b.2)

header_shorter : (r : ℕ) (bits rest : List ℕ) → header_at bits ≡ Ok (r, rest) → length rest < length bits
unfolding header_at
header_shorter r bits rest e =
    let a = bind_ok (fixed_byte 0x1f Magic no_bytes bits) _ (r, rest) e in
    let b = bind_ok (fixed_byte 0x8b Magic a.0.0 a.0.1) _ (r, rest) a.2 in
    let d = bind_ok (fixed_byte 8 Method b.0.0 b.0.1) _ (r, rest) b.2 in
    omega (
      arith,
      fixed_shorter 0x1f Magic no_bytes a.0.0 bits a.0.1 a.1,
      fixed_shorter 0x8b Magic a.0.0 b.0.0 a.0.1 b.0.1 b.1,
      fixed_shorter 8 Method b.0.0 d.0.0 b.0.1 d.0.1 d.1,
      flags_shorter d.0.0 r d.0.1 rest d.2,
    )

-- ---- data and a trailer leave no more bits

followed_leaves : (n : ℕ) (bytes : List ℕ) (ending : Result (List ℕ) Flaw) (next : List ℕ → Unpacked) → ((rest : List ℕ) → ending ≡ Ok rest → LeavesAtMost n (next rest).ending) →
    LeavesAtMost n (followed_by (record { bytes = bytes; ending = ending }) next).ending
followed_leaves n bytes (Ok rest) next h = h rest refl
followed_leaves n bytes (Err flaw) next h = tt

blocks_leave : (most : ℕ) (before bits : List ℕ) → LeavesAtMost (length bits) (blocks_within most before bits).ending
unfolding blocks_within
blocks_leave zero before bits = tt
blocks_leave (suc most) before bits =
    unpack_leaves (length bits) (number_at 1 bits) _ (λ last rest e.
    unpack_leaves (length bits) (number_at 2 rest) _ (λ type data_bits f.
    let one = number_shorter 1 last bits rest e in
    let two = number_shorter 2 type rest data_bits f in
    followed_leaves (length bits) (block_of type before data_bits).bytes (block_of type before data_bits).ending _ (λ more g.
    let less = block_shorter type before data_bits more g in
    elim (cases_Bool (eqb last 1)) [
      | inl yes_last ↦ rw yes_last (omega arith)
      | inr not_last ↦ rw not_last (leaves_less (length more) (length bits) _ (omega arith) (blocks_leave most (before ++ (block_of type before data_bits).bytes) more))
    ])))

trailer_shorter : (register size : ℕ) (bits rest : List ℕ) → trailer_at register size bits ≡ Ok rest → length rest ≤ length bits
unfolding trailer_at
trailer_shorter register size bits rest e =
    let a = bind_ok (number_at 32 (next_byte bits)) _ rest e in
    let g = guard_ok (not (eqb a.0.0 (crc_value register))) Checksum (number_at 32 a.0.1 >>= λ length. cond (not (eqb length.0 (size % 2 ^ 32))) (Err Length) (Ok length.1)) rest a.2 in
    let b = bind_ok (number_at 32 a.0.1) (λ length. cond (not (eqb length.0 (size % 2 ^ 32))) (Err Length) (Ok length.1)) rest g in
    let h = guard_ok (not (eqb b.0.0 (size % 2 ^ 32))) Length (Ok b.0.1) rest b.2 in
    let same : b.0.1 ≡ rest = same_read h in
    omega (arith, length-drop (length bits % 8) bits, number_shorter 32 a.0.0 (next_byte bits) a.0.1 a.1, number_shorter 32 b.0.0 a.0.1 b.0.1 b.1, ap length same)

ending_leaves : (n : ℕ) (ending : Result (List ℕ) Flaw) → ((rest : List ℕ) → ending ≡ Ok rest → length rest ≤ n) → LeavesAtMost n ending
ending_leaves n (Ok rest) h = h rest refl
ending_leaves n (Err flaw) h = tt

trailer_leaves : (n register size : ℕ) (bits : List ℕ) → length bits ≤ n → LeavesAtMost n (trailer_at register size bits)
trailer_leaves n register size bits le = ending_leaves n (trailer_at register size bits) (λ rest e. omega (arith, trailer_shorter register size bits rest e))

data_leaves : (register size : ℕ) (before bits : List ℕ) → LeavesAtMost (length bits) (data_of register size before bits).ending
unfolding data_of
data_leaves register size before bits =
    followed_leaves (length bits) (blocks before bits).bytes (blocks before bits).ending _ (λ rest e.
    trailer_leaves (length bits) _ _ rest (left_within (length bits) (blocks before bits).ending rest (blocks_leave (suc (length bits)) before bits) e))

-- a member leaves fewer bits
member_less : (n : ℕ) (bits : List ℕ) (read : Reading ℕ) → header_at bits ≡ read → length bits ≤ suc n → LeavesAtMost n (unpack read λ register rest. data_of no_bytes 0 [] rest).ending
member_less n bits (Err flaw) e le = tt
member_less n bits (Ok r) e le = leaves_less (length r.1) n (data_of no_bytes 0 [] r.1).ending (omega (arith, header_shorter r.0 bits r.1 e)) (data_leaves no_bytes 0 [] r.1)

member_leaves : (n : ℕ) (bits : List ℕ) → length bits ≤ suc n → LeavesAtMost n (member bits).ending
unfolding member
member_leaves n bits le = member_less n bits (header_at bits) refl le

-- what comes of a byte
abbrev after_byte : Bool → Bool → ℕ → List ℕ → Unpacked
after_byte zeros begins most bits = elim zeros [
  | true ↦ others_within most (drop 8 bits)
  | false ↦ elim begins [
    | true ↦ followed_by (member bits) (others_within most)
    | false ↦ nothing (Err Trailing)
  ]
]

others_step : (most bit : ℕ) (bits : List ℕ) → others_within (suc most) (bit ∷ bits) ≡ after_byte (number_of (take 8 (bit ∷ bits)) == 0) (begins_member (bit ∷ bits)) most (bit ∷ bits)
unfolding others_within
others_step most bit bits = refl

after_zeros : (zeros begins : Bool) (most : ℕ) (bits : List ℕ) → zeros ≡ true → after_byte zeros begins most bits ≡ others_within most (drop 8 bits)
after_zeros zeros begins most bits e = ap (λ (b : Bool). after_byte b begins most bits) e

after_magic : (zeros begins : Bool) (most : ℕ) (bits : List ℕ) → zeros ≡ false → begins ≡ true → after_byte zeros begins most bits ≡ followed_by (member bits) (others_within most)
after_magic zeros begins most bits e f = ap (λ (b : Bool). after_byte b begins most bits) e ∙ ap (λ (b : Bool). after_byte false b most bits) f

after_other : (zeros begins : Bool) (most : ℕ) (bits : List ℕ) → zeros ≡ false → begins ≡ false → after_byte zeros begins most bits ≡ nothing (Err Trailing)
after_other zeros begins most bits e f = ap (λ (b : Bool). after_byte b begins most bits) e ∙ ap (λ (b : Bool). after_byte false b most bits) f

-- the number of steps makes no difference where it is enough
pub others_enough : (most more : ℕ) (bits : List ℕ) → length bits ≤ most → length bits ≤ more → others_within most bits ≡ others_within more bits
unfolding others_within
others_enough zero zero bits a b = refl
others_enough zero (suc more) [] a b = refl
others_enough zero (suc more) (bit ∷ bits) a b = absurd (omega arith)
others_enough (suc most) zero [] a b = refl
others_enough (suc most) zero (bit ∷ bits) a b = absurd (omega arith)
others_enough (suc most) (suc more) [] a b = refl
others_enough (suc most) (suc more) (bit ∷ bits) a b =
    let all : List ℕ = bit ∷ bits in
    others_step most bit bits
    ∙ elim (cases_Bool (eqb (number_of (take 8 all)) 0)) [
      | inl zeros ↦
          after_zeros _ _ most all zeros
          ∙ others_enough most more (drop 8 all) (omega (arith, length-drop 8 all)) (omega (arith, length-drop 8 all))
          ∙ sym (after_zeros (eqb (number_of (take 8 all)) 0) (begins_member all) more all zeros)
      | inr some ↦ elim (cases_Bool (begins_member all)) [
        | inl begins ↦
            after_magic _ _ most all some begins
            ∙ followed_by_same (member all).bytes (member all).ending _ _ (λ rest e. others_enough most more rest
            (left_within most (member all).ending rest (member_leaves most all a) e)
            (left_within more (member all).ending rest (member_leaves more all b) e))
            ∙ sym (after_magic (eqb (number_of (take 8 all)) 0) (begins_member all) more all some begins)
        | inr other ↦ after_other _ _ most all some other ∙ sym (after_other (eqb (number_of (take 8 all)) 0) (begins_member all) more all some other)
      ]
    ]
    ∙ sym (others_step more bit bits)

-- ---- one step on

number_parts : (k x : ℕ) (bits rest : List ℕ) → number_at k bits ≡ Ok (x, rest) → (number_of (take k bits) ≡ x) × (drop k bits ≡ rest)
unfolding number_at
number_parts k x bits rest e = elim (cases_Bool (ltb (length bits) k)) [
  | inl short ↦ absurd (let q = sym (cond-true {A = Reading ℕ} _ _ (Ok (number_of (take k bits), drop k bits)) short) ∙ e in cc)
  | inr long ↦
      let q : ◌≡◌ {A = ℕ × List ℕ} (number_of (take k bits), drop k bits) (x, rest) = same_read (sym (cond-false {A = Reading ℕ} _ (Err Truncated) _ long) ∙ e) in
      (ap (λ (p : ℕ × List ℕ). p.0) q, ap (λ (p : ℕ × List ℕ). p.1) q)
]

pub others_none : (bits : List ℕ) → bits ≡ [] → others bits ≡ nothing (Ok [])
unfolding others_within
others_none bits e = ap others e

zero_by : (bits : List ℕ) → 0 < length bits → number_of (take 8 bits) ≡ 0 → others bits ≡ others (drop 8 bits)
zero_by [] some e = absurd (omega arith)
zero_by (bit ∷ bits) some e =
    let all : List ℕ = bit ∷ bits in
    let less : length (drop 8 all) ≤ length bits = omega (arith, length-drop 8 all) in
    others_step (length bits) bit bits ∙ after_zeros _ _ (length bits) all (eq-eqb (number_of (take 8 all)) 0 e)
    ∙ others_enough (length bits) (length (drop 8 all)) (drop 8 all) less (omega arith)

-- a byte that is zero is passed over
pub others_zero : (bits rest : List ℕ) → number_at 8 bits ≡ Ok (0, rest) → others bits ≡ others rest
others_zero bits rest e =
    let p = number_parts 8 0 bits rest e in
    zero_by bits (omega (arith, number_takes 8 0 bits rest e)) p.0 ∙ ap others p.1

pub others_member : (bits : List ℕ) → 0 < length bits → (number_of (take 8 bits) ≡ 0 → ⊥) → begins_member bits ≡ true → others bits ≡ followed_by (member bits) others
others_member [] some more begins = absurd (omega arith)
others_member (bit ∷ bits) some more begins =
    let all : List ℕ = bit ∷ bits in
    let within : length all ≤ suc (length bits) = omega arith in
    others_step (length bits) bit bits ∙ after_magic _ _ (length bits) all (ne_eqb (number_of (take 8 all)) 0 more) begins
    ∙ followed_by_same (member all).bytes (member all).ending _ _ (λ rest e.
    let less : length rest ≤ length bits = left_within (length bits) (member all).ending rest (member_leaves (length bits) all within) e in
    others_enough (length bits) (length rest) rest less (omega arith))

pub others_other : (bits : List ℕ) → 0 < length bits → (number_of (take 8 bits) ≡ 0 → ⊥) → begins_member bits ≡ false → others bits ≡ nothing (Err Trailing)
others_other [] some more begins = absurd (omega arith)
others_other (bit ∷ bits) some more begins =
    let all : List ℕ = bit ∷ bits in
    others_step (length bits) bit bits ∙ after_other _ _ (length bits) all (ne_eqb (number_of (take 8 all)) 0 more) begins

-- ---- what the word of a reader tells

module _ (p : BitReader) (more : List ℕ) (whole : bits_left p % 8 ≡ 0) (some : 0 < p.count) (all : p.count ≤ 55 → p.next ≡ p.end) (last : bits_left p < 16 → more ≡ []) where
  size_is : length (bits_of_number (bits_left p) (unread p) ++ more) ≡ bits_left p + length more
  size_is = omega (arith, length-append (bits_of_number (bits_left p) (unread p)) more, length_bits (bits_left p) (unread p))

  pub first_byte : number_of (take 8 (bits_of_number (bits_left p) (unread p) ++ more)) ≡ p.bits % 2 ^ 8
  first_byte =
      ap number_of (take-append-le 8 (bits_of_number (bits_left p) (unread p)) more (omega (arith, length_bits (bits_left p) (unread p), whole, some)) ∙ take_bits 8 (bits_left p) (unread p) (omega (arith, whole, some)))
      ∙ number_of_bits 8 (unread p) ∙ sym (lowest_word p 8 (omega arith) all)

  first_two : 16 ≤ bits_left p → number_of (take 16 (bits_of_number (bits_left p) (unread p) ++ more)) ≡ p.bits % 2 ^ 16
  first_two long =
      ap number_of (take-append-le 16 (bits_of_number (bits_left p) (unread p)) more (omega (arith, length_bits (bits_left p) (unread p))) ∙ take_bits 16 (bits_left p) (unread p) long)
      ∙ number_of_bits 16 (unread p) ∙ sym (lowest_word p 16 (omega arith) all)

  -- the file has one byte more
  only_byte : bits_left p < 16 → (p.count ≡ 8) × (bits_left p ≡ 8) × (p.bits < 2 ^ 8) × (number_of (take 16 (bits_of_number (bits_left p) (unread p) ++ more)) ≡ p.bits)
  only_byte short =
      let eight : bits_left p ≡ 8 = omega (arith, whole, some) in
      let count : p.count ≡ 8 = omega (arith, eight, some, all) in
      let small : p.bits < 2 ^ 8 = subst (λ (n : ℕ). p.bits < 2 ^ n) count p.clean in
      let there : p.bits ≡ unread p = all_there p (all (omega arith)) in
      let none : bits_of_number (bits_left p) (unread p) ++ more ≡ bits_of_number 8 (unread p) =
      ap (λ (l : List ℕ). bits_of_number (bits_left p) (unread p) ++ l) (last short) ∙ append-nil _ ∙ ap (λ (n : ℕ). bits_of_number n (unread p)) eight in
      let low : unread p % 2 ^ 8 ≡ unread p = mod-eq_of_lt (subst (λ (n : ℕ). n < 2 ^ 8) there small) in
      (count, eight, small, ap (λ (l : List ℕ). number_of (take 16 l)) none ∙ ap number_of (take_all 16 (bits_of_number 8 (unread p)) (omega (arith, length_bits 8 (unread p)))) ∙ number_of_bits 8 (unread p) ∙ low ∙ sym there)

  pub does_begin : (p.bits % 2 ^ 16 ≡ 0x8b1f) ⊎ ((p.bits ≡ 0x1f) × (p.count ≡ 8)) → begins_member (bits_of_number (bits_left p) (unread p) ++ more) ≡ true
  does_begin begins = elim (cases_lt (bits_left p) 16) [
    | inl short ↦
        let o = only_byte short in
        elim begins [
          | inl both ↦ absurd (let w : p.bits % 2 ^ 16 ≡ p.bits = mod-eq_of_lt (omega (arith, o.2)) in omega (arith, o.2))
          | inr one ↦
              let a : eqb (number_of (take 16 (bits_of_number (bits_left p) (unread p) ++ more))) 0x8b1f ≡ false = ne_eqb _ 0x8b1f (λ e. omega (arith, o.3, one.0)) in
              let b : eqb (number_of (take 16 (bits_of_number (bits_left p) (unread p) ++ more))) 0x1f ≡ true = eq-eqb _ 0x1f (o.3 ∙ one.0) in
              let d : eqb (length (bits_of_number (bits_left p) (unread p) ++ more)) 8 ≡ true = eq-eqb _ 8 (omega (arith, size_is, o.1, ap length (last short))) in
              rw (a, b, d) refl
        ]
    | inr long ↦ elim begins [
      | inl both ↦
          let a : eqb (number_of (take 16 (bits_of_number (bits_left p) (unread p) ++ more))) 0x8b1f ≡ true = eq-eqb _ 0x8b1f (first_two long ∙ both) in
          rw a refl
      | inr one ↦ absurd (omega (arith, all, one.1))
    ]
  ]

  pub does_not_begin : (p.bits % 2 ^ 16 ≡ 0x8b1f → ⊥) → (p.bits ≡ 0x1f → p.count ≡ 8 → ⊥) → begins_member (bits_of_number (bits_left p) (unread p) ++ more) ≡ false
  does_not_begin no_two no_one = elim (cases_lt (bits_left p) 16) [
    | inl short ↦
        let o = only_byte short in
        let w : p.bits % 2 ^ 16 ≡ p.bits = mod-eq_of_lt (omega (arith, o.2)) in
        let a : eqb (number_of (take 16 (bits_of_number (bits_left p) (unread p) ++ more))) 0x8b1f ≡ false = ne_eqb _ 0x8b1f (λ e. no_two (w ∙ sym o.3 ∙ e)) in
        let b : eqb (number_of (take 16 (bits_of_number (bits_left p) (unread p) ++ more))) 0x1f ≡ false = ne_eqb _ 0x1f (λ e. no_one (sym o.3 ∙ e) o.0) in
        rw (a, b) refl
    | inr long ↦
        let a : eqb (number_of (take 16 (bits_of_number (bits_left p) (unread p) ++ more))) 0x8b1f ≡ false = ne_eqb _ 0x8b1f (λ e. no_two (sym (first_two long) ∙ e)) in
        let d : eqb (length (bits_of_number (bits_left p) (unread p) ++ more)) 8 ≡ false = ne_eqb _ 8 (λ e. omega (arith, size_is)) in
        elim (cases_Bool (eqb (number_of (take 16 (bits_of_number (bits_left p) (unread p) ++ more))) 0x1f)) [
          | inl b ↦ rw (a, b, d) refl
          | inr b ↦ rw (a, b) refl
        ]
  ]

-- ---- steps of a decoder

module _ (old new : Decoder) (more : List ℕ) where
  pub come_end : held old.input ++ more ≡ [] → new.output ≡ old.output → to_come old BetweenMembers more ≡ add_before (decoded old.output new.output) (to_come new Ended more)
  unfolding rest_of
  come_end none same = others_none (held old.input ++ more) none ∙ ap (λ (l : List ℕ). add_before l (nothing (Ok []))) (sym (same_decoded old.output new.output same))

  pub come_zero : number_at 8 (held old.input ++ more) ≡ Ok (0, held new.input ++ more) → new.output ≡ old.output →
      to_come old BetweenMembers more ≡ add_before (decoded old.output new.output) (to_come new BetweenMembers more)
  unfolding rest_of
  come_zero zeros same =
      others_zero (held old.input ++ more) (held new.input ++ more) zeros
      ∙ ap (λ (l : List ℕ). add_before l (others (held new.input ++ more))) (sym (same_decoded old.output new.output same))

  pub come_member : held new.input ≡ held old.input → 0 < length (held old.input ++ more) → (number_of (take 8 (held old.input ++ more)) ≡ 0 → ⊥) → begins_member (held old.input ++ more) ≡ true →
      new.output ≡ old.output → to_come old BetweenMembers more ≡ add_before (decoded old.output new.output) (to_come new MemberPhase more)
  unfolding rest_of
  come_member same_bits some first begins same =
      others_member (held old.input ++ more) some first begins
      ∙ ap (λ (l : List ℕ). followed_by (member (l ++ more)) others) (sym same_bits)
      ∙ ap (λ (l : List ℕ). add_before l (followed_by (member (held new.input ++ more)) others)) (sym (same_decoded old.output new.output same))

  pub come_others : 0 < length (held old.input ++ more) → (number_of (take 8 (held old.input ++ more)) ≡ 0 → ⊥) → begins_member (held old.input ++ more) ≡ false →
      rest_of (place_of old) BetweenMembers (held old.input ++ more) ≡ nothing (Err Trailing)
  unfolding rest_of
  come_others some first begins = others_other (held old.input ++ more) some first begins
