-- A file, part by part.
use Rattle.std.proofs.Common.{◌≡◌, ℕ, zero, suc, ◌+◌, ◌-◌, ◌*◌, ◌%◌, ◌<◌, ◌≤◌, ◌⊎◌, inl, inr, Bool, true, false, ◌&&◌, Ok, Err, Result, Some, None, List, [], ◌∷◌, ◌++◌, length, length-drop, drop, refl, sym, ◌∙◌, ap, arith, subst, if◌then◌else◌, ◌==◌, bit_xor}
use Rattle.std.specs.Prelude.{nat_le}
use Rattle.std.specs.Int.{rotate_left, w32}
use Rattle.bzip2_reader.specs.declared.fault.BlockFault.TheVariants.{BadChecksum, LongBlock}
use Rattle.bzip2_reader.specs.declared.fault.Cause.{Cause}
use Rattle.bzip2_reader.specs.declared.fault.Cause.TheVariants.{Block, NoStream, StreamChecksum}
use Rattle.bzip2_reader.specs.Blocks.{Block as BlockRead, block_at}
use Rattle.bzip2_reader.specs.Checksums.{checksum_of}
use Rattle.bzip2_reader.specs.Fields.{Reading, ◌>>=◌, demand, number, number_from}
use Rattle.bzip2_reader.specs.Files.{Part, Place, Between, Inside, IsMore, Unpacked, after_part, block_in, end_in, head_at, head_byte, part_at, told, unpack, unpack_from}
use Rattle.bzip2_reader.specs.Runs.{written}
use Rattle.bzip2_reader.specs.Steady.{TakesSome}
use Rattle.bzip2_reader.proofs.FairBlocks.{block_takes}
use Rattle.bzip2_reader.proofs.FieldLaws.{number_short, number_there}

-- ---- a part takes some bits

abbrev Less : ℕ → Result Part Cause → Type 0
Less n (Ok part) = length part.rest < n
Less n (Err cause) = Unit {0}

abbrev LessBits : ℕ → Result (ℕ × List ℕ) Cause → Type 0
LessBits n (Ok x) = length x.1 < n
LessBits n (Err cause) = Unit {0}

less_then : (n : ℕ) (r : Result (ℕ × List ℕ) Cause) (f : ℕ × List ℕ → Result Part Cause) → LessBits n r → ((x : ℕ × List ℕ) → length x.1 < n → Less n (f x)) → Less n (r >>= f)
less_then n (Ok x) f h more = more x h
less_then n (Err cause) f h more = tt

less_demand : (n : ℕ) (b : Bool) (cause : Cause) (r : Result Part Cause) → Less n r → Less n (demand b cause >>= λ _. r)
less_demand n true cause r h = h
less_demand n false cause r h = tt

there_or_not : (n m : ℕ) → (n ≤ m) ⊎ (m < n)
there_or_not n m = grind arith

number_by : (n : ℕ) (bits : List ℕ) → 0 < n → (n ≤ length bits) ⊎ (length bits < n) → LessBits (length bits) (told (number n bits))
number_by n bits some (inl there) = subst (λ (r : Reading ℕ). LessBits (length bits) (told r)) (sym (number_there 0 n bits there)) (omega (arith, length-drop n bits, there, some))
number_by n bits some (inr short) = subst (λ (r : Reading ℕ). LessBits (length bits) (told r)) (sym (number_short 0 n bits short)) tt

number_less : (n : ℕ) (bits : List ℕ) → 0 < n → LessBits (length bits) (told (number n bits))
number_less n bits some = number_by n bits some (there_or_not n (length bits))

checked_less : (n : ℕ) (p : ℕ → Bool) (r : Result (ℕ × List ℕ) Cause) → LessBits n r → LessBits n (r >>= λ byte. demand (p byte.0) NoStream >>= λ _. Ok byte)
checked_less n p (Ok x) h = by (p x.0)
  where
    by : (b : Bool) → LessBits n (demand b NoStream >>= λ _. Ok x)
    by true = h
    by false = tt
checked_less n p (Err cause) h = tt

byte_less : (p : ℕ → Bool) (bits : List ℕ) → LessBits (length bits) (head_byte p bits)
byte_less p bits = checked_less (length bits) p (told (number 8 bits)) (number_less 8 bits (omega arith))

less_by : (n m : ℕ) (r : Result (ℕ × List ℕ) Cause) → m < n → LessBits m r → LessBits n r
less_by n m (Ok x) h less = omega (arith, h, less)
less_by n m (Err cause) h less = tt

head_less : (bits : List ℕ) → Less (length bits) (head_at bits)
unfolding head_at
head_less bits =
    let n = length bits in
    less_then n (head_byte (λ n. n == 0x42) bits)
    (λ b. head_byte (λ n. n == 0x5A) b.1 >>= λ z. head_byte (λ n. n == 0x68) z.1 >>= λ h. head_byte (λ n. nat_le 0x31 n && nat_le n 0x39) h.1 >>= λ level.
    Ok (record { given = []; next = Inside (100000 * (level.0 - 0x30)) 0; rest = level.1 }))
    (byte_less (λ n. n == 0x42) bits)
    (λ b less. less_then n (head_byte (λ n. n == 0x5A) b.1)
    (λ z. head_byte (λ n. n == 0x68) z.1 >>= λ h. head_byte (λ n. nat_le 0x31 n && nat_le n 0x39) h.1 >>= λ level. Ok (record { given = []; next = Inside (100000 * (level.0 - 0x30)) 0; rest = level.1 }))
    (less_by n (length b.1) (head_byte (λ n. n == 0x5A) b.1) less (byte_less (λ n. n == 0x5A) b.1))
    (λ z less2. less_then n (head_byte (λ n. n == 0x68) z.1)
    (λ h. head_byte (λ n. nat_le 0x31 n && nat_le n 0x39) h.1 >>= λ level. Ok (record { given = []; next = Inside (100000 * (level.0 - 0x30)) 0; rest = level.1 }))
    (less_by n (length z.1) (head_byte (λ n. n == 0x68) z.1) less2 (byte_less (λ n. n == 0x68) z.1))
    (λ h less3. less_then n (head_byte (λ n. nat_le 0x31 n && nat_le n 0x39) h.1)
    (λ level. Ok (record { given = []; next = Inside (100000 * (level.0 - 0x30)) 0; rest = level.1 }))
    (less_by n (length h.1) (head_byte (λ n. nat_le 0x31 n && nat_le n 0x39) h.1) less3 (byte_less (λ n. nat_le 0x31 n && nat_le n 0x39) h.1))
    (λ level less4. less4))))

end_less : (n sum : ℕ) (bits : List ℕ) → length bits < n → Less n (end_in sum bits)
unfolding end_in
end_less n sum bits h =
    less_then n (told (number 32 bits)) (λ named. demand (named.0 == sum) StreamChecksum >>= λ _. Ok (record { given = []; next = Between; rest = drop (length named.1 % 8) named.1 }))
    (less_by n (length bits) (told (number 32 bits)) h (number_less 32 bits (omega arith)))
    (λ named less. less_demand n (named.0 == sum) StreamChecksum (Ok (record { given = []; next = Between; rest = drop (length named.1 % 8) named.1 })) (omega (arith, length-drop (length named.1 % 8) named.1, less)))

longer : (xs ys : List ℕ) → 0 < length xs → length ys < length (xs ++ ys)
longer [] ys some = absurd (omega (arith, some))
longer (x ∷ []) ys some = omega arith
longer (x ∷ y ∷ xs) ys some = omega (arith, longer (y ∷ xs) ys (omega arith))

block_less : (most sum : ℕ) (bits : List ℕ) → Less (length bits) (block_in most sum bits)
unfolding block_in
block_less most sum bits = by (block_at bits) (block_takes bits)
  where
    by : (r : Reading BlockRead) → TakesSome bits r →
        Less (length bits) (told r >>= λ block. demand (nat_le (length block.0.text) most) (Block LongBlock) >>= λ _. demand (checksum_of (written block.0.text) == block.0.checksum) (Block BadChecksum) >>= λ _.
        Ok (record { given = written block.0.text; next = Inside most (bit_xor (rotate_left w32 sum 1) block.0.checksum); rest = block.1 }))
    by (Ok x) t =
        less_demand (length bits) (nat_le (length x.0.text) most) (Block LongBlock) _
        (less_demand (length bits) (checksum_of (written x.0.text) == x.0.checksum) (Block BadChecksum) _ (omega (arith, longer t.0 x.1 t.2, ap length t.1)))
    by (Err fault) t = tt

if_less : (n : ℕ) (b : Bool) (r q : Result Part Cause) → Less n r → Less n q → Less n (if b then r else q)
if_less n true r q h g = h
if_less n false r q h g = g

part_less : (place : Place) (bits : List ℕ) → Less (length bits) (part_at place bits)
part_less Between bits = head_less bits
part_less (Inside most sum) bits =
    less_then (length bits) (told (number 48 bits)) (λ magic. if magic.0 == 0x177245385090 then end_in sum magic.1 else block_in most sum bits) (number_less 48 bits (omega arith))
    (λ magic less. if_less (length bits) (magic.0 == 0x177245385090) (end_in sum magic.1) (block_in most sum bits) (end_less (length bits) sum magic.1 less) (block_less most sum bits))

-- ---- how many parts are asked for doesn't matter

abbrev on_part : ℕ → Result Part Cause → Unpacked
on_part n (Ok part) = after_part part.given (unpack_from n part.next part.rest)
on_part n (Err cause) = record { given = []; damage = Some cause }

on_part_is : (n : ℕ) (r : Result Part Cause) → (elim r [ Ok part ↦ after_part part.given (unpack_from n part.next part.rest) | Err cause ↦ record { given = []; damage = Some cause } ]) ≡ on_part n r
on_part_is n (Ok part) = refl
on_part_is n (Err cause) = refl

from_next : (n : ℕ) (place : Place) (bits : List ℕ) → IsMore place bits → unpack_from (suc n) place bits ≡ on_part n (part_at place bits)
unfolding unpack_from
from_next n Between [] more = absurd more
from_next n Between (b ∷ bits) more = on_part_is n (part_at Between (b ∷ bits))
from_next n (Inside most sum) bits more = on_part_is n (part_at (Inside most sum) bits)

from_end : (n : ℕ) → unpack_from (suc n) Between [] ≡ record { given = []; damage = None }
unfolding unpack_from
from_end n = refl

abbrev Same : ℕ → ℕ → Type 0
Same n m = (place : Place) (bits : List ℕ) → length bits < n → length bits < m → unpack_from n place bits ≡ unpack_from m place bits

same_on : (n m size : ℕ) (r : Result Part Cause) → Same n m → size ≤ n → size ≤ m → Less size r → on_part n r ≡ on_part m r
same_on n m size (Ok part) same h g less = ap (after_part part.given) (same part.next part.rest (omega (arith, h, less)) (omega (arith, g, less)))
same_on n m size (Err cause) same h g less = refl

same_more : (n m : ℕ) (place : Place) (bits : List ℕ) → Same n m → IsMore place bits → length bits ≤ n → length bits ≤ m → unpack_from (suc n) place bits ≡ unpack_from (suc m) place bits
same_more n m place bits same more h g =
    from_next n place bits more ∙ same_on n m (length bits) (part_at place bits) same h g (part_less place bits) ∙ sym (from_next m place bits more)

same_from : (n m : ℕ) (place : Place) (bits : List ℕ) → length bits < n → length bits < m → unpack_from n place bits ≡ unpack_from m place bits
same_from zero m place bits h g = absurd (omega (arith, h))
same_from (suc n) zero place bits h g = absurd (omega (arith, g))
same_from (suc n) (suc m) Between [] h g = from_end n ∙ sym (from_end m)
same_from (suc n) (suc m) Between (b ∷ bits) h g = same_more n m Between (b ∷ bits) (same_from n m) tt (omega (arith, h)) (omega (arith, g))
same_from (suc n) (suc m) (Inside most sum) bits h g = same_more n m (Inside most sum) bits (same_from n m) tt (omega (arith, h)) (omega (arith, g))

-- ---- a file goes on with its next part

one_more : (bits : List ℕ) → length bits + 1 ≡ suc (length bits)
one_more bits = omega arith

unpack_by : (place : Place) (bits : List ℕ) → IsMore place bits → unpack place bits ≡ on_part (length bits) (part_at place bits)
unfolding unpack
unpack_by place bits more = ap (λ n. unpack_from n place bits) (one_more bits) ∙ from_next (length bits) place bits more

pub unpack_fault : (place : Place) (bits : List ℕ) (cause : Cause) → IsMore place bits → part_at place bits ≡ Err cause → unpack place bits ≡ record { given = []; damage = Some cause }
unpack_fault place bits cause more e = unpack_by place bits more ∙ ap (on_part (length bits)) e

part_more : (place : Place) (bits : List ℕ) (part : Part) → part_at place bits ≡ Ok part → IsMore place bits
unfolding head_at number_from
part_more Between [] part e = cc
part_more Between (b ∷ bits) part e = tt
part_more (Inside most sum) bits part e = tt

pub unpack_next : (place : Place) (bits : List ℕ) (part : Part) → part_at place bits ≡ Ok part → unpack place bits ≡ after_part part.given (unpack part.next part.rest)
unfolding unpack
unpack_next place bits part e =
    let less : length part.rest < length bits = subst (Less (length bits)) e (part_less place bits) in
    unpack_by place bits (part_more place bits part e) ∙ ap (on_part (length bits)) e
    ∙ ap (after_part part.given) (same_from (length bits) (length part.rest + 1) part.next part.rest less (omega arith))

pub unpack_end : unpack Between [] ≡ record { given = []; damage = None }
unfolding unpack
unpack_end = from_end 0
