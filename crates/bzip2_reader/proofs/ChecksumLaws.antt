-- The checksum is linear, so that the share of a byte can be looked up.
use Rattle.std.proofs.Common.{◌≡◌, ℕ, ◌+◌, ◌-◌, ◌*◌, ◌/◌, ◌%◌, ◌^◌, ◌<◌, ◌≤◌, zero, suc, List, [], ◌∷◌, ◌++◌, length, slice_index, slice_set, take, drop, drop-cons, refl, sym, ◌∙◌, ap, arith}
use Rattle.std.specs.Int.Bits.{bit_xor, xor_assoc, xor_zero_l, xor_zero_r}
use Rattle.std.proofs.lemmas.Nat.{xor_comm, xor_shr, xor_mod, xor_block}
use Rattle.std.proofs.lemmas.Grind.{common_steps}
use Rattle.byteorder.specs.Endian.{big_from}
use Rattle.bzip2_reader.specs.Checksums.{crc_bit, crc_bits, crc, IsTable}

-- the sums of four, in another order
pub xor_four : (a b c d : ℕ) → bit_xor (bit_xor a b) (bit_xor c d) ≡ bit_xor (bit_xor a c) (bit_xor b d)
xor_four a b c d =
    xor_assoc a b (bit_xor c d)
    ∙ ap (λ (n : ℕ). bit_xor a n) (sym (xor_assoc b c d) ∙ ap (λ (n : ℕ). bit_xor n d) (xor_comm b c) ∙ xor_assoc c b d)
    ∙ sym (xor_assoc a c (bit_xor b d))

pub xor_both : (a b c d : ℕ) → a ≡ b → c ≡ d → bit_xor a c ≡ bit_xor b d
xor_both a b c d p q = ap (λ (n : ℕ). bit_xor n c) p ∙ ap (λ (n : ℕ). bit_xor b n) q

-- a sum of two numbers that share no bits
pub xor_join : (h l : ℕ) → l < 2 ^ 24 → bit_xor (h * 2 ^ 24) l ≡ h * 2 ^ 24 + l
xor_join h l small =
    let a : h * 2 ^ 24 ≡ h * 2 ^ 24 + 0 = omega arith in
    let b : l ≡ 0 * 2 ^ 24 + l = omega arith in
    ap (λ (n : ℕ). bit_xor n l) a ∙ ap (λ (n : ℕ). bit_xor (h * 2 ^ 24 + 0) n) b
    ∙ xor_block 24 h 0 0 l (omega arith) small
    ∙ ap (λ (n : ℕ). n * 2 ^ 24 + bit_xor 0 l) (xor_zero_r h)
    ∙ ap (λ (n : ℕ). h * 2 ^ 24 + n) (xor_zero_l l)

pub xor_double : (a b : ℕ) → bit_xor a b * 2 ≡ bit_xor (a * 2) (b * 2)
xor_double a b =
    let x : a * 2 ≡ a * 2 ^ 1 + 0 = omega arith in
    let y : b * 2 ≡ b * 2 ^ 1 + 0 = omega arith in
    let block : bit_xor (a * 2 ^ 1 + 0) (b * 2 ^ 1 + 0) ≡ bit_xor a b * 2 ^ 1 + bit_xor 0 0 = xor_block 1 a b 0 0 (omega arith) (omega arith) in
    let none : bit_xor 0 0 ≡ 0 = xor_zero_l 0 in
    let value : bit_xor a b * 2 ≡ bit_xor a b * 2 ^ 1 + bit_xor 0 0 = omega (arith, none) in
    value ∙ sym (xor_both _ _ _ _ x y ∙ block)

pub bit_times : (a b : ℕ) → a < 2 → b < 2 → bit_xor a b * 0x04C11DB7 ≡ bit_xor (a * 0x04C11DB7) (b * 0x04C11DB7)
bit_times zero zero _ _ = refl
bit_times zero (suc zero) _ _ = refl
bit_times (suc zero) zero _ _ = refl
bit_times (suc zero) (suc zero) _ _ = refl
bit_times (suc (suc a)) b p q = absurd (omega arith)
bit_times a (suc (suc b)) p q = absurd (omega arith)

pub bit_linear : (x y : ℕ) → crc_bit (bit_xor x y) ≡ bit_xor (crc_bit x) (crc_bit y)
unfolding crc_bit
bit_linear x y =
    let double : bit_xor x y * 2 % 2 ^ 32 ≡ bit_xor (x * 2 % 2 ^ 32) (y * 2 % 2 ^ 32) =
    ap (λ (n : ℕ). n % 2 ^ 32) (xor_double x y) ∙ xor_mod (x * 2) (y * 2) 32 in
    let top : bit_xor x y / 2 ^ 31 % 2 ≡ bit_xor (x / 2 ^ 31 % 2) (y / 2 ^ 31 % 2) =
    ap (λ (n : ℕ). n % 2) (xor_shr x y 31) ∙ xor_mod (x / 2 ^ 31) (y / 2 ^ 31) 1 in
    let times = bit_times (x / 2 ^ 31 % 2) (y / 2 ^ 31 % 2) (omega arith) (omega arith) in
    rw (double, top, times) (xor_four (x * 2 % 2 ^ 32) (y * 2 % 2 ^ 32) (x / 2 ^ 31 % 2 * 0x04C11DB7) (y / 2 ^ 31 % 2 * 0x04C11DB7))

pub bits_linear : (n x y : ℕ) → crc_bits n (bit_xor x y) ≡ bit_xor (crc_bits n x) (crc_bits n y)
unfolding crc_bits
bits_linear zero x y = refl
bits_linear (suc n) x y = ap (crc_bits n) (bit_linear x y) ∙ bits_linear n (crc_bit x) (crc_bit y)

-- below the highest bit, a bit later is twice as much
pub bit_low : (m : ℕ) → m < 2 ^ 31 → crc_bit m ≡ m * 2
unfolding crc_bit
bit_low m small =
    let low : m * 2 % 2 ^ 32 ≡ m * 2 = omega arith in
    let top : m / 2 ^ 31 % 2 ≡ 0 = omega arith in
    rw (low, top) (xor_zero_r (m * 2))

-- eight bits move a byte up
pub bits_byte : (q : ℕ) → q < 2 ^ 24 → crc_bits 8 q ≡ q * 256
unfolding crc_bits
bits_byte q small =
    let e1 : crc_bit q ≡ q * 2 = bit_low q (omega arith) in
    let e2 : crc_bit (q * 2) ≡ q * 4 = bit_low (q * 2) (omega arith) ∙ omega arith in
    let e3 : crc_bit (q * 4) ≡ q * 8 = bit_low (q * 4) (omega arith) ∙ omega arith in
    let e4 : crc_bit (q * 8) ≡ q * 16 = bit_low (q * 8) (omega arith) ∙ omega arith in
    let e5 : crc_bit (q * 16) ≡ q * 32 = bit_low (q * 16) (omega arith) ∙ omega arith in
    let e6 : crc_bit (q * 32) ≡ q * 64 = bit_low (q * 32) (omega arith) ∙ omega arith in
    let e7 : crc_bit (q * 64) ≡ q * 128 = bit_low (q * 64) (omega arith) ∙ omega arith in
    let e8 : crc_bit (q * 128) ≡ q * 256 = bit_low (q * 128) (omega arith) ∙ omega arith in
    rw (e1, e2, e3, e4, e5, e6, e7) e8

pub bits_more : (m n c : ℕ) → crc_bits (m + n) c ≡ crc_bits n (crc_bits m c)
unfolding crc_bits
bits_more zero n c = let e : 0 + n ≡ n = omega arith in rw e refl
bits_more (suc m) n c = let e : suc m + n ≡ suc (m + n) = omega arith in rw e (bits_more m n (crc_bit c))

pub bits_one : (n c : ℕ) → crc_bits (n + 1) c ≡ crc_bit (crc_bits n c)
unfolding crc_bits
bits_one n c = bits_more n 1 c

-- the share of the highest byte, and that of the others, which come a byte later
pub bits_split : (n x : ℕ) → crc_bits (8 + n) x ≡ bit_xor (crc_bits (8 + n) (x / 2 ^ 24 * 2 ^ 24)) (crc_bits n (x % 2 ^ 24 * 256))
bits_split n x =
    let whole : x ≡ x / 2 ^ 24 * 2 ^ 24 + x % 2 ^ 24 = omega arith in
    ap (crc_bits (8 + n)) (whole ∙ sym (xor_join (x / 2 ^ 24) (x % 2 ^ 24) (omega arith)))
    ∙ bits_linear (8 + n) (x / 2 ^ 24 * 2 ^ 24) (x % 2 ^ 24)
    ∙ ap (λ (v : ℕ). bit_xor (crc_bits (8 + n) (x / 2 ^ 24 * 2 ^ 24)) v)
    (bits_more 8 n (x % 2 ^ 24) ∙ ap (crc_bits n) (bits_byte (x % 2 ^ 24) (omega arith)))

-- one look-up
pub bits_look_up : (x : ℕ) → bit_xor (x * 256 % 2 ^ 32) (crc_bits 8 (x / 2 ^ 24 * 2 ^ 24)) ≡ crc_bits 8 x
unfolding crc_bits
bits_look_up x =
    let low : x * 256 % 2 ^ 32 ≡ x % 2 ^ 24 * 256 = omega arith in
    ap (λ (v : ℕ). bit_xor v (crc_bits 8 (x / 2 ^ 24 * 2 ^ 24))) low
    ∙ xor_comm (x % 2 ^ 24 * 256) (crc_bits 8 (x / 2 ^ 24 * 2 ^ 24))
    ∙ sym (bits_split 0 x)

-- four look-ups
pub bits_four : (n w : ℕ) → crc_bits (32 + n) w ≡ bit_xor (crc_bits (32 + n) (w / 2 ^ 24 * 2 ^ 24))
    (bit_xor (crc_bits (24 + n) (w / 2 ^ 16 % 256 * 2 ^ 24)) (bit_xor (crc_bits (16 + n) (w / 2 ^ 8 % 256 * 2 ^ 24)) (crc_bits (8 + n) (w % 256 * 2 ^ 24))))
bits_four n w =
    let s1 : 32 + n ≡ 8 + (24 + n) = omega arith in
    let s2 : 24 + n ≡ 8 + (16 + n) = omega arith in
    let s3 : 16 + n ≡ 8 + (8 + n) = omega arith in
    let a2 : w % 2 ^ 24 * 256 / 2 ^ 24 * 2 ^ 24 ≡ w / 2 ^ 16 % 256 * 2 ^ 24 = omega arith in
    let b2 : w % 2 ^ 24 * 256 % 2 ^ 24 * 256 ≡ w % 2 ^ 16 * 2 ^ 16 = omega arith in
    let a3 : w % 2 ^ 16 * 2 ^ 16 / 2 ^ 24 * 2 ^ 24 ≡ w / 2 ^ 8 % 256 * 2 ^ 24 = omega arith in
    let b3 : w % 2 ^ 16 * 2 ^ 16 % 2 ^ 24 * 256 ≡ w % 256 * 2 ^ 24 = omega arith in
    let t1 : crc_bits (32 + n) w ≡ bit_xor (crc_bits (32 + n) (w / 2 ^ 24 * 2 ^ 24)) (crc_bits (24 + n) (w % 2 ^ 24 * 256)) = rw s1 (bits_split (24 + n) w) in
    let t2 : crc_bits (24 + n) (w % 2 ^ 24 * 256) ≡ bit_xor (crc_bits (24 + n) (w / 2 ^ 16 % 256 * 2 ^ 24)) (crc_bits (16 + n) (w % 2 ^ 16 * 2 ^ 16)) =
    rw s2 (bits_split (16 + n) (w % 2 ^ 24 * 256) ∙ xor_both _ _ _ _ (ap (crc_bits (8 + (16 + n))) a2) (ap (crc_bits (16 + n)) b2)) in
    let t3 : crc_bits (16 + n) (w % 2 ^ 16 * 2 ^ 16) ≡ bit_xor (crc_bits (16 + n) (w / 2 ^ 8 % 256 * 2 ^ 24)) (crc_bits (8 + n) (w % 256 * 2 ^ 24)) =
    rw s3 (bits_split (8 + n) (w % 2 ^ 16 * 2 ^ 16) ∙ xor_both _ _ _ _ (ap (crc_bits (8 + (8 + n))) a3) (ap (crc_bits (8 + n)) b3)) in
    t1 ∙ ap (λ (v : ℕ). bit_xor (crc_bits (32 + n) (w / 2 ^ 24 * 2 ^ 24)) v)
    (t2 ∙ ap (λ (v : ℕ). bit_xor (crc_bits (24 + n) (w / 2 ^ 16 % 256 * 2 ^ 24)) v) t3)

pub table_at : (t : List ℕ) (i j b : ℕ) → IsTable 2048 t → i ≡ 256 * j + b → j < 8 → b < 256 → slice_index t i ≡ crc_bits (8 * j + 8) (b * 2 ^ 24)
table_at t i j b is e p q =
    let row : i / 256 ≡ j = omega arith in
    let column : i % 256 ≡ b = omega arith in
    is i (omega arith) ∙ ap (λ (n : ℕ). crc_bits (8 * n + 8) (i % 256 * 2 ^ 24)) row ∙ ap (λ (n : ℕ). crc_bits (8 * j + 8) (n * 2 ^ 24)) column

pub four_look_ups : (t : List ℕ) (w more : ℕ) → IsTable 2048 t → w < 2 ^ 32 → more ≤ 4 →
    bit_xor (slice_index t (more * 256 + 768 + w / 2 ^ 24)) (bit_xor (slice_index t (more * 256 + 512 + w / 2 ^ 16 % 256))
    (bit_xor (slice_index t (more * 256 + 256 + w / 2 ^ 8 % 256)) (slice_index t (more * 256 + w % 256)))) ≡ crc_bits (8 * more + 32) w
four_look_ups t w more is fits few =
    let n : ℕ = 8 * more in
    let e3 : 8 * (more + 3) + 8 ≡ 32 + n = omega arith in
    let e2 : 8 * (more + 2) + 8 ≡ 24 + n = omega arith in
    let e1 : 8 * (more + 1) + 8 ≡ 16 + n = omega arith in
    let e0 : 8 * more + 8 ≡ 8 + n = omega arith in
    let e : 32 + n ≡ 8 * more + 32 = omega arith in
    xor_both _ _ _ _ (table_at t (more * 256 + 768 + w / 2 ^ 24) (more + 3) (w / 2 ^ 24) is (omega arith) (omega arith) (omega arith) ∙ ap (λ (v : ℕ). crc_bits v (w / 2 ^ 24 * 2 ^ 24)) e3)
    (xor_both _ _ _ _ (table_at t (more * 256 + 512 + w / 2 ^ 16 % 256) (more + 2) (w / 2 ^ 16 % 256) is (omega arith) (omega arith) (omega arith) ∙ ap (λ (v : ℕ). crc_bits v (w / 2 ^ 16 % 256 * 2 ^ 24)) e2)
    (xor_both _ _ _ _ (table_at t (more * 256 + 256 + w / 2 ^ 8 % 256) (more + 1) (w / 2 ^ 8 % 256) is (omega arith) (omega arith) (omega arith) ∙ ap (λ (v : ℕ). crc_bits v (w / 2 ^ 8 % 256 * 2 ^ 24)) e1)
    (table_at t (more * 256 + w % 256) more (w % 256) is (omega arith) (omega arith) (omega arith) ∙ ap (λ (v : ℕ). crc_bits v (w % 256 * 2 ^ 24)) e0)))
    ∙ sym (bits_four n w) ∙ ap (λ (v : ℕ). crc_bits v w) e

-- a byte at the top of the register is taken, and the bytes below move up
pub absorb : (n r b m : ℕ) → m < 2 ^ 24 → crc_bits (8 + n) (bit_xor r (b * 2 ^ 24 + m)) ≡ crc_bits n (bit_xor (crc_bits 8 (bit_xor r (b * 2 ^ 24))) (m * 256))
absorb n r b m small =
    ap (λ (v : ℕ). crc_bits (8 + n) (bit_xor r v)) (sym (xor_join b m small))
    ∙ ap (crc_bits (8 + n)) (sym (xor_assoc r (b * 2 ^ 24) m))
    ∙ bits_more 8 n (bit_xor (bit_xor r (b * 2 ^ 24)) m)
    ∙ ap (crc_bits n) (bits_linear 8 (bit_xor r (b * 2 ^ 24)) m ∙ ap (λ (v : ℕ). bit_xor (crc_bits 8 (bit_xor r (b * 2 ^ 24))) v) (bits_byte m small))

pub crc_four : (r w a b c d : ℕ) → a < 256 → b < 256 → c < 256 → d < 256 → w ≡ a * 2 ^ 24 + b * 2 ^ 16 + c * 2 ^ 8 + d →
    crc r (a ∷ b ∷ c ∷ d ∷ []) ≡ crc_bits 32 (bit_xor r w)
unfolding crc
crc_four r w a b c d pa pb pc pd e =
    let r1 : ℕ = crc_bits 8 (bit_xor r (a * 2 ^ 24)) in
    let r2 : ℕ = crc_bits 8 (bit_xor r1 (b * 2 ^ 24)) in
    let r3 : ℕ = crc_bits 8 (bit_xor r2 (c * 2 ^ 24)) in
    let w1 : w ≡ a * 2 ^ 24 + (b * 2 ^ 16 + c * 2 ^ 8 + d) = omega arith in
    let w2 : (b * 2 ^ 16 + c * 2 ^ 8 + d) * 256 ≡ b * 2 ^ 24 + (c * 2 ^ 16 + d * 2 ^ 8) = omega arith in
    let w3 : (c * 2 ^ 16 + d * 2 ^ 8) * 256 ≡ c * 2 ^ 24 + d * 2 ^ 16 = omega arith in
    let w4 : d * 2 ^ 16 * 256 ≡ d * 2 ^ 24 = omega arith in
    sym (ap (λ (v : ℕ). crc_bits 32 (bit_xor r v)) w1
    ∙ absorb 24 r a (b * 2 ^ 16 + c * 2 ^ 8 + d) (omega arith)
    ∙ ap (λ (v : ℕ). crc_bits 24 (bit_xor r1 v)) w2
    ∙ absorb 16 r1 b (c * 2 ^ 16 + d * 2 ^ 8) (omega arith)
    ∙ ap (λ (v : ℕ). crc_bits 16 (bit_xor r2 v)) w3
    ∙ absorb 8 r2 c (d * 2 ^ 16) (omega arith)
    ∙ ap (λ (v : ℕ). crc_bits 8 (bit_xor r3 v)) w4)

pub crc_append : (c : ℕ) (xs ys : List ℕ) → crc c (xs ++ ys) ≡ crc (crc c xs) ys
unfolding crc
crc_append c [] ys = refl
crc_append c (x ∷ xs) ys = crc_append (crc_bits 8 (bit_xor c (x * 2 ^ 24))) xs ys

-- eight bytes at once
pub crc_eight : (r u v : ℕ) (bs : List ℕ) → length bs ≡ 8 → ((k : ℕ) → slice_index bs k < 256) → u ≡ big_from 0 4 bs → v ≡ big_from 0 4 (take 4 (drop 4 bs)) →
    crc r bs ≡ bit_xor (crc_bits 64 (bit_xor r u)) (crc_bits 32 v)
crc_eight r u v (a ∷ b ∷ c ∷ d ∷ e ∷ f ∷ g ∷ h ∷ []) long small p q =
    let first : crc r (a ∷ b ∷ c ∷ d ∷ []) ≡ crc_bits 32 (bit_xor r u) = crc_four r u a b c d (small 0) (small 1) (small 2) (small 3) (omega (arith, p)) in
    crc_append r (a ∷ b ∷ c ∷ d ∷ []) (e ∷ f ∷ g ∷ h ∷ [])
    ∙ crc_four (crc r (a ∷ b ∷ c ∷ d ∷ [])) v e f g h (small 4) (small 5) (small 6) (small 7) (omega (arith, q))
    ∙ ap (λ (n : ℕ). crc_bits 32 (bit_xor n v)) first
    ∙ bits_linear 32 (crc_bits 32 (bit_xor r u)) v
    ∙ ap (λ (n : ℕ). bit_xor n (crc_bits 32 v)) (sym (bits_more 32 32 (bit_xor r u)))
crc_eight r u v bs long small p q = absurd (omega arith)

pub table_more : (t : List ℕ) (i v : ℕ) → i < length t → IsTable i t → v ≡ crc_bits (8 * (i / 256) + 8) (i % 256 * 2 ^ 24) → IsTable (i + 1) (slice_set t i v)
table_more t i v inside is e k below = grind (arith, common_steps, is k)

-- the first table
pub table_first : (i v : ℕ) → i < 256 → v ≡ crc_bits 8 (i * 2 ^ 24) → v ≡ crc_bits (8 * (i / 256) + 8) (i % 256 * 2 ^ 24)
table_first i v small e =
    let row : 8 * (i / 256) + 8 ≡ 8 = omega arith in
    let column : i % 256 ≡ i = omega arith in
    e ∙ ap (λ (n : ℕ). crc_bits 8 (n * 2 ^ 24)) (sym column) ∙ ap (λ (n : ℕ). crc_bits n (i % 256 * 2 ^ 24)) (sym row)

-- a further table, from the one before
pub table_next : (t : List ℕ) (i before v : ℕ) → 256 ≤ i → i < 2048 → IsTable i t → before ≡ slice_index t (i - 256) → v ≡ crc_bits 8 before →
    v ≡ crc_bits (8 * (i / 256) + 8) (i % 256 * 2 ^ 24)
table_next t i before v low high is e p =
    let old : before ≡ crc_bits (8 * ((i - 256) / 256) + 8) ((i - 256) % 256 * 2 ^ 24) = e ∙ is (i - 256) (omega arith) in
    let row : 8 * ((i - 256) / 256) + 8 + 8 ≡ 8 * (i / 256) + 8 = omega arith in
    let column : (i - 256) % 256 ≡ i % 256 = omega arith in
    p ∙ ap (crc_bits 8) old
    ∙ sym (bits_more (8 * ((i - 256) / 256) + 8) 8 ((i - 256) % 256 * 2 ^ 24))
    ∙ ap (λ (n : ℕ). crc_bits n ((i - 256) % 256 * 2 ^ 24)) row ∙ ap (λ (n : ℕ). crc_bits (8 * (i / 256) + 8) (n * 2 ^ 24)) column

-- the register after the first of the bytes that are left
pub crc_front : (v u : ℕ) (front rest all : List ℕ) → front ++ rest ≡ all → u ≡ crc v front → crc u rest ≡ crc v all
crc_front v u front rest all split e = ap (λ (n : ℕ). crc n rest) e ∙ sym (crc_append v front rest) ∙ ap (crc v) split

-- the same of one byte
pub crc_one : (v u i : ℕ) (bs : List ℕ) → i < length bs → u ≡ crc_bits 8 (bit_xor v (slice_index bs i * 2 ^ 24)) → crc u (drop (i + 1) bs) ≡ crc v (drop i bs)
unfolding crc
crc_one v u i bs inside e = crc_front v u (slice_index bs i ∷ []) (drop (i + 1) bs) (drop i bs) (grind (arith, common_steps, drop-cons bs i 0 inside)) e

pub look_up : (t : List ℕ) (x : ℕ) → x < 2 ^ 32 → IsTable 256 t → bit_xor (x * 256 % 2 ^ 32) (slice_index t (x / 2 ^ 24)) ≡ crc_bits 8 x
look_up t x fits is =
    let b : ℕ = x / 2 ^ 24 in
    let byte : b < 256 = omega arith in
    ap (λ (v : ℕ). bit_xor (x * 256 % 2 ^ 32) v) (is b byte ∙ sym (table_first b (crc_bits 8 (b * 2 ^ 24)) byte refl)) ∙ bits_look_up x
