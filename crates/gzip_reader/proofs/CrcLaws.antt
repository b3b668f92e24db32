-- CRC-32 is linear, so a byte's share of it can be looked up.
use Rattle.std.proofs.Common.{◌≡◌, ℕ, ◌+◌, ◌-◌, ◌*◌, ◌/◌, ◌%◌, ◌^◌, ◌<◌, ◌≤◌, zero, suc, List, [], ◌∷◌, ◌++◌, length, slice_index, slice_set, drop, drop-cons, refl, sym, ◌∙◌, ap, arith}
use Rattle.std.specs.Int.Bits.{bit_xor, xor_assoc, xor_zero_l, xor_zero_r}
use Rattle.std.proofs.lemmas.Nat.{xor_comm, xor_shr, xor_mod, xor_block}
use Rattle.std.proofs.lemmas.Grind.{common_steps}
use Rattle.byteorder.specs.Endian.{little_from}
use Rattle.gzip_reader.specs.Crc.{crc_bit, crc_bits, crc, IsTable}

-- the sums of four, in another order
pub xor_four : (a b c d : ℕ) → bit_xor (bit_xor a b) (bit_xor c d) ≡ bit_xor (bit_xor a c) (bit_xor b d)
xor_four a b c d =
    xor_assoc a b (bit_xor c d)
    ∙ ap (λ (n : ℕ). bit_xor a n) (sym (xor_assoc b c d) ∙ ap (λ (n : ℕ). bit_xor n d) (xor_comm b c) ∙ xor_assoc c b d)
    ∙ sym (xor_assoc a c (bit_xor b d))

pub bit_times : (a b : ℕ) → a < 2 → b < 2 → bit_xor a b * 0xEDB88320 ≡ bit_xor (a * 0xEDB88320) (b * 0xEDB88320)
bit_times zero zero _ _ = refl
bit_times zero (suc zero) _ _ = refl
bit_times (suc zero) zero _ _ = refl
bit_times (suc zero) (suc zero) _ _ = refl
bit_times (suc (suc a)) b p q = absurd (omega arith)
bit_times a (suc (suc b)) p q = absurd (omega arith)

pub bit_linear : (x y : ℕ) → crc_bit (bit_xor x y) ≡ bit_xor (crc_bit x) (crc_bit y)
unfolding crc_bit
bit_linear x y =
    let half : bit_xor x y / 2 ≡ bit_xor (x / 2) (y / 2) = xor_shr x y 1 in
    let odd : bit_xor x y % 2 ≡ bit_xor (x % 2) (y % 2) = xor_mod x y 1 in
    let times = bit_times (x % 2) (y % 2) (omega arith) (omega arith) in
    rw (half, odd, times) (xor_four (x / 2) (y / 2) (x % 2 * 0xEDB88320) (y % 2 * 0xEDB88320))

pub bits_linear : (n x y : ℕ) → crc_bits n (bit_xor x y) ≡ bit_xor (crc_bits n x) (crc_bits n y)
unfolding crc_bits
bits_linear zero x y = refl
bits_linear (suc n) x y = ap (crc_bits n) (bit_linear x y) ∙ bits_linear n (crc_bit x) (crc_bit y)

pub bit_even : (m : ℕ) → crc_bit (m * 2) ≡ m
unfolding crc_bit
bit_even m =
    let half : m * 2 / 2 ≡ m = omega arith in
    let even : m * 2 % 2 ≡ 0 = omega arith in
    rw (half, even) (xor_zero_r m)

-- eight bits move a byte out
pub bits_byte : (q : ℕ) → crc_bits 8 (q * 256) ≡ q
unfolding crc_bits
bits_byte q =
    let e1 : crc_bit (q * 256) ≡ q * 128 = ap crc_bit (omega arith) ∙ bit_even (q * 128) in
    let e2 : crc_bit (q * 128) ≡ q * 64 = ap crc_bit (omega arith) ∙ bit_even (q * 64) in
    let e3 : crc_bit (q * 64) ≡ q * 32 = ap crc_bit (omega arith) ∙ bit_even (q * 32) in
    let e4 : crc_bit (q * 32) ≡ q * 16 = ap crc_bit (omega arith) ∙ bit_even (q * 16) in
    let e5 : crc_bit (q * 16) ≡ q * 8 = ap crc_bit (omega arith) ∙ bit_even (q * 8) in
    let e6 : crc_bit (q * 8) ≡ q * 4 = ap crc_bit (omega arith) ∙ bit_even (q * 4) in
    let e7 : crc_bit (q * 4) ≡ q * 2 = ap crc_bit (omega arith) ∙ bit_even (q * 2) in
    rw (e1, e2, e3, e4, e5, e6, e7) (bit_even q)

pub bits_more : (m n c : ℕ) → crc_bits (m + n) c ≡ crc_bits n (crc_bits m c)
unfolding crc_bits
bits_more zero n c = let e : 0 + n ≡ n = omega arith in rw e refl
bits_more (suc m) n c = let e : suc m + n ≡ suc (m + n) = omega arith in rw e (bits_more m n (crc_bit c))

pub bits_one : (n c : ℕ) → crc_bits (n + 1) c ≡ crc_bit (crc_bits n c)
unfolding crc_bits
bits_one n c = bits_more n 1 c

-- a number is its lowest byte and the others
pub byte_split : (x : ℕ) → bit_xor (x / 256 * 256) (x % 256) ≡ x
byte_split x =
    let l : x / 256 * 256 ≡ x / 256 * 2 ^ 8 + 0 = omega arith in
    let r : x % 256 ≡ 0 * 2 ^ 8 + x % 256 = omega arith in
    let b : x % 256 < 2 ^ 8 = omega arith in
    ap (λ (n : ℕ). bit_xor n (x % 256)) l ∙ ap (λ (n : ℕ). bit_xor (x / 256 * 2 ^ 8 + 0) n) r
    ∙ xor_block 8 (x / 256) 0 0 (x % 256) (omega arith) b
    ∙ ap (λ (n : ℕ). n * 2 ^ 8 + bit_xor 0 (x % 256)) (xor_zero_r (x / 256))
    ∙ ap (λ (n : ℕ). x / 256 * 2 ^ 8 + n) (xor_zero_l (x % 256))
    ∙ omega arith

-- the share of the lowest byte, and that of the others, which comes a byte later
pub bits_split : (n x : ℕ) → crc_bits (8 + n) x ≡ bit_xor (crc_bits n (x / 256)) (crc_bits (8 + n) (x % 256))
bits_split n x =
    ap (crc_bits (8 + n)) (sym (byte_split x))
    ∙ bits_linear (8 + n) (x / 256 * 256) (x % 256)
    ∙ ap (λ (v : ℕ). bit_xor v (crc_bits (8 + n) (x % 256))) (bits_more 8 n (x / 256 * 256) ∙ ap (crc_bits n) (bits_byte (x / 256)))

-- the number that bytes make, the lowest first
unfoldable pub low_first : List ℕ → ℕ
low_first [] = 0
low_first (b ∷ bs) = bit_xor b (low_first bs * 256)

pub crc_low_first : (c : ℕ) (bs : List ℕ) → crc c bs ≡ crc_bits (8 * length bs) (bit_xor c (low_first bs))
unfolding crc crc_bits low_first
crc_low_first c [] = sym (xor_zero_r c)
crc_low_first c (b ∷ bs) =
    let e : 8 * suc (length bs) ≡ 8 + 8 * length bs = omega arith in
    let move : crc_bits 8 (bit_xor c (bit_xor b (low_first bs * 256))) ≡ bit_xor (crc_bits 8 (bit_xor c b)) (low_first bs) =
    ap (crc_bits 8) (sym (xor_assoc c b (low_first bs * 256))) ∙ bits_linear 8 (bit_xor c b) (low_first bs * 256)
    ∙ ap (λ (v : ℕ). bit_xor (crc_bits 8 (bit_xor c b)) v) (bits_byte (low_first bs)) in
    crc_low_first (crc_bits 8 (bit_xor c b)) bs
    ∙ ap (crc_bits (8 * length bs)) (sym move)
    ∙ sym (bits_more 8 (8 * length bs) (bit_xor c (bit_xor b (low_first bs * 256))))
    ∙ ap (λ (n : ℕ). crc_bits n (bit_xor c (bit_xor b (low_first bs * 256)))) (sym e)

pub crc_append : (c : ℕ) (xs ys : List ℕ) → crc c (xs ++ ys) ≡ crc (crc c xs) ys
unfolding crc
crc_append c [] ys = refl
crc_append c (x ∷ xs) ys = crc_append (crc_bits 8 (bit_xor c x)) xs ys

-- one look-up
pub bits_look_up : (x : ℕ) → bit_xor (x / 256) (crc_bits 8 (x % 256)) ≡ crc_bits 8 x
unfolding crc_bits
bits_look_up x = sym (bits_split 0 x)

-- the share of the lowest byte last, so many bits later
byte_last : (m k x : ℕ) → m ≡ 8 + k → crc_bits m x ≡ bit_xor (crc_bits k (x / 256)) (crc_bits m (x % 256))
byte_last m k x e =
    ap (λ (j : ℕ). crc_bits j x) e ∙ bits_split k x ∙ ap (λ (j : ℕ). bit_xor (crc_bits k (x / 256)) (crc_bits j (x % 256))) (sym e)

-- eight look-ups, so many bits later
pub bits_eight : (n w a b c d e f g : ℕ) → a ≡ w / 256 → b ≡ a / 256 → c ≡ b / 256 → d ≡ c / 256 → e ≡ d / 256 → f ≡ e / 256 → g ≡ f / 256 →
    crc_bits (64 + n) w ≡ bit_xor (bit_xor (bit_xor (bit_xor (bit_xor (bit_xor (bit_xor (crc_bits (8 + n) g) (crc_bits (16 + n) (f % 256))) (crc_bits (24 + n) (e % 256)))
    (crc_bits (32 + n) (d % 256))) (crc_bits (40 + n) (c % 256))) (crc_bits (48 + n) (b % 256))) (crc_bits (56 + n) (a % 256))) (crc_bits (64 + n) (w % 256))
bits_eight n w a b c d e f g pa pb pc pd pe pf pg =
    byte_last (64 + n) (56 + n) w (omega arith) ∙ ap (λ (v : ℕ). bit_xor v (crc_bits (64 + n) (w % 256))) (ap (crc_bits (56 + n)) (sym pa)
    ∙ byte_last (56 + n) (48 + n) a (omega arith) ∙ ap (λ (v : ℕ). bit_xor v (crc_bits (56 + n) (a % 256))) (ap (crc_bits (48 + n)) (sym pb)
    ∙ byte_last (48 + n) (40 + n) b (omega arith) ∙ ap (λ (v : ℕ). bit_xor v (crc_bits (48 + n) (b % 256))) (ap (crc_bits (40 + n)) (sym pc)
    ∙ byte_last (40 + n) (32 + n) c (omega arith) ∙ ap (λ (v : ℕ). bit_xor v (crc_bits (40 + n) (c % 256))) (ap (crc_bits (32 + n)) (sym pd)
    ∙ byte_last (32 + n) (24 + n) d (omega arith) ∙ ap (λ (v : ℕ). bit_xor v (crc_bits (32 + n) (d % 256))) (ap (crc_bits (24 + n)) (sym pe)
    ∙ byte_last (24 + n) (16 + n) e (omega arith) ∙ ap (λ (v : ℕ). bit_xor v (crc_bits (24 + n) (e % 256))) (ap (crc_bits (16 + n)) (sym pf)
    ∙ byte_last (16 + n) (8 + n) f (omega arith) ∙ ap (λ (v : ℕ). bit_xor v (crc_bits (16 + n) (f % 256))) (ap (crc_bits (8 + n)) (sym pg))))))))

pub table_at : (t : List ℕ) (j b : ℕ) → IsTable 4096 t → j < 16 → b < 256 → slice_index t (256 * j + b) ≡ crc_bits (8 * j + 8) b
table_at t j b is p q =
    let row : (256 * j + b) / 256 ≡ j = omega arith in
    let column : (256 * j + b) % 256 ≡ b = omega arith in
    let at : slice_index t (256 * j + b) ≡ crc_bits (8 * ((256 * j + b) / 256) + 8) ((256 * j + b) % 256) = is (256 * j + b) (omega arith) in
    at ∙ ap (λ (n : ℕ). crc_bits (8 * n + 8) ((256 * j + b) % 256)) row ∙ ap (λ (n : ℕ). crc_bits (8 * j + 8) n) column

-- one of eight, where so many bytes more follow
table_later : (t : List ℕ) (from more place k n b : ℕ) → IsTable 4096 t → from ≡ 256 * more → k + more < 16 → b < 256 → place ≡ from + 256 * k + b → n ≡ 8 * k + 8 + 8 * more →
    slice_index t place ≡ crc_bits n b
table_later t from more place k n b is start few small at bits =
    let p : place ≡ 256 * (k + more) + b = omega arith in
    let q : 8 * (k + more) + 8 ≡ n = omega arith in
    ap (slice_index t) p ∙ table_at t (k + more) b is few small ∙ ap (λ (m : ℕ). crc_bits m b) q

pub table_more : (t : List ℕ) (i v : ℕ) → i < length t → IsTable i t → v ≡ crc_bits (8 * (i / 256) + 8) (i % 256) → IsTable (i + 1) (slice_set t i v)
table_more t i v inside is e k below = grind (arith, common_steps, is k)

-- the first table
pub table_first : (i v : ℕ) → i < 256 → v ≡ crc_bits 8 i → v ≡ crc_bits (8 * (i / 256) + 8) (i % 256)
table_first i v small e =
    let row : 8 * (i / 256) + 8 ≡ 8 = omega arith in
    let column : i % 256 ≡ i = omega arith in
    e ∙ ap (λ (n : ℕ). crc_bits 8 n) (sym column) ∙ ap (λ (n : ℕ). crc_bits n (i % 256)) (sym row)

-- a further table, from the one before
pub table_next : (t : List ℕ) (i before : ℕ) → 256 ≤ i → i < 4096 → IsTable i t → before ≡ slice_index t (i - 256) →
    bit_xor (before / 256) (slice_index t (before % 256)) ≡ crc_bits (8 * (i / 256) + 8) (i % 256)
table_next t i before low high is e =
    let at : slice_index t (before % 256) ≡ crc_bits 8 (before % 256) =
    is (before % 256) (omega arith) ∙ sym (table_first (before % 256) (crc_bits 8 (before % 256)) (omega arith) refl) in
    let old : before ≡ crc_bits (8 * ((i - 256) / 256) + 8) ((i - 256) % 256) = e ∙ is (i - 256) (omega arith) in
    let row : 8 * ((i - 256) / 256) + 8 + 8 ≡ 8 * (i / 256) + 8 = omega arith in
    let column : (i - 256) % 256 ≡ i % 256 = omega arith in
    ap (λ (v : ℕ). bit_xor (before / 256) v) at ∙ bits_look_up before ∙ ap (crc_bits 8) old
    ∙ sym (bits_more (8 * ((i - 256) / 256) + 8) 8 ((i - 256) % 256))
    ∙ ap (λ (n : ℕ). crc_bits n ((i - 256) % 256)) row ∙ ap (crc_bits (8 * (i / 256) + 8)) column

-- ---- bytes as a number
abbrev pub low_sum : List ℕ → ℕ
low_sum [] = 0
low_sum (b ∷ bs) = b + 256 * low_sum bs

pub little_tail : (i n x : ℕ) (xs : List ℕ) → little_from (suc i) n (x ∷ xs) ≡ little_from i n xs
little_tail i zero x xs = refl
little_tail i (suc n) x xs = ap (λ (v : ℕ). slice_index xs i + 256 * v) (little_tail (suc i) n x xs)

pub little_sum : (xs : List ℕ) → little_from 0 (length xs) xs ≡ low_sum xs
little_sum [] = refl
little_sum (x ∷ xs) = ap (λ (v : ℕ). x + 256 * v) (little_tail 0 (length xs) x xs ∙ little_sum xs)

pub byte_join : (b r : ℕ) → b < 256 → bit_xor b (r * 256) ≡ b + 256 * r
byte_join b r small =
    let l : b ≡ 0 * 2 ^ 8 + b = omega arith in
    let h : r * 256 ≡ r * 2 ^ 8 + 0 = omega arith in
    let s : b < 2 ^ 8 = omega arith in
    ap (λ (n : ℕ). bit_xor n (r * 256)) l ∙ ap (λ (n : ℕ). bit_xor (0 * 2 ^ 8 + b) n) h
    ∙ xor_block 8 0 r b 0 s (omega arith)
    ∙ ap (λ (n : ℕ). n * 2 ^ 8 + bit_xor b 0) (xor_zero_l r) ∙ ap (λ (n : ℕ). r * 2 ^ 8 + n) (xor_zero_r b) ∙ omega arith

pub low_first_sum : (xs : List ℕ) → ((k : ℕ) → slice_index xs k < 256) → low_first xs ≡ low_sum xs
unfolding low_first
low_first_sum [] small = refl
low_first_sum (x ∷ xs) small =
    byte_join x (low_first xs) (small 0) ∙ ap (λ (v : ℕ). x + 256 * v) (low_first_sum xs (λ k. small (suc k)))

-- eight bytes at once
pub crc_eight : (r w : ℕ) (bs : List ℕ) → length bs ≡ 8 → ((k : ℕ) → slice_index bs k < 256) → w ≡ bit_xor (little_from 0 8 bs) r → crc r bs ≡ crc_bits 64 w
crc_eight r w bs long small e =
    let l : little_from 0 8 bs ≡ low_first bs = ap (λ (n : ℕ). little_from 0 n bs) (sym long) ∙ little_sum bs ∙ sym (low_first_sum bs small) in
    crc_low_first r bs ∙ ap (λ (n : ℕ). crc_bits (8 * n) (bit_xor r (low_first bs))) long
    ∙ ap (crc_bits 64) (xor_comm r (low_first bs) ∙ ap (λ (n : ℕ). bit_xor n r) (sym l) ∙ sym e)

pub xor_both : (a b c d : ℕ) → a ≡ b → c ≡ d → bit_xor a c ≡ bit_xor b d
xor_both a b c d p q = ap (λ (n : ℕ). bit_xor n c) p ∙ ap (λ (n : ℕ). bit_xor b n) q

pub eight_look_ups : (t : List ℕ) (from more w : ℕ) → IsTable 4096 t → from ≡ 256 * more → from ≤ 2048 → w < 2 ^ 64 →
    bit_xor (bit_xor (bit_xor (bit_xor (bit_xor (bit_xor (bit_xor (slice_index t (from + w / 256 / 256 / 256 / 256 / 256 / 256 / 256))
    (slice_index t (from + 256 + w / 256 / 256 / 256 / 256 / 256 / 256 % 256))) (slice_index t (from + 512 + w / 256 / 256 / 256 / 256 / 256 % 256)))
    (slice_index t (from + 768 + w / 256 / 256 / 256 / 256 % 256))) (slice_index t (from + 1024 + w / 256 / 256 / 256 % 256)))
    (slice_index t (from + 1280 + w / 256 / 256 % 256))) (slice_index t (from + 1536 + w / 256 % 256))) (slice_index t (from + 1792 + w % 256)) ≡ crc_bits (64 + 8 * more) w
eight_look_ups t from more w is start few fits =
    let g : ℕ = w / 256 / 256 / 256 / 256 / 256 / 256 / 256 in
    let last : g < 256 = omega arith in
    xor_both _ _ _ _ (xor_both _ _ _ _ (xor_both _ _ _ _ (xor_both _ _ _ _ (xor_both _ _ _ _ (xor_both _ _ _ _ (xor_both _ _ _ _
    (table_later t from more _ 0 (8 + 8 * more) g is start (omega arith) last (omega arith) (omega arith))
    (table_later t from more _ 1 (16 + 8 * more) (w / 256 / 256 / 256 / 256 / 256 / 256 % 256) is start (omega arith) (omega arith) (omega arith) (omega arith)))
    (table_later t from more _ 2 (24 + 8 * more) (w / 256 / 256 / 256 / 256 / 256 % 256) is start (omega arith) (omega arith) (omega arith) (omega arith)))
    (table_later t from more _ 3 (32 + 8 * more) (w / 256 / 256 / 256 / 256 % 256) is start (omega arith) (omega arith) (omega arith) (omega arith)))
    (table_later t from more _ 4 (40 + 8 * more) (w / 256 / 256 / 256 % 256) is start (omega arith) (omega arith) (omega arith) (omega arith)))
    (table_later t from more _ 5 (48 + 8 * more) (w / 256 / 256 % 256) is start (omega arith) (omega arith) (omega arith) (omega arith)))
    (table_later t from more _ 6 (56 + 8 * more) (w / 256 % 256) is start (omega arith) (omega arith) (omega arith) (omega arith)))
    (table_later t from more _ 7 (64 + 8 * more) (w % 256) is start (omega arith) (omega arith) (omega arith) (omega arith))
    ∙ sym (bits_eight (8 * more) w _ _ _ _ _ _ _ refl refl refl refl refl refl refl)

-- sixteen bytes at once
pub crc_sixteen : (r x y : ℕ) (xs ys : List ℕ) → length xs ≡ 8 → length ys ≡ 8 → ((k : ℕ) → slice_index xs k < 256) → ((k : ℕ) → slice_index ys k < 256) →
    x ≡ bit_xor (little_from 0 8 xs) r → y ≡ little_from 0 8 ys → bit_xor (crc_bits 64 y) (crc_bits 128 x) ≡ crc r (xs ++ ys)
crc_sixteen r x y xs ys long_xs long_ys small_xs small_ys ex ey =
    let first : crc r xs ≡ crc_bits 64 x = crc_eight r x xs long_xs small_xs ex in
    let second : crc (crc r xs) ys ≡ crc_bits 64 (bit_xor y (crc r xs)) =
    crc_eight (crc r xs) (bit_xor y (crc r xs)) ys long_ys small_ys (ap (λ (n : ℕ). bit_xor n (crc r xs)) ey) in
    sym (crc_append r xs ys ∙ second ∙ bits_linear 64 y (crc r xs)
    ∙ ap (λ (n : ℕ). bit_xor (crc_bits 64 y) n) (ap (crc_bits 64) first ∙ sym (bits_more 64 64 x)))

-- the register after the first of the bytes that are left
pub crc_front : (v u : ℕ) (front rest all : List ℕ) → front ++ rest ≡ all → u ≡ crc v front → crc u rest ≡ crc v all
crc_front v u front rest all split e = ap (λ (n : ℕ). crc n rest) e ∙ sym (crc_append v front rest) ∙ ap (crc v) split

-- the same of one byte
pub crc_one : (v u i : ℕ) (bs : List ℕ) → i < length bs → u ≡ crc_bits 8 (bit_xor v (slice_index bs i)) → crc u (drop (i + 1) bs) ≡ crc v (drop i bs)
unfolding crc
crc_one v u i bs inside e = crc_front v u (slice_index bs i ∷ []) (drop (i + 1) bs) (drop i bs) (grind (arith, common_steps, drop-cons bs i 0 inside)) e

pub step_look_up : (s t : List ℕ) (mixed : ℕ) → s ≡ t → IsTable 4096 t → bit_xor (mixed / 256) (slice_index s (mixed % 256)) ≡ crc_bits 8 mixed
step_look_up s t mixed same is =
    let z : mixed % 256 ≡ 256 * 0 + mixed % 256 = omega arith in
    ap (λ (l : List ℕ). bit_xor (mixed / 256) (slice_index l (mixed % 256))) same
    ∙ ap (λ (v : ℕ). bit_xor (mixed / 256) v) (ap (λ (n : ℕ). slice_index t n) z ∙ table_at t 0 (mixed % 256) is (omega arith) (omega arith))
    ∙ bits_look_up mixed
