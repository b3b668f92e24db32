-- A prefix that is written is read.
use Rattle.std.proofs.Common.{◌≡◌, ℕ, zero, suc, ◌+◌, ◌-◌, ◌*◌, ◌/◌, ◌%◌, ◌^◌, ◌≤◌, List, [], ◌∷◌, ◌++◌, length, take, refl, sym, ap, ◌∙◌, arith, pow-add}
use Rattle.std.specs.Int.{byte_at, bytes_high_first, div_ceil}
use Rattle.std.proofs.lemmas.List.{length-take}
use Rattle.std.proofs.Math.Nat.{mod-eq_of_lt, mod-one, mul_assoc, mul-mod_left, pow-succ'}
use Rattle.byteorder.specs.Endian.{big_from, big_number, big_bytes}
use Rattle.byteorder.specs.Numbers.{big_from-cons, big_from-bytes, length-bytes_high_first}
use Rattle.bgp_prefix.specs.Prefixes.{IpPrefix, IsIpPrefix, network_of}
use Rattle.bgp_update.specs.Keys.{prefix_of}
use Rattle.mrt_writing.specs.Prefixes.{prefix_octets}

from_none : (i n : ℕ) → big_from i n [] ≡ 0
from_none i zero = refl
from_none i (suc n) = omega (arith, from_none (suc i) n)

-- the leading bytes of a number whose other bytes are 0 spell it
leading_bytes : (m n k x : ℕ) → n + k ≡ m → x % 256 ^ k ≡ 0 → big_from 0 m (take n (bytes_high_first m x)) ≡ x % 256 ^ m
leading_bytes zero zero k x e low = sym (mod-one x)
leading_bytes zero (suc n) k x e low = absurd (omega (arith, e))
leading_bytes (suc m) zero k x e low = from_none 0 (suc m) ∙ sym (ap (λ (j : ℕ). x % 256 ^ j) (omega (arith, e)) ∙ low)
leading_bytes (suc m) (suc n) k x e low =
    let front : List ℕ = take n (bytes_high_first m x) in
    let moved : big_from 1 m (byte_at m x ∷ front) ≡ big_from 0 m front = big_from-cons 0 m (byte_at m x) front in
    let whole : byte_at m x * 256 ^ m + big_from 1 m (byte_at m x ∷ bytes_high_first m x ++ []) ≡ x % 256 ^ suc m = big_from-bytes (suc m) x [] in
    let whole_moved : big_from 1 m (byte_at m x ∷ bytes_high_first m x ++ []) ≡ big_from 0 m (bytes_high_first m x ++ []) = big_from-cons 0 m (byte_at m x) (bytes_high_first m x ++ []) in
    let rest : big_from 0 m front ≡ x % 256 ^ m = leading_bytes m n k x (omega (arith, e)) low in
    ap (λ (r : ℕ). byte_at m x * 256 ^ m + r) (moved ∙ rest ∙ sym (big_from-bytes m x []) ∙ sym whole_moved) ∙ whole

pow_of_bytes : (k : ℕ) → 256 ^ k ≡ 2 ^ (8 * k)
pow_of_bytes zero = refl
pow_of_bytes (suc k) =
    let more : 2 ^ (8 * suc k) ≡ 2 ^ 8 * 2 ^ (8 * k) = ap (λ (j : ℕ). 2 ^ j) (omega arith) ∙ pow-add 2 8 (8 * k) in
    pow-succ' 256 k ∙ ap (λ (j : ℕ). 256 * j) (pow_of_bytes k) ∙ sym more

-- what has no bit past the length has no byte past the bytes that hold it
low_bytes : (a len n : ℕ) → len ≤ 8 * n → n ≤ 16 → a / 2 ^ (128 - len) * 2 ^ (128 - len) ≡ a → a % 256 ^ (16 - n) ≡ 0
low_bytes a len n long few cleared =
    let k = 16 - n in
    let d = 8 * n - len in
    let bits : 128 - len ≡ d + 8 * k = omega (arith, long, few) in
    let block : 2 ^ (128 - len) ≡ 2 ^ d * 256 ^ k = ap (λ (j : ℕ). 2 ^ j) bits ∙ pow-add 2 d (8 * k) ∙ ap (λ (j : ℕ). 2 ^ d * j) (sym (pow_of_bytes k)) in
    let q = a / 2 ^ (128 - len) in
    let parts : a ≡ (q * 2 ^ d) * 256 ^ k = sym cleared ∙ ap (λ (j : ℕ). q * j) block ∙ sym (mul_assoc q (2 ^ d) (256 ^ k)) in
    ap (λ (j : ℕ). j % 256 ^ k) parts ∙ mul-mod_left (q * 2 ^ d) (256 ^ k)

-- a prefix is given back by its length and its bytes
pub prefix_again : (p : IpPrefix) → IsIpPrefix p → prefix_of p.len (prefix_octets p) ≡ p
unfolding prefix_octets
prefix_again p h =
    let n = div_ceil p.len 8 in
    let octets : List ℕ = take n (big_bytes 16 p.addr) in
    let few : n ≤ 16 = omega (arith, h.short) in
    let low = low_bytes p.addr p.len n (omega arith) few h.cleared in
    let number : big_number 16 octets ≡ p.addr = leading_bytes 16 n (16 - n) p.addr (omega (arith, few)) low ∙ mod-eq_of_lt h.fits in
    λ i. record { addr = (ap (λ (a : ℕ). network_of a p.len) number ∙ h.cleared) i; len = p.len }

pub octets_are : (p : IpPrefix) → p.len ≤ 128 → length (prefix_octets p) ≡ div_ceil p.len 8
unfolding prefix_octets
octets_are p short = omega (arith, short, length-take (div_ceil p.len 8) (big_bytes 16 p.addr), length-bytes_high_first 16 p.addr)
