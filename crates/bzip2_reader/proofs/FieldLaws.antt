-- Numbers at the front of bits.
use Rattle.std.proofs.Common.{◌≡◌, ℕ, zero, suc, ◌+◌, ◌-◌, ◌*◌, ◌^◌, ◌<◌, ◌≤◌, Ok, Err, List, [], ◌∷◌, length, drop, refl, ◌∙◌, ap, arith}
use Rattle.std.proofs.lemmas.Nat.{pow-add}
use Rattle.bzip2_reader.specs.declared.fault.BlockFault.{BlockFault}
use Rattle.bzip2_reader.specs.declared.fault.BlockFault.TheVariants.{ShortBlock}
use Rattle.bzip2_reader.specs.Fields.{Reading, number_from}
use Rattle.bzip2_reader.specs.Words.{AreBits, front, front_from}

abbrev value_in : Reading ℕ → ℕ
value_in (Ok x) = x.0
value_in (Err fault) = 0

abbrev rest_in : Reading ℕ → List ℕ
rest_in (Ok x) = x.1
rest_in (Err fault) = []

pow_double : (n : ℕ) → 2 ^ suc n ≡ 2 * 2 ^ n
pow_double n = let e : suc n ≡ 1 + n = omega arith in ap (λ k. 2 ^ k) e ∙ pow-add 2 1 n

-- the digits so far, and those that come
pub front_add : (value n : ℕ) (bits : List ℕ) → front_from value n bits ≡ value * 2 ^ n + front n bits
unfolding front_from
front_add value zero bits = omega arith
front_add value (suc n) [] = omega (arith, front_add (value * 2) n [], front_add 0 n [], ap (λ p. value * p) (pow_double n))
front_add value (suc n) (b ∷ bits) = omega (arith, front_add (value * 2 + b) n bits, front_add (0 * 2 + b) n bits, ap (λ p. value * p) (pow_double n))

pub front_split : (value n m : ℕ) (bits : List ℕ) → front_from value (n + m) bits ≡ front_from (front_from value n bits) m (drop n bits)
unfolding front_from
front_split value zero m bits = let e : 0 + m ≡ m = omega arith in ap (λ k. front_from value k bits) e
front_split value (suc n) m [] = let e : suc n + m ≡ suc (n + m) = omega arith in rw e (front_split (value * 2) n m [] ∙ ap (front_from (front_from (value * 2) n []) m) (drop_none n))
  where
    drop_none : (n : ℕ) → drop {A = ℕ} n [] ≡ []
    drop_none zero = refl
    drop_none (suc n) = refl
front_split value (suc n) m (b ∷ bits) = let e : suc n + m ≡ suc (n + m) = omega arith in rw e (front_split (value * 2 + b) n m bits)

pub front_below : (n : ℕ) (bits : List ℕ) → AreBits bits → front n bits < 2 ^ n
unfolding front_from
front_below zero bits are = omega arith
front_below (suc n) [] are = omega (arith, front_below n [] are, pow_double n)
front_below (suc n) (b ∷ bits) are =
    let rest : front n bits < 2 ^ n = front_below n bits (λ k. are (suc k)) in
    let few : b < 2 = are 0 in
    let e : (0 * 2 + b) * 2 ^ n ≤ 2 ^ n = one_at_most b (2 ^ n) few in
    omega (arith, front_add (0 * 2 + b) n bits, rest, pow_double n, e)
  where
    one_at_most : (b p : ℕ) → b < 2 → (0 * 2 + b) * p ≤ p
    one_at_most zero p h = omega arith
    one_at_most (suc zero) p h = omega arith
    one_at_most (suc (suc b)) p h = absurd (omega arith)

-- a number that is there
pub number_there : (value n : ℕ) (bits : List ℕ) → n ≤ length bits → number_from value n bits ≡ Ok (front_from value n bits, drop n bits)
unfolding number_from front_from
number_there value zero bits h = refl
number_there value (suc n) [] h = absurd (omega (arith, h))
number_there value (suc n) (b ∷ bits) h = number_there (value * 2 + b) n bits (omega (arith, h))

-- too few bits
pub number_short : (value n : ℕ) (bits : List ℕ) → length bits < n → number_from value n bits ≡ Err ShortBlock
unfolding number_from
number_short value zero bits h = absurd (omega (arith, h))
number_short value (suc n) [] h = refl
number_short value (suc n) (b ∷ bits) h = number_short (value * 2 + b) n bits (omega (arith, h))

-- a number of fewer bits, in one of more
pub front_part : (n m : ℕ) (bits : List ℕ) → n ≤ m → front m bits ≡ front n bits * 2 ^ (m - n) + front (m - n) (drop n bits)
front_part n m bits h =
    let e : m ≡ n + (m - n) = omega (arith, h) in
    ap (λ k. front k bits) e ∙ front_split 0 n (m - n) bits ∙ front_add (front n bits) (m - n) (drop n bits)

pub bits_later : (n : ℕ) (bits : List ℕ) → AreBits bits → AreBits (drop n bits)
bits_later zero bits are = are
bits_later (suc n) [] are = λ k. omega arith
bits_later (suc n) (b ∷ bits) are = bits_later n bits (λ k. are (suc k))

pub front_none : (value n : ℕ) → front_from value n [] ≡ value * 2 ^ n
unfolding front_from
front_none value zero = omega arith
front_none value (suc n) = omega (arith, front_none (value * 2) n, ap (λ p. value * p) (pow_double n))

pub number_more : (value n m : ℕ) (bits rest : List ℕ) (x : ℕ) → number_from value n bits ≡ Ok (x, rest) → number_from value (n + m) bits ≡ number_from x m rest
unfolding number_from
number_more value zero m bits rest x e = (let z : 0 + m ≡ m = omega arith in ap (λ k. number_from value k bits) z ∙ ap (λ v. number_from v m bits) (ap value_in e) ∙ ap (number_from x m) (ap rest_in e))
number_more value (suc n) m [] rest x e = absurd cc
number_more value (suc n) m (b ∷ bits) rest x e = (let s : suc n + m ≡ suc (n + m) = omega arith in ap (λ k. number_from value k (b ∷ bits)) s ∙ number_more (value * 2 + b) n m bits rest x e)

pub number_fault : (value n m : ℕ) (bits : List ℕ) (fault : BlockFault) → number_from value n bits ≡ Err fault → number_from value (n + m) bits ≡ Err fault
unfolding number_from
number_fault value zero m bits fault e = absurd cc
number_fault value (suc n) m [] fault e = (let s : suc n + m ≡ suc (n + m) = omega arith in ap (λ k. number_from value k []) s ∙ e)
number_fault value (suc n) m (b ∷ bits) fault e = (let s : suc n + m ≡ suc (n + m) = omega arith in ap (λ k. number_from value k (b ∷ bits)) s ∙ number_fault (value * 2 + b) n m bits fault e)

abbrev shift : ℕ → Reading ℕ → Reading ℕ
shift v (Ok x) = Ok (v + x.0, x.1)
shift v (Err fault) = Err fault

-- digits behind others
pub number_behind : (value base n : ℕ) (bits : List ℕ) → number_from (base + value) n bits ≡ shift (base * 2 ^ n) (number_from value n bits)
unfolding number_from
number_behind value base zero bits = (let e : base + value ≡ base * 1 + value = omega arith in ap (λ v. Ok (v, bits)) e)
number_behind value base (suc n) [] = refl
number_behind value base (suc n) (b ∷ bits) =
    (let e : (base + value) * 2 + b ≡ base * 2 + (value * 2 + b) = omega arith in
    let p : base * 2 * 2 ^ n ≡ base * 2 ^ suc n = omega (arith, ap (λ q. base * q) (pow_double n)) in
    ap (λ v. number_from v n bits) e ∙ number_behind (value * 2 + b) (base * 2) n bits ∙ ap (λ v. shift v (number_from (value * 2 + b) n bits)) p)

pub number_two : (high low n m : ℕ) (bits rest rest2 : List ℕ) → number_from 0 n bits ≡ Ok (high, rest) → number_from 0 m rest ≡ Ok (low, rest2) → number_from 0 (n + m) bits ≡ Ok (high * 2 ^ m + low, rest2)
number_two high low n m bits rest rest2 e f = (let z : high ≡ high + 0 = omega arith in number_more 0 n m bits rest high e ∙ ap (λ v. number_from v m rest) z ∙ number_behind 0 high m rest ∙ ap (shift (high * 2 ^ m)) f)

pub number_two_fault : (high n m : ℕ) (bits rest : List ℕ) (fault : BlockFault) → number_from 0 n bits ≡ Ok (high, rest) → number_from 0 m rest ≡ Err fault → number_from 0 (n + m) bits ≡ Err fault
number_two_fault high n m bits rest fault e f = (let z : high ≡ high + 0 = omega arith in number_more 0 n m bits rest high e ∙ ap (λ v. number_from v m rest) z ∙ number_behind 0 high m rest ∙ ap (shift (high * 2 ^ m)) f)
