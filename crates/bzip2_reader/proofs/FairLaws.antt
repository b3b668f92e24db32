-- Readings that don't depend on what stands behind their bits.
use Rattle.std.proofs.Common.{◌≡◌, ℕ, zero, suc, ◌+◌, ◌*◌, ◌<◌, ◌≤◌, ◌⊎◌, inl, inr, Bool, true, false, Ok, Err, List, [], ◌∷◌, ◌++◌, append_assoc, length, length-take-le, take, drop, refl, sym, ◌∙◌, ap, arith, subst, if◌then◌else◌}
use Rattle.std.proofs.lemmas.List.{take-append-drop}
use Rattle.bzip2_reader.specs.declared.fault.BlockFault.{BlockFault}
use Rattle.bzip2_reader.specs.Fields.{Reading, ◌>>=◌, demand, number, number_from}
use Rattle.bzip2_reader.specs.Steady.{Grown, IsSteady, TakesSome}
use Rattle.bzip2_reader.specs.Words.{AreBits, front_from}
use Rattle.bzip2_reader.proofs.FieldLaws.{number_short, number_there}

-- bits that end with these
abbrev pub Ends : List ℕ → List ℕ → Type 0
Ends bits rest = (front : List ℕ) × (bits ≡ front ++ rest)

-- what is read has this property, and what is left are the last bits
abbrev pub Leaves : {A : Type 0} → (A → Type 0) → List ℕ → Reading A → Type 0
Leaves Q bits (Ok x) = Q x.0 × Ends bits x.1
Leaves Q bits (Err fault) = Unit {0}

pub record Fair (A : Type 0) (Q : A → Type 0) (f : List ℕ → Reading A) : Type 0 where
  pub steady : IsSteady f
  pub leaves : (bits : List ℕ) → Leaves Q bits (f bits)

abbrev pub Any : {A : Type 0} → A → Type 0
Any x = Unit {0}

-- ---- bits

pub bits_before : (xs ys : List ℕ) → AreBits (xs ++ ys) → AreBits xs
bits_before [] ys are k = omega arith
bits_before (x ∷ xs) ys are zero = are 0
bits_before (x ∷ xs) ys are (suc k) = bits_before xs ys (λ j. are (suc j)) k

pub bits_after : (xs ys : List ℕ) → AreBits (xs ++ ys) → AreBits ys
bits_after [] ys are = are
bits_after (x ∷ xs) ys are = bits_after xs ys (λ k. are (suc k))

ends_later : (bits rest last : List ℕ) → Ends bits rest → Ends rest last → Ends bits last
ends_later bits rest last a b = (a.0 ++ b.0, a.1 ∙ ap (λ l. a.0 ++ l) b.1 ∙ sym (append_assoc a.0 b.0 last))

-- ---- readings one after the other

leaves_later : (A : Type 0) (Q : A → Type 0) (bits rest : List ℕ) (r : Reading A) → Ends bits rest → Leaves Q rest r → Leaves Q bits r
leaves_later A Q bits rest (Ok x) ends h = (h.0, ends_later bits rest x.1 ends h.1)
leaves_later A Q bits rest (Err fault) ends h = tt

grown_then : (A B : Type 0) (Q : A → Type 0) (R : B → Type 0) (g : A → List ℕ → Reading B) (bits more : List ℕ) (r r' : Reading A) → AreBits (bits ++ more) → Leaves Q bits r → Grown more r r' →
    ((x : A) → Q x → Fair B R (g x)) → Grown more (r >>= λ x. g x.0 x.1) (r' >>= λ x. g x.0 x.1)
grown_then A B Q R g bits more (Ok x) r' are left e fair =
    let whole : bits ++ more ≡ left.1.0 ++ (x.1 ++ more) = ap (λ l. l ++ more) left.1.1 ∙ append_assoc left.1.0 x.1 more in
    subst (λ (q : Reading A). Grown more (g x.0 x.1) (q >>= λ x. g x.0 x.1)) (sym e)
    ((fair x.0 left.0).steady x.1 more (bits_after left.1.0 (x.1 ++ more) (subst AreBits whole are)))
grown_then A B Q R g bits more (Err fault) r' are left e fair = λ other. ap (λ q. q >>= λ x. g x.0 x.1) (e other)

leaves_then : (A B : Type 0) (Q : A → Type 0) (R : B → Type 0) (g : A → List ℕ → Reading B) (bits : List ℕ) (r : Reading A) → Leaves Q bits r → ((x : A) → Q x → Fair B R (g x)) →
    Leaves R bits (r >>= λ x. g x.0 x.1)
leaves_then A B Q R g bits (Ok x) left fair = leaves_later B R bits x.1 (g x.0 x.1) left.1 ((fair x.0 left.0).leaves x.1)
leaves_then A B Q R g bits (Err fault) left fair = tt

pub fair_then : (A B : Type 0) (Q : A → Type 0) (R : B → Type 0) (f : List ℕ → Reading A) (g : A → List ℕ → Reading B) → Fair A Q f → ((x : A) → Q x → Fair B R (g x)) →
    Fair B R (λ bits. f bits >>= λ x. g x.0 x.1)
fair_then A B Q R f g a b = record {
  steady = λ bits more are. grown_then A B Q R g bits more (f bits) (f (bits ++ more)) are (a.leaves bits) (a.steady bits more are) b;
  leaves = λ bits. leaves_then A B Q R g bits (f bits) (a.leaves bits) b;
}

pub fair_ok : (A : Type 0) (Q : A → Type 0) (x : A) → Q x → Fair A Q (λ bits. Ok (x, bits))
fair_ok A Q x h = record { steady = λ bits more are. refl; leaves = λ bits. (h, ([], refl)) }

pub fair_err : (A : Type 0) (Q : A → Type 0) (fault : BlockFault) → Fair A Q (λ bits. Err fault)
fair_err A Q fault = record { steady = λ bits more are other. refl; leaves = λ bits. tt }

pub fair_demand : (A : Type 0) (Q : A → Type 0) (b : Bool) (fault : BlockFault) (f : List ℕ → Reading A) → (b ≡ true → Fair A Q f) → Fair A Q (λ bits. demand b fault >>= λ _. f bits)
fair_demand A Q true fault f a = a refl
fair_demand A Q false fault f a = fair_err A Q fault

pub fair_if : (A : Type 0) (Q : A → Type 0) (b : Bool) (f g : List ℕ → Reading A) → Fair A Q f → Fair A Q g → Fair A Q (λ bits. if b then f bits else g bits)
fair_if A Q true f g a b = a
fair_if A Q false f g a b = b

-- ---- numbers

pub number_grown : (value n : ℕ) (bits more : List ℕ) → Grown more (number_from value n bits) (number_from value n (bits ++ more))
unfolding number_from
number_grown value zero bits more = refl
number_grown value (suc n) [] more = λ other. absurd (other refl)
number_grown value (suc n) (b ∷ bits) more = number_grown (value * 2 + b) n bits more

one_more : (b : ℕ) (bits : List ℕ) (r : Reading ℕ) → Leaves (Any {A = ℕ}) bits r → Leaves (Any {A = ℕ}) (b ∷ bits) r
one_more b bits (Ok x) h = (tt, (b ∷ h.1.0, ap (λ l. b ∷ l) h.1.1))
one_more b bits (Err fault) h = tt

number_leaves : (value n : ℕ) (bits : List ℕ) → Leaves (Any {A = ℕ}) bits (number_from value n bits)
unfolding number_from
number_leaves value zero bits = (tt, ([], refl))
number_leaves value (suc n) [] = tt
number_leaves value (suc n) (b ∷ bits) = one_more b bits (number_from (value * 2 + b) n bits) (number_leaves (value * 2 + b) n bits)

pub fair_number : (n : ℕ) → Fair ℕ Any (number n)
fair_number n = record { steady = λ bits more are. number_grown 0 n bits more; leaves = number_leaves 0 n }

-- ---- some bits are taken

longer_left : (xs ys : List ℕ) → length xs ≤ length (xs ++ ys)
longer_left [] ys = omega arith
longer_left (x ∷ xs) ys = omega (arith, longer_left xs ys)

takes_behind : (B : Type 0) (R : B → Type 0) (bits front rest : List ℕ) (r : Reading B) → bits ≡ front ++ rest → 0 < length front → Leaves R rest r → TakesSome bits r
takes_behind B R bits front rest (Ok x) e some h =
    (front ++ h.1.0, e ∙ ap (λ l. front ++ l) h.1.1 ∙ sym (append_assoc front h.1.0 x.1), omega (arith, some, longer_left front h.1.0))
takes_behind B R bits front rest (Err fault) e some h = tt

takes_by : (B : Type 0) (R : B → Type 0) (n : ℕ) (g : ℕ → List ℕ → Reading B) (bits : List ℕ) → 0 < n → ((x : ℕ) → Fair B R (g x)) → (n ≤ length bits) ⊎ (length bits < n) →
    TakesSome bits (number n bits >>= λ x. g x.0 x.1)
takes_by B R n g bits some fair (inl there) =
    let v = front_from 0 n bits in
    let size : length (take n bits) ≡ n = length-take-le n bits there in
    subst (λ (r : Reading ℕ). TakesSome bits (r >>= λ x. g x.0 x.1)) (sym (number_there 0 n bits there))
    (takes_behind B R bits (take n bits) (drop n bits) (g v (drop n bits)) (sym (take-append-drop n bits)) (omega (arith, size, some)) ((fair v).leaves (drop n bits)))
takes_by B R n g bits some fair (inr short) = subst (λ (r : Reading ℕ). TakesSome bits (r >>= λ x. g x.0 x.1)) (sym (number_short 0 n bits short)) tt

there_or_not : (n m : ℕ) → (n ≤ m) ⊎ (m < n)
there_or_not n m = grind arith

pub takes_first : (B : Type 0) (R : B → Type 0) (n : ℕ) (g : ℕ → List ℕ → Reading B) (bits : List ℕ) → 0 < n → ((x : ℕ) → Fair B R (g x)) → TakesSome bits (number n bits >>= λ x. g x.0 x.1)
takes_first B R n g bits some fair = takes_by B R n g bits some fair (there_or_not n (length bits))

pub takes_then : (A B : Type 0) (R : B → Type 0) (g : A → List ℕ → Reading B) (bits : List ℕ) (r : Reading A) → TakesSome bits r → ((x : A) → Fair B R (g x)) → TakesSome bits (r >>= λ x. g x.0 x.1)
takes_then A B R g bits (Ok x) t fair = takes_behind B R bits t.0 x.1 (g x.0 x.1) t.1 t.2 ((fair x.0).leaves x.1)
takes_then A B R g bits (Err fault) t fair = tt
