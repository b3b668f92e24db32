-- A text is that of one number alone.
use Rattle.std.proofs.Common.{◌≡◌, ℕ, ◌+◌, ◌*◌, ◌^◌, ◌<◌, List, ◌∷◌, ◌++◌, length, take, refl, sym, ◌∙◌, arith}
use Rattle.std.specs.Fmt.{decimal}
use Rattle.std.proofs.lemmas.Fmt.{decimal_injective}
use Rattle.command_line.specs.Addresses.{IsOctet, StartsWithOctet, IsAddress}
use Rattle.command_line.proofs.Points.{point_behind, front_of, rest_of}

octet_unique : (text : List ℕ) (m n : ℕ) → IsOctet text m → IsOctet text n → m ≡ n
octet_unique text m n a b =
    let a_below : m < 256 = a.below in
    let b_below : n < 256 = b.below in
    decimal_injective m n (omega arith) (omega arith) (sym a.written ∙ b.written)

starts_unique : (text : List ℕ) (m : ℕ) (r : List ℕ) (n : ℕ) (s : List ℕ) → StartsWithOctet text m r → StartsWithOctet text n s → (m ≡ n) × (r ≡ s)
starts_unique text m r n s a b =
    let at = point_behind text m r a in
    let p = length (decimal m) in
    (octet_unique (take p text) m n (front_of text m r p a at) (front_of text n s p b at), rest_of text m r p a at ∙ sym (rest_of text n s p b at))

pub address_unique : (text : List ℕ) (m n : ℕ) → IsAddress text m → IsAddress text n → m ≡ n
address_unique text m n a b =
    let one = starts_unique text a.first (decimal a.second ++ 46 ∷ (decimal a.third ++ 46 ∷ decimal a.fourth)) b.first (decimal b.second ++ 46 ∷ (decimal b.third ++ 46 ∷ decimal b.fourth)) (record { below = a.first_below; written = a.written }) (record { below = b.first_below; written = b.written }) in
    let two = starts_unique (decimal a.second ++ 46 ∷ (decimal a.third ++ 46 ∷ decimal a.fourth)) a.second (decimal a.third ++ 46 ∷ decimal a.fourth) b.second (decimal b.third ++ 46 ∷ decimal b.fourth) (record { below = a.second_below; written = refl }) (record { below = b.second_below; written = one.1 }) in
    let three = starts_unique (decimal a.third ++ 46 ∷ decimal a.fourth) a.third (decimal a.fourth) b.third (decimal b.fourth) (record { below = a.third_below; written = refl }) (record { below = b.third_below; written = two.1 }) in
    let four = octet_unique (decimal a.fourth) a.fourth b.fourth (record { below = a.fourth_below; written = refl }) (record { below = b.fourth_below; written = three.1 }) in
    let e1 : a.first ≡ b.first = one.0 in
    let e2 : a.second ≡ b.second = two.0 in
    let e3 : a.third ≡ b.third = three.0 in
    let va : m ≡ a.first * 2 ^ 24 + a.second * 2 ^ 16 + a.third * 2 ^ 8 + a.fourth = a.value in
    let vb : n ≡ b.first * 2 ^ 24 + b.second * 2 ^ 16 + b.third * 2 ^ 8 + b.fourth = b.value in
    omega (arith, four)
