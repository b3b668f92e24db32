-- Texts without a slash and without a mark, and the addresses of each family.
use Rattle.std.proofs.Common.{◌≡◌, ℕ, ◌*◌, ◌^◌, ◌≤◌, ◌<◌, List, [], ◌∷◌, ◌++◌, Option, Some, None, IfNone, sym, ap, subst, ◌∙◌, arith, lit≤}
use Rattle.std.specs.Prelude.{◌≢◌}
use Rattle.std.specs.List.{AllByRecursion}
use Rattle.std.specs.Fmt.{decimal}
use Rattle.ip_text.specs.Spellings.{IsIpv6Text}
use Rattle.ip_text.proofs.SpellingLaws.{HasNo, spelled_have_no}
use Rattle.command_line.specs.Addresses.{IsAddress, IsNoAddress}
use Rattle.command_line.specs.Choices.{SpellsBits, IsPlain}
use Rattle.command_line.proofs.Points.{digits_above, octet_itself}
use Rattle.command_line.proofs.Unique.{address_unique}

abbrev IsPlainByte : ℕ → Type 0
IsPlainByte byte = (byte ≢ 43) × (byte ≢ 45) × (byte ≢ 47)

joined : (xs ys : List ℕ) → IsPlain xs → IsPlain ys → IsPlain (xs ++ ys)
joined [] ys a b = b
joined (x ∷ xs) ys a b = (a.0, joined xs ys a.1 b)

digit_or_past : (x : ℕ) → 48 ≤ x → IsPlainByte x
digit_or_past x h = ((λ e. omega arith), (λ e. omega arith), (λ e. omega arith))

digits_or_past : (text : List ℕ) → AllByRecursion (λ d. 48 ≤ d) text → IsPlain text
digits_or_past [] all = tt
digits_or_past (x ∷ xs) all = (digit_or_past x all.0, digits_or_past xs all.1)

pub plain_decimal : (n : ℕ) → n < 256 → IsPlain (decimal n)
plain_decimal n h = digits_or_past (decimal n) (digits_above (decimal n) n (octet_itself n h))

point : IsPlainByte 46
point = ((λ e. absurd (omega arith)), (λ e. absurd (omega arith)), (λ e. absurd (omega arith)))

with_point : (n : ℕ) (rest : List ℕ) → n < 256 → IsPlain rest → IsPlain (decimal n ++ 46 ∷ rest)
with_point n rest h plain = joined (decimal n) (46 ∷ rest) (plain_decimal n h) (point, plain)

plain_address : (text : List ℕ) (n : ℕ) → IsAddress text n → IsPlain text
plain_address text n a =
    let three = with_point a.third (decimal a.fourth) a.third_below (plain_decimal a.fourth a.fourth_below) in
    let two = with_point a.second (decimal a.third ++ 46 ∷ decimal a.fourth) a.second_below three in
    subst IsPlain (sym a.written) (with_point a.first (decimal a.second ++ 46 ∷ (decimal a.third ++ 46 ∷ decimal a.fourth)) a.first_below two)

pub plain_bits : (text : List ℕ) (bits : ℕ) → SpellsBits text bits → IsPlain text
plain_bits text bits s = plain_address text s.number s.spelled

pub one_bits : (text : List ℕ) (a b : ℕ) → SpellsBits text a → SpellsBits text b → a ≡ b
one_bits text a b s t = s.placed ∙ ap (λ n. n * 2 ^ 96) (address_unique text s.number t.number s.spelled t.spelled) ∙ sym t.placed

without : (text : List ℕ) → HasNo 43 text → HasNo 45 text → HasNo 47 text → IsPlain text
without [] plus minus slash = tt
without (x ∷ xs) plus minus slash = ((plus.0, minus.0, slash.0), without xs plus.1 minus.1 slash.1)

pub plain_ipv6 : (text : List ℕ) (bits : ℕ) → IsIpv6Text text bits → IsPlain text
plain_ipv6 text bits s =
    without text (spelled_have_no 43 (lit≤ tt) (λ e. absurd (omega arith)) text s.groups s.spelled)
    (spelled_have_no 45 (lit≤ tt) (λ e. absurd (omega arith)) text s.groups s.spelled)
    (spelled_have_no 47 (lit≤ tt) (λ e. absurd (omega arith)) text s.groups s.spelled)

-- ---- an address that is read, by its bits

pub no_bits : (o : Option ℕ) (text : List ℕ) → IfNone o (IsNoAddress text) → IfNone o ((bits : ℕ) → SpellsBits text bits → ⊥)
no_bits None text h = λ bits s. h s.number s.spelled
no_bits (Some a) text h = tt
